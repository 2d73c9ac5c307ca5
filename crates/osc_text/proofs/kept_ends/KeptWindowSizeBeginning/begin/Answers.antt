use Rattle.std.proofs.Common.{[], ap, refl}
use Rattle.osc_context.specs.Views.{as_server}
use Rattle.osc_endpoint.specs.ServerRun.{values_in}
use Rattle.osc_kept_ends.specs.KeptServing.{IsKept}
use Rattle.osc_kept_ends.specs.Numbering.{upcoming}
use Rattle.osc_kept_ends.specs.Owning.{own_in}
use Rattle.osc_kept_runs.specs.KeptRuns.{server_state}
use Rattle.osc_life.specs.ServerHistory.{Add, Added, Begin, Then}
use Rattle.osc_text.specs.InputEvents.{SpellsKept}
use Rattle.osc_text.specs.KeptSeen.{IsRoomy, kept_seen}
use Rattle.osc_text.specs.KeptServing.{KeptLine, Starts}
use Rattle.osc_text.specs.KeptText.{NotStarted}
use Rattle.osc_text.proofs.FollowedTexts.{any_feed, by_feed, ends_two, ends_zero, lines_told, no_start_followed, ran_told, start_followed}
use Rattle.osc_text.proofs.KeptPrinting.{begun_told, input_told, not_begun_told}
use Rattle.osc_text.proofs.kept_ends.KeptWindowSizeBeginning.begin.Goals as goal

pub returns-in-Ok : goal.returns-in-Ok
returns-in-Ok g c =
    let k = g.K.Keeper in
    let keeper = c.args.self.0 in
    let size = c.args.self.1 in
    let contents = g.W.Write.contents in
    let before = c.args.out.now in
    let after = c.run.new.out in
    let r = c.run.result in
    let (loaded, mid, start, was, is_start, numbers, worked, kept, fits) = c.in-Ok.ensures.begins in
    let h = Then Begin (Add (as_server c.args.context) start size 1) (Added 0) in
    let Refuses = NotStarted k keeper in
    let Begins = Starts k (as_server c.args.context) size keeper in
    let s = server_state h c.in-Ok.server.source [] in
    let starts : Begins s = (loaded, mid, start, was, is_start, numbers, worked, refl, refl) in
    by_feed _ _ _ _ _ _ (g.I.Input.feed c.args.input)
    (λ bytes runs. begun_told Refuses Begins contents SpellsKept KeptLine bytes before after r s starts
    (input_told contents SpellsKept KeptLine kept_seen IsRoomy _ s bytes before after r (λ events lines told is. told h kept is) runs))
    (λ bytes runs. start_followed contents before after Refuses Begins SpellsKept KeptLine bytes r s starts
    (lines_told contents before after SpellsKept KeptLine kept_seen IsRoomy _ s bytes r
    (ran_told (λ server n. IsKept server.server (upcoming (own_in server.source)) n) (λ server tickets n. server_state n server.source (values_in tickets.items)) kept_seen IsRoomy KeptLine _ c.in-Ok.server h s (λ m new. ap (λ ts. server_state h c.in-Ok.server.source (values_in ts)) new) kept) runs))
    (ends_zero r) c.run.ensures

pub returns-in-Err : goal.returns-in-Err
returns-in-Err g c =
    let k = g.K.Keeper in
    let keeper = c.args.self.0 in
    let size = c.args.self.1 in
    let contents = g.W.Write.contents in
    let before = c.args.out.now in
    let after = c.put_refused.new.out in
    let r = c.put_refused.result in
    let Refuses = NotStarted k keeper in
    let Begins = Starts k (as_server c.args.context) size keeper in
    any_feed _ _ _ (g.I.Input.feed c.args.input)
    (λ bytes. not_begun_told Refuses Begins contents SpellsKept KeptLine bytes before after r c.in-Err.refusal c.in-Err._keeper (c.in-Err.ensures.refused, c.in-Err.ensures.no_lives_exhausted) c.put_refused.ensures.written c.put_refused.ensures.status)
    (λ bytes. no_start_followed contents before after Refuses Begins SpellsKept KeptLine bytes r c.in-Err.refusal c.in-Err._keeper (c.in-Err.ensures.refused, c.in-Err.ensures.no_lives_exhausted) c.put_refused.ensures.written c.put_refused.ensures.status)
    (ends_two r c.put_refused.ensures.status)
