use Rattle.std.proofs.Common.{refl}
use Rattle.osc_client.specs.ClientHistory.{New}
use Rattle.osc_context.specs.Views.{as_client}
use Rattle.osc_kept_ends.specs.KeptAsking.{IsKept}
use Rattle.osc_kept_ends.specs.Numbering.{upcoming}
use Rattle.osc_kept_ends.specs.Owning.{own_in}
use Rattle.osc_kept_runs.specs.KeptRuns.{client_state}
use Rattle.osc_text.specs.AskedEvents.{SpellsKeptAsked}
use Rattle.osc_text.specs.Asking.{places}
use Rattle.osc_text.specs.KeptAsking.{KeptAskedLine, StartsClient}
use Rattle.osc_text.specs.KeptSeen.{IsRoomyAsked, kept_asked_seen}
use Rattle.osc_text.specs.KeptText.{NotStarted}
use Rattle.osc_text.proofs.FollowedTexts.{any_feed, by_feed, ends_two, ends_zero, lines_told, no_start_followed, ran_told, start_followed}
use Rattle.osc_text.proofs.KeptPrinting.{begun_told, input_told, not_begun_told}
use Rattle.osc_text.proofs.kept_ends.KeptU64Beginning.begin.Goals as goal

pub returns-in-Ok : goal.returns-in-Ok
returns-in-Ok g c =
    let k = g.K.Keeper in
    let keeper = c.args.self.0 in
    let life = c.args.self.1 in
    let contents = g.W.Write.contents in
    let before = c.args.out.now in
    let after = c.run.new.out in
    let r = c.run.result in
    let (loaded, was, numbers, kept) = c.in-Ok.ensures.begins in
    let h = New (as_client c.args.context) loaded life in
    let Refuses = NotStarted k keeper in
    let Begins = StartsClient k (as_client c.args.context) life keeper in
    let s = client_state h c.in-Ok.client.source in
    let starts : Begins s = (loaded, was, numbers, refl) in
    by_feed _ _ _ _ _ _ (g.I.Input.feed c.args.input)
    (λ bytes runs. begun_told Refuses Begins contents SpellsKeptAsked (KeptAskedLine places) bytes before after r s starts
    (input_told contents SpellsKeptAsked (KeptAskedLine places) kept_asked_seen IsRoomyAsked _ s bytes before after r (λ events lines told is. told h kept is) runs))
    (λ bytes runs. start_followed contents before after Refuses Begins SpellsKeptAsked (KeptAskedLine places) bytes r s starts
    (lines_told contents before after SpellsKeptAsked (KeptAskedLine places) kept_asked_seen IsRoomyAsked _ s bytes r
    (ran_told (λ client n. IsKept client.client (upcoming (own_in client.source)) n) (λ client none n. client_state n client.source) kept_asked_seen IsRoomyAsked (KeptAskedLine places) _ c.in-Ok.client h s (λ m new. refl) kept) runs))
    (ends_zero r) c.run.ensures

pub returns-in-Err : goal.returns-in-Err
returns-in-Err g c =
    let k = g.K.Keeper in
    let keeper = c.args.self.0 in
    let life = c.args.self.1 in
    let contents = g.W.Write.contents in
    let before = c.args.out.now in
    let after = c.put_refused.new.out in
    let r = c.put_refused.result in
    let Refuses = NotStarted k keeper in
    let Begins = StartsClient k (as_client c.args.context) life keeper in
    any_feed _ _ _ (g.I.Input.feed c.args.input)
    (λ bytes. not_begun_told Refuses Begins contents SpellsKeptAsked (KeptAskedLine places) bytes before after r c.in-Err.refusal c.in-Err._keeper (c.in-Err.ensures.refused, c.in-Err.ensures.no_lives_exhausted) c.put_refused.ensures.written c.put_refused.ensures.status)
    (λ bytes. no_start_followed contents before after Refuses Begins SpellsKeptAsked (KeptAskedLine places) bytes r c.in-Err.refusal c.in-Err._keeper (c.in-Err.ensures.refused, c.in-Err.ensures.no_lives_exhausted) c.put_refused.ensures.written c.put_refused.ensures.status)
    (ends_two r c.put_refused.ensures.status)
