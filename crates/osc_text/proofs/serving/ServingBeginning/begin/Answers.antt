use Rattle.std.proofs.Common.{◌≡◌, ◌∙◌, [], ap, map, refl, subst}
use Rattle.osc_context.specs.Views.{as_server}
use Rattle.osc_endpoint.specs.Agrees.{Agrees}
use Rattle.osc_endpoint.specs.ServerAnswer.{ServerAnswer}
use Rattle.osc_endpoint.specs.ServerRun.{values_in}
use Rattle.osc_laws.specs.Laws.{AllAnswers}
use Rattle.osc_life.specs.ServerHistory.{Add, Added, Begin, NotAdded, Then}
use Rattle.osc_life.specs.Text.{add_error_text}
use Rattle.osc_life.specs.declared.start.Start.{Start}
use Rattle.osc_text.specs.Following.{StartsServer}
use Rattle.osc_text.specs.InputText.{EventLines}
use Rattle.osc_text.specs.Lines.{refused_line}
use Rattle.osc_text.specs.ReplaceEvents.{SpellsServing}
use Rattle.osc_text.specs.ReplaceReading.{IsServed, served_seen}
use Rattle.osc_text.specs.RunEnds.{serving_state}
use Rattle.osc_text.specs.Serving.{ServerLine, ServerText, ServingState, serving_from, start_of}
use Rattle.osc_text.specs.Serving.ServerText.{not_started, served}
use Rattle.osc_text.specs.declared.serving.ServingEnd.{ServingEnd}
use Rattle.osc_context.specs.declared.features.Features.{Features}
use Rattle.osc_text.proofs.FollowedTexts.{any_feed, begun_followed, by_feed, ends_two, ends_zero, lines_told, ran_told, refusal_followed}
use Rattle.osc_text.proofs.InputTexts.{input_prints}
use Rattle.osc_text.proofs.OneServerTexts.{one_server_line}
use Rattle.osc_text.proofs.ReplaceSpellings.{one_serving}
use Rattle.osc_text.proofs.ServerTexts.{no_start_prints, start_prints}
use Rattle.osc_text.proofs.serving.ServingBeginning.begin.Goals as goal

pub returns-in-Ok : goal.returns-in-Ok
returns-in-Ok g c =
    let s = as_server c.args.context in
    let v = c.args.self in
    let i = c.in-Ok._index in
    let h = Then Begin (Add s (start_of v) v.window 1) (Added i) in
    let end : ServingEnd = record { server = c.add.new.self; window = v.window; common = c.of-common.result } in
    let first = serving_from s (start_of v) v.window i in
    let begins : serving_state end [] h ≡ first = ap (λ (x : Features). (record first { features = x })) c.of-common.ensures.server in
    let law = c.one_datagram.ensures in
    let contents = g.W.Write.contents in
    let before = c.args.out.now in
    let after = c.run.new.out in
    let r = c.run.result in
    let answer = subst (λ (start : Start). ServerAnswer Begin (Add s start v.window 1) (Added i)) c.start.ensures (c.in-Ok.ensures.answered Begin c.new-server.ensures) in
    let agrees = subst (λ (start : Start). Agrees c.add.new.self (Then Begin (Add s start v.window 1) (Added i))) c.start.ensures (c.in-Ok.ensures.follows Begin c.new-server.ensures) in
    by_feed _ _ _ _ _ _ (g.I.Input.feed c.args.input)
    (λ bytes runs. start_prints c.one_server_answer.ensures contents s (start_of v) v.window bytes before after r i answer
    (input_prints contents SpellsServing ServerLine served_seen IsServed _ one_serving (λ (t : ServingState). AllAnswers t.history)
    (one_server_line c.one_server_answer.ensures law.one law.one_fault law.never_both) first bytes before after r (tt, answer)
    (λ events lines told is. subst (λ (t : ServingState). EventLines ServerLine t (map served_seen events) lines) begins (told h agrees is)) runs))
    (λ bytes runs. begun_followed contents before after SpellsServing ServerLine (ServerText s (start_of v) v.window bytes) (StartsServer s (start_of v) v.window) first bytes r (i, answer, refl) (λ lines n text. served i answer text)
    (lines_told contents before after SpellsServing ServerLine served_seen IsServed _ first bytes r
    (ran_told (λ (e : ServingEnd) k. Agrees e.server k) (λ e tickets k. serving_state e (values_in tickets.items) k) served_seen IsServed ServerLine _ end h first
    (λ m new. ap (λ ts. serving_state end (values_in ts) h) new ∙ begins) agrees) runs))
    (ends_zero r) c.run.ensures

pub returns-in-Err : goal.returns-in-Err
returns-in-Err g c =
    let s = as_server c.args.context in
    let v = c.args.self in
    let e = c.in-Err.refusal in
    let contents = g.W.Write.contents in
    let before = c.args.out.now in
    let after = c.put_refused.new.out in
    let r = c.put_refused.result in
    let answer = subst (λ (start : Start). ServerAnswer Begin (Add s start v.window 1) (NotAdded e)) c.start.ensures (c.in-Err.ensures.answered Begin c.new-server.ensures) in
    any_feed _ _ _ (g.I.Input.feed c.args.input)
    (λ bytes. no_start_prints c.one_server_answer.ensures contents s (start_of v) v.window bytes before after r e answer c.put_refused.ensures.written c.put_refused.ensures.status)
    (λ bytes. refusal_followed contents before after (ServerText s (start_of v) v.window bytes) _ _ r (refused_line (add_error_text e)) (not_started e answer refl refl) c.put_refused.ensures.written c.put_refused.ensures.status)
    (ends_two r c.put_refused.ensures.status)
