use Rattle.std.proofs.Common.{◌≡◌, ap, map, refl, subst}
use Rattle.osc_client.specs.Agrees.{ClientAgrees}
use Rattle.osc_client.specs.ClientHistory.{New}
use Rattle.osc_context.specs.Views.{as_client, number_of}
use Rattle.osc_context.specs.declared.features.Features.{Features}
use Rattle.osc_laws.specs.ClientLaws.{AllClientAnswers}
use Rattle.osc_text.specs.Asking.{AskingState, ClientLine, asking_from, places}
use Rattle.osc_text.specs.Following.{IsNewClient}
use Rattle.osc_text.specs.InputText.{EventLines, InputText}
use Rattle.osc_text.specs.ReplaceEvents.{SpellsAsking}
use Rattle.osc_text.specs.ReplaceReading.{IsAsked, asking_seen}
use Rattle.osc_text.specs.RunEnds.{asking_state}
use Rattle.osc_text.specs.declared.asking.AskingEnd.{AskingEnd}
use Rattle.osc_text.proofs.ClientSteps.{one_client_line}
use Rattle.osc_text.proofs.FollowedTexts.{begun_followed, by_feed, ends_zero, lines_told, ran_told}
use Rattle.osc_text.proofs.InputTexts.{input_prints}
use Rattle.osc_text.proofs.ReplaceSpellings.{one_asking}
use Rattle.osc_text.proofs.asking.AskingBeginning.begin.Goals as goal

pub returns : goal.returns
returns g c =
    let v = c.args.self in
    let s = as_client c.args.context in
    let h = New s (number_of v.next) v.life_ms in
    let end : AskingEnd = record { client = c.new-client.result; common = c.of-common.result } in
    let first = asking_from s v in
    let begins : asking_state end h ≡ first = ap (λ (x : Features). ((record first { features = x }))) c.of-common.ensures.client in
    let law = c.one_datagram.ensures in
    let contents = g.W.Write.contents in
    let before = c.args.out.now in
    let after = c.run.new.out in
    let r = c.run.result in
    by_feed _ _ _ _ _ _ (g.I.Input.feed c.args.input)
    (λ bytes runs. input_prints contents SpellsAsking ClientLine asking_seen IsAsked _ one_asking (λ (t : AskingState). AllClientAnswers places t.history)
    (one_client_line c.one_client_answer.ensures law.one law.one_fault law.never_both) first bytes before after r tt
    (λ events lines told is. subst (λ (t : AskingState). EventLines ClientLine t (map asking_seen events) lines) begins (told h c.new-client.ensures is)) runs)
    (λ bytes runs. begun_followed contents before after SpellsAsking ClientLine (InputText SpellsAsking ClientLine first bytes) (IsNewClient s v) first bytes r refl (λ lines n text. text)
    (lines_told contents before after SpellsAsking ClientLine asking_seen IsAsked _ first bytes r
    (ran_told (λ (e : AskingEnd) k. ClientAgrees e.client k) (λ e none k. asking_state e k) asking_seen IsAsked ClientLine _ end h first (λ m new. begins) c.new-client.ensures) runs))
    (ends_zero r) c.run.ensures
