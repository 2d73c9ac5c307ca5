use Rattle.std.proofs.Common.{List, ℕ, inl}
use Rattle.osc_text.specs.Asking.{ClientLine, asking_from}
use Rattle.osc_text.specs.Contexts.{agreed_client}
use Rattle.osc_text.specs.Following.{IsNewClient}
use Rattle.osc_text.specs.InputText.{InputText}
use Rattle.osc_text.specs.Inputs.{IsFirstBadLine}
use Rattle.osc_text.specs.Printing.{Prints}
use Rattle.osc_text.specs.ReplaceEvents.{SpellsAsking}
use Rattle.osc_text.proofs.FollowedTexts.{known_followed, known_two}
use Rattle.osc_text.proofs.asking.ask_following.Goals as goal

pub returns : goal.returns
returns g c =
    let v = c.args.asking in
    let p = c.args.agreed in
    let s = agreed_client p in
    let contents = g.W.Write.contents in
    let r = c.write_run.result in
    let before = c.args.out.now in
    let after = c.write_run.new.out in
    let known = g.R.Read.remaining c.args.input.now in
    let tells = λ (bytes : List ℕ). InputText SpellsAsking ClientLine (asking_from s v) bytes in
    let Whole = λ (bytes : List ℕ). Prints contents (tells bytes) (IsFirstBadLine SpellsAsking bytes) before after r in
    record {
      written = known_followed contents before after SpellsAsking ClientLine Whole p.params tells (IsNewClient s v) known r c.write_run.ensures;
      two = known_two contents before after SpellsAsking ClientLine Whole p.params tells (IsNewClient s v) known r (λ bytes lines n text. inl text.3) c.write_run.ensures;
    }
