use Rattle.std.proofs.Common.{List, ℕ}
use Rattle.osc_endpoint.specs.ServerAnswer.{ServerAnswer}
use Rattle.osc_life.specs.ServerHistory.{Add, Added, Begin}
use Rattle.osc_text.specs.Contexts.{agreed_server}
use Rattle.osc_text.specs.Following.{StartsServer}
use Rattle.osc_text.specs.ReplaceEvents.{SpellsServing}
use Rattle.osc_text.specs.Printing.{BeginsBadly, Prints}
use Rattle.osc_text.specs.Serving.{ServerLine, ServerText, start_of}
use Rattle.osc_text.proofs.FollowedTexts.{known_followed, known_two}
use Rattle.osc_text.proofs.ServerTexts.{server_two}
use Rattle.osc_text.proofs.serving.serve_following.Goals as goal

pub returns : goal.returns
returns g c =
    let v = c.args.serving in
    let p = c.args.agreed in
    let s = agreed_server p in
    let contents = g.W.Write.contents in
    let r = c.write_run.result in
    let before = c.args.out.now in
    let after = c.write_run.new.out in
    let known = g.R.Read.remaining c.args.input.now in
    let Whole = λ (bytes : List ℕ). Prints contents (ServerText s (start_of v) v.window bytes) (BeginsBadly (λ (i : ℕ). ServerAnswer Begin (Add s (start_of v) v.window 1) (Added i)) SpellsServing bytes) before after r in
    let Starts = StartsServer s (start_of v) v.window in
    let tells = ServerText s (start_of v) v.window in
    record {
      written = known_followed contents before after SpellsServing ServerLine Whole p.params tells Starts known r c.write_run.ensures;
      two = known_two contents before after SpellsServing ServerLine Whole p.params tells Starts known r (server_two s (start_of v) v.window) c.write_run.ensures;
    }
