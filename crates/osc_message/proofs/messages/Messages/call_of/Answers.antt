use Rattle.std.proofs.Common.{◌≡◌, subst, sym, arith, ℕ, Bool, List, true, false}
use Rattle.std.specs.Prelude.{◌==◌, Option}
use Rattle.std.proofs.lemmas.Bool.Decides.{nat_tests}
use Rattle.osc_coap.specs.Views.{parts_of}
use Rattle.osc_message.specs.Calls.{AwaitsBy}
use Rattle.osc_message.specs.Taking.{IsForBy, acked_by}
use Rattle.osc_message.specs.Views.{table_of}
use Rattle.osc_message.proofs.messages.Messages.call_of.Goals as goal

pub returns-then-message-eq0 : goal.returns-then-message-eq0
returns-then-message-eq0 g c =
    let yes = c.if-message-eq0.true in
    let empty : (c.args.message.now.code == 0) ≡ true = grind (arith, nat_tests, yes) in
    let P : Bool → Type 0 = λ b. IsForBy b (table_of c.args.self.now.exchanges) c.args.from.now (parts_of c.args.message.now) c.call_for.result in
    subst P (sym empty) c.call_for.ensures

pub returns-else-message-eq0 : goal.returns-else-message-eq0
returns-else-message-eq0 g c =
    let other = c.if-message-eq0.false in
    let full : (c.args.message.now.code == 0) ≡ false = grind (arith, nat_tests, other) in
    let P : Bool → Type 0 = λ b. IsForBy b (table_of c.args.self.now.exchanges) c.args.from.now (parts_of c.args.message.now) c.awaited.result in
    let Q : List ℕ → Type 0 = λ token. AwaitsBy (table_of c.args.self.now.exchanges) c.args.from.now token (acked_by (parts_of c.args.message.now)) c.awaited.result in
    let R : Option ℕ → Type 0 = λ acked. AwaitsBy (table_of c.args.self.now.exchanges) c.args.from.now c.deref.result.now acked c.awaited.result in
    subst P (sym full) (subst Q c.deref.ensures.0 (subst R c.acked_by_message.ensures c.awaited.ensures))
