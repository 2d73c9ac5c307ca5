-- What the rows of an incoming message say.
use Rattle.std.proofs.Common.{◌≡◌, subst, arith, ℕ, Bool, true, List, Some}
use Rattle.std.specs.Prelude.{Option, None, ◌==◌, is_some}
use Rattle.std.proofs.lemmas.Bool.Decides.{nat_tests}
use Rattle.osc_coap.specs.Datagram.{Parts}
use Rattle.osc_coap.specs.declared.message.Kind.{Kind}
use Rattle.osc_coap.specs.declared.message.Kind.TheVariants.{Con, Non, Ack, Rst}
use Rattle.osc_message.specs.Calls.{CallsFor}
use Rattle.osc_message.specs.Incoming.{row}
use Rattle.osc_message.specs.Sending.{is_for}
use Rattle.osc_message.specs.Slots.{NonePasses}
use Rattle.osc_message.specs.Table.{Table}
use Rattle.osc_message.specs.Taking.{IsFor, IsForBy}
use Rattle.osc_message.specs.declared.exchanges.Call.{Call}
use Rattle.osc_message.specs.declared.incoming.Incoming.TheVariants.{Reset}

-- an RST that resets is empty, and for a message of ours
resets : (kind : Kind) (code : ℕ) (came waits : Bool) → row kind code came waits ≡ Reset → ((code == 0) ≡ true) × (waits ≡ true)
resets Con code came waits e = absurd (grind (arith, nat_tests, e))
resets Non code came waits e = absurd (grind (arith, nat_tests, e))
resets Ack code came waits e = absurd (grind (arith, nat_tests, e))
resets Rst code came waits e = (grind (arith, nat_tests, e), grind (arith, nat_tests, e))

nobody_waits : (t : Table) (from : List ℕ) (message_id : ℕ) (waits : Option Call) → CallsFor t from message_id waits → is_some waits ≡ true
    → NonePasses (is_for from message_id) t.places → ⊥
nobody_waits t from message_id None found some none = absurd (grind (arith, some))
nobody_waits t from message_id (Some call) (x, (there, passes, number)) some none = let no = none call.place x there in absurd (grind (arith, passes, no))

pub somebody_waits : (t : Table) (from : List ℕ) (p : Parts) (came : Bool) (waits : Option Call) → IsFor t from p waits → row p.kind p.code came (is_some waits) ≡ Reset
    → NonePasses (is_for from p.message_id) t.places → ⊥
somebody_waits t from p came waits found e none =
    let is = resets p.kind p.code came (is_some waits) e in
    let P : Bool → Type 0 = λ b. IsForBy b t from p waits in
    nobody_waits t from p.message_id waits (subst P is.0 found) is.1 none
