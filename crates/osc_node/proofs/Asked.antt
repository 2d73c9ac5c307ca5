-- A request that a node sends.
use Rattle.std.proofs.Common.{◌≡◌, ap, ℕ, List}
use Rattle.osc_coap.specs.Datagram.{Parts}
use Rattle.osc_coap.specs.declared.message.Kind.TheVariants.{Con}
use Rattle.osc_node.specs.Requesting.{confirmable}

-- under the head of a CON with its own token a request is as it is sealed
pub under_head : (p : Parts) (id : ℕ) (token : List ℕ) → token ≡ p.token → record p { kind = Con; message_id = id; token = token } ≡ confirmable id p
under_head p id token same = ap (λ (t : List ℕ). record p { kind = Con; message_id = id; token = t }) same
