-- For the proofs: what the callers in the tests say about messages.
use Rattle.std.specs.Prelude.{ℕ, List, [], ◌∷◌}
use Rattle.osc_coap.specs.declared.message.Kind.TheVariants.{Con}
use Rattle.osc_coap.specs.Datagram.{Parts}

-- a confirmable GET of code 0.01 with one path segment and a payload (how the contracts are used)
abbrev pub a_get : ℕ → List ℕ → List ℕ → List ℕ → Parts
a_get message_id token segment payload = record { kind = Con; code = 1; message_id = message_id; token = token; options = (11, segment) ∷ []; payload = payload }
