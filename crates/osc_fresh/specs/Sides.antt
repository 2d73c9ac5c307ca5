-- For the proofs: the options on one side of an Echo option (RFC 7252, 3.1). behind is whether it is the side behind it, else it is the one in front of it.
use Rattle.std.specs.Prelude.{ℕ, Bool, true, false, List, filter, nat_le, nat_lt}
use Rattle.osc_coap.specs.Datagram.{Parts}
use Rattle.osc_coap.specs.OptionNumbers as options
use Rattle.osc_coap.specs.OptionSpelling.{Entry}
use Rattle.osc_coap.specs.Writing.{Draft, Datagram, bare}

-- an option of this number stands on this side (RFC 7252, 3.1)
abbrev pub is_on : Bool → ℕ → Bool
is_on true number = nat_lt options.echo number
is_on false number = nat_le number options.echo

-- the options on this side, in order (RFC 7252, 3.1)
abbrev pub side : Bool → List Entry → List Entry
side behind entries = filter (λ entry. is_on behind entry.0) entries

-- the head and the token of a message, as they are written (RFC 7252, 3)
abbrev pub head_only : Parts → Draft
head_only p = Datagram (bare p.kind p.code p.message_id p.token)
