-- To be believed: a plain message with an Echo option more, and the Echo value that a client adds to a request (RFC 7252, 3.1 and 4.1; RFC 9175, 2.2.1 and 2.3). p is
-- a plain message, heard the value that was heard last, if there was one, room the length of the buffer that the message is written into.
use Rattle.std.specs.Prelude.{◌≡◌, ◌≢◌, ℕ, List, ◌∷◌, ◌++◌, Option, None, Some, filter, nat_le, nat_lt, ◌==◌, if◌then◌else◌}
use Rattle.osc_coap.specs.Datagram.{Parts, datagram_length}
use Rattle.osc_coap.specs.OptionNumbers as options
use Rattle.osc_coap.specs.OptionSpelling.{Entry}
use Rattle.osc_coap.specs.Writing.{HasRoom, LacksRoom, Reason}
use Rattle.osc_coap.specs.declared.write_error.WriteError.{WriteError}
use Rattle.osc_fresh.specs.Echoing.{echo_in}

-- the options with one more: behind those of its number or a lower one, and in front of those of a greater one (RFC 7252, 3.1)
abbrev pub placed : Entry → List Entry → List Entry
placed entry entries = filter (λ other. nat_le other.0 entry.0) entries ++ entry ∷ filter (λ other. nat_lt entry.0 other.0) entries

-- the message with an Echo option of this value more; all else of it stays (RFC 9175, 2.2.1 and 2.3)
abbrev pub with_echo : List ℕ → Parts → Parts
with_echo value p = record p { options = placed (options.echo, value) p.options }

-- such a message can be written: it isn't an Empty one, which has no options, and there is room for it (RFC 7252, 4.1; own rule: at most 65,535 bytes)
abbrev pub TakesEcho : ℕ → List ℕ → Parts → Type 0
TakesEcho room value p = (p.code ≢ 0) × HasRoom room (datagram_length (with_echo value p))

-- why it can't be written (RFC 7252, 4.1; own rule: at most 65,535 bytes)
abbrev pub RefusesEcho : ℕ → List ℕ → Parts → WriteError → Type 0
RefusesEcho room value p = Reason (p.code ≡ 0) ⊥ ⊥ (LacksRoom room (datagram_length (with_echo value p)))

-- the value that is added to the message: the one that was heard last, and none to an Empty message, which has no options (RFC 7252, 4.1; RFC 9175, 2.3)
abbrev pub due : Option (List ℕ) → Parts → Option (List ℕ)
due heard p = if p.code == 0 then None else heard

-- the message with this value added, if there is one (RFC 9175, 2.3)
abbrev pub with_value : Option (List ℕ) → Parts → Parts
with_value None p = p
with_value (Some value) p = with_echo value p

-- the message that is sealed in the place of this one (RFC 9175, 2.3)
abbrev pub echoing : Option (List ℕ) → Parts → Parts
echoing heard p = with_value (due heard p) p

-- the message has no Echo option, a value is added to it, and there is no room for that (own rule: at most 65,535 bytes)
abbrev pub LacksEchoRoom : Option (List ℕ) → Parts → ℕ → Type 0
LacksEchoRoom heard p room = (value : List ℕ) × (due heard p ≡ Some value) × (echo_in p ≡ None) × LacksRoom room (datagram_length (with_echo value p))
