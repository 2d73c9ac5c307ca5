-- To be believed: how many bytes are enough for a sealed message (RFC 8613, 4.1, 4.2, 5.3 and 6.1). len is the length of a plain message's
-- datagram, plain that datagram, allowed says that the context takes part in Observe, room is the length of a buffer, s a security context.
use Rattle.std.specs.Prelude.{ℕ, ◌+◌, ◌≤◌, min, Bool, List, length, IfSome, if◌then◌else◌}
use Rattle.osc_context.specs.SecurityContext.{SecurityContext}

-- how many bytes Observe takes outside at most, where it is allowed: a byte, and a value of at most 3 (RFC 7252, 3.1; RFC 7641, 2; RFC 8613, 4.1.3.5)
abbrev pub observe_room : Bool → ℕ
observe_room allowed = if allowed then 4 else 0

-- 60 bytes more than the plain message has, those that Observe takes outside, and at most the 65,535 of a datagram (RFC 7252, 3.1; RFC 8613, 4.1 and 6.1; own rule: the limit)
abbrev pub room_of : ℕ → Bool → ℕ
room_of len allowed = min (len + (60 + observe_room allowed)) 65535

-- the buffer has so many (RFC 7252, 3.1; RFC 8613, 4.1 and 6.1)
abbrev pub HasRoomFor : Bool → List ℕ → ℕ → Type 0
HasRoomFor allowed plain room = room_of (length plain) allowed ≤ room

-- the identifiers in a request have lengths that a context's have: a kid of up to 7 bytes, an ID Context of up to 32 (RFC 8613, 3.3; own rule: the ID Context)
pub record IdentifiersFit (s : SecurityContext) : Type 0 where
  pub kid : length s.client ≤ 7
  pub id_context : IfSome s.id_context (λ bytes. length bytes ≤ 32)
