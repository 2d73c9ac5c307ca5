-- To be believed: one observer of a resource, and what a notification makes of it (RFC 7641, 3.6, 4.1, 4.2 and 4.5). Moments are in milliseconds; x
-- is an observer, now the present moment.
use Rattle.std.specs.Prelude.{ℕ, ◌-◌, ◌==◌, ◌&&◌, List, Bool, false, Option, Some, None, nat_le, bytes_eq}

-- an observer: its number among all, its address and token, the Message ID of its last notification, the call of its last CON, and the moment of its
-- registration or of its last CON (RFC 7641, 4.1, 4.2 and 4.5)
pub record Watching : Type 0 where
  pub number : ℕ
  pub from : List ℕ
  pub token : List ℕ
  pub last_message_id : Option ℕ
  pub call : Option ℕ
  pub confirmed : ℕ

-- an observer as it is when it registers (RFC 7641, 4.1)
abbrev pub fresh : ℕ → List ℕ → List ℕ → ℕ → Watching
fresh number from token now = record { number = number; from = from; token = token; last_message_id = None; call = None; confirmed = now }

-- it is the observer of this address and token (RFC 7641, 4.1)
abbrev pub is_of : List ℕ → List ℕ → Watching → Bool
is_of from token x = bytes_eq x.from from && bytes_eq x.token token

-- a number is there, and is this one (how the code is seen)
abbrev pub is_this : Option ℕ → ℕ → Bool
is_this None n = false
is_this (Some m) n = m == n

-- an RST with this Message ID from this address rejects its last notification (RFC 7641, 3.6 and 4.5)
abbrev pub is_reset : List ℕ → ℕ → Watching → Bool
is_reset from message_id x = bytes_eq x.from from && is_this x.last_message_id message_id

-- its last CON is that of this call (RFC 7641, 4.5)
abbrev pub is_failed : ℕ → Watching → Bool
is_failed call x = is_this x.call call

-- its next notification has to be a CON: 24 hours have passed since it registered, or since its last CON (RFC 7641, 4.5)
abbrev pub needs_con : ℕ → Watching → Bool
needs_con now x = nat_le 86400000 (now - x.confirmed)

-- the observer, a notification sent: a NON leaves its last CON what it was (RFC 7641, 4.2 and 4.5)
abbrev pub noted : Watching → ℕ → Option ℕ → ℕ → Watching
noted x message_id None now = record x { last_message_id = Some message_id }
noted x message_id (Some call) now = record x { last_message_id = Some message_id; call = Some call; confirmed = now }
