-- To be believed: why a call of C does nothing, row by row in the order in which the reasons are checked. IsHandle says that the
-- handle's bytes are ones that a call may have written, AreNumbers that all numbers are below 2^40; f is a protection, i a number
-- that it knows, plain is the datagram of a plain message, room the length of the buffer, d a datagram to open.
use Rattle.std.specs.Prelude.{◌≡◌, ℕ, ◌<◌, ◌^◌, Bool, true, List}
use Rattle.osc_coap.specs.Datagram.{Parts, IsDatagram}
use Rattle.osc_coap.specs.Fault.{HasFault}
use Rattle.osc_coap.specs.declared.format_error.Fault.{Fault}
use Rattle.osc_protect.specs.Protection.{Protection}
use Rattle.osc_protect.specs.Refusals.{RefusesToOpen}
use Rattle.osc_protect.specs.SealRefusals.{RefusesToSeal}
use Rattle.osc_protect.specs.declared.protect_error.ProtectError.{ProtectError}
use Rattle.osc_protect.specs.declared.unprotect_error.UnprotectError.{UnprotectError}
use Rattle.osc_status.specs.Statuses.{format_status, open_detail, open_status, seal_detail, seal_status}
use Rattle.osc_status.specs.declared.status.Status.{Status}
use Rattle.osc_status.specs.declared.status.Status.TheVariants.{BadHandle, BadNumber}

-- the response's own Partial IV, if one is given, is one that a Partial IV can hold (RFC 8613, 5)
abbrev pub IsOwnPartialIv : Bool → ℕ → Type 0
IsOwnPartialIv has_own own = has_own ≡ true → own < 2 ^ 40

-- the numbers of a response, its request's and its own, are ones that a Partial IV can hold (RFC 8613, 5)
pub record AreNumbers (asked : ℕ) (has_own : Bool) (number : ℕ) : Type 0 where
  pub request : asked < 2 ^ 40
  pub own : IsOwnPartialIv has_own number

-- why a plain message isn't sealed, with its detail (RFC 8613, 8.1 and 8.3)
pub data RefusesSealing {I : Type 0} (IsHandle AreNumbers : Type 0) (f : Protection I) (i : I) (plain : List ℕ) (room : ℕ) (status : Status) (detail : ℕ) : Type 0 where
  bad_handle : (IsHandle → ⊥) → status ≡ BadHandle → detail ≡ 0 → RefusesSealing IsHandle AreNumbers f i plain room status detail
  bad_number : IsHandle → (AreNumbers → ⊥) → status ≡ BadNumber → detail ≡ 0 → RefusesSealing IsHandle AreNumbers f i plain room status detail
  malformed : IsHandle → AreNumbers → (fault : Fault) (place : ℕ) → HasFault plain fault place → status ≡ format_status fault → detail ≡ place → RefusesSealing IsHandle AreNumbers f i plain room status detail
  refused : IsHandle → AreNumbers → (p : Parts) → IsDatagram p plain → (e : ProtectError) → RefusesToSeal f i p room e → status ≡ seal_status e → detail ≡ seal_detail e → RefusesSealing IsHandle AreNumbers f i plain room status detail

-- why a datagram isn't opened, with its detail (RFC 8613, 8.2 and 8.4)
pub data RefusesOpening {I : Type 0} (IsHandle AreNumbers : Type 0) (f : Protection I) (d : List ℕ) (status : Status) (detail : ℕ) : Type 0 where
  bad_handle : (IsHandle → ⊥) → status ≡ BadHandle → detail ≡ 0 → RefusesOpening IsHandle AreNumbers f d status detail
  bad_number : IsHandle → (AreNumbers → ⊥) → status ≡ BadNumber → detail ≡ 0 → RefusesOpening IsHandle AreNumbers f d status detail
  refused : IsHandle → AreNumbers → (e : UnprotectError) → RefusesToOpen f d e → status ≡ open_status e → detail ≡ open_detail e → RefusesOpening IsHandle AreNumbers f d status detail
