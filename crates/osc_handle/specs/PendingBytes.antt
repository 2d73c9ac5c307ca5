-- To be believed: what the bytes of pending requests say. b are the bytes of one, n of the places ps hold one each.
use Rattle.std.specs.Prelude.{◌≡◌, ℕ, ◌≤◌, ◌<◌, ◌==◌, ◌^◌, List, Option, Some, None, Result, Ok, Err, length, map, slice_get, take, if◌then◌else◌}
use Rattle.osc_client.specs.Agrees.{TokensDiffer}
use Rattle.osc_client.specs.ClientHistory.{Asked, Entry, NotSent, Sent}
use Rattle.osc_client.specs.declared.pending.Wait.{Wait}
use Rattle.osc_client.specs.declared.pending.Wait.TheVariants.{Once, Observing}
use Rattle.osc_handle.specs.declared.pending_handle.PendingHandle.{PendingHandle}
use Rattle.osc_handle.specs.declared.kept_refusal.KeptRequestRefusal.{KeptRequestRefusal}
use Rattle.osc_handle.specs.declared.kept_refusal.KeptRequestRefusal.TheVariants.{BadHandle, SaveFirst, Refused}

-- what the request waits for (own rule)
abbrev pub wait_in : PendingHandle → Wait
wait_in b = if b.observes == 0 then Once else Observing b.from

-- a request that was sealed (own rule)
abbrev pub asked_at : PendingHandle → Asked
asked_at b = record { token = take b.token_len b.token; number = b.number; moment = b.moment; wait = wait_in b }

-- the requests in the first n of these places, oldest first (own rule)
abbrev pub asked_among : ℕ → List PendingHandle → List Asked
asked_among n ps = map asked_at (take n ps)

-- bytes of a wait that a call may have written: a truth value, and no place for a request that registers nothing (own rule)
pub record IsWait (b : PendingHandle) : Type 0 where
  pub observes : b.observes ≤ 1
  pub from : b.observes ≡ 0 → b.from ≡ 0

-- bytes of a pending request that a call may have written (own rule)
pub record IsPending (b : PendingHandle) : Type 0 where
  pub token : b.token_len ≤ 8
  pub number : b.number < 2 ^ 40
  pub wait : IsWait b

-- there are n places, and a call may have written the bytes of each of the first n (own rule)
pub record ArePlaced (n : ℕ) (ps : List PendingHandle) : Type 0 where
  pub fits : n ≤ length ps
  pub each : (i : ℕ) (b : PendingHandle) → slice_get (take n ps) i ≡ Some b → IsPending b

-- bytes of n pending requests that a call may have written: no two with the same token (RFC 7252, 5.3.1)
pub record ArePending (n : ℕ) (ps : List PendingHandle) : Type 0 where
  pub table : ArePlaced n ps
  pub differ : TokensDiffer (asked_among n ps)

-- the entry of a request, whose text is at the front of the buffer; bad bytes and a save that comes first aren't events (own rule)
abbrev pub entry_of_kept_request : Result ℕ KeptRequestRefusal → List ℕ → Option Entry
entry_of_kept_request (Ok n) out = Some (Sent (take n out))
entry_of_kept_request (Err BadHandle) out = None
entry_of_kept_request (Err (SaveFirst number)) out = None
entry_of_kept_request (Err (Refused e)) out = Some (NotSent e)
