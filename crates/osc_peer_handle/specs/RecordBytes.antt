-- To be believed: what the record of a peer says, which outlives it (RFC 8613, 7.2.1, 7.4 and B.1). c are the bytes of a context, r those of a record.
use Rattle.std.specs.Prelude.{◌≡◌, ◌+◌, ◌<◌, ◌≤◌, ◌^◌, ◌++◌, ℕ, take}
use Rattle.std.specs.Int.{from_be_bytes, w64}
use Rattle.osc_hkdf.specs.Hmac.{hmac}
use Rattle.osc_context_handle.specs.ContextBytes.{IsContext}
use Rattle.osc_context_handle.specs.declared.context_handle.ContextHandle.{ContextHandle}
use Rattle.osc_peer_handle.specs.declared.peer_refusal.BeginRefusal.{BeginRefusal}
use Rattle.osc_peer_handle.specs.declared.peer_refusal.BeginRefusal.TheVariants.{BadHandle, OldRecord, NumbersExhausted}
use Rattle.osc_peer_handle.specs.declared.record_handle.RecordHandle.{RecordHandle}

-- the name of a context: the first eight bytes of a code of its Recipient Key and its Common IV under its Sender Key, high byte first (RFC 2104, 2; own rule)
abbrev pub name_in : ContextHandle → ℕ
name_in c = from_be_bytes w64 (take 8 (hmac c.sender_key (c.recipient_key ++ c.common_iv)))

-- a record that a call over a peer of this context may have written: it has the context's name, was saved once at least, and may be again (own rule)
pub record IsRecordOf (c : ContextHandle) (r : RecordHandle) : Type 0 where
  pub name : r.name ≡ name_in c
  pub first : 0 < r.generation
  pub last : r.generation + 1 < 2 ^ 64
  pub sender : r.sender ≤ 2 ^ 40
  pub received : r.received ≤ 2 ^ 40

-- why a peer doesn't begin again (RFC 8613, 7.2.1; own rule: the order)
abbrev pub RefusesToBegin : ContextHandle → RecordHandle → BeginRefusal → Type 0
RefusesToBegin c r BadHandle = IsContext c → ⊥
RefusesToBegin c r OldRecord = IsContext c × (IsRecordOf c r → ⊥)
RefusesToBegin c r NumbersExhausted = IsContext c × IsRecordOf c r × (2 ^ 40 ≤ r.sender)
