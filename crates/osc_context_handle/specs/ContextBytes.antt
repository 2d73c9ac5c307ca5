-- To be believed: what the bytes of a context handle say. h is a handle.
use Rattle.std.specs.Prelude.{◌≢◌, ℕ, ◌≤◌, ◌==◌, zero, suc, Bool, not, List, Option, Some, None, take}
use Rattle.osc_context.specs.SecurityContext.{SecurityContext}
use Rattle.osc_context.specs.declared.features.Features.{Features}
use Rattle.osc_context_handle.specs.declared.context_handle.ContextHandle.{ContextHandle}

-- the ID Context in this many bytes, or none for 0 bytes (own rule)
abbrev pub id_context_in : List ℕ → ℕ → Option (List ℕ)
id_context_in bytes zero = None
id_context_in bytes (suc n) = Some (take (suc n) bytes)

-- its features: any value but 0 allows Observe, or blocks (own rule)
abbrev pub features_in : ContextHandle → Features
features_in h = record { observe = not (h.observe == 0); blocks = not (h.blocks == 0) }

-- the context of an end that makes requests (RFC 8613, 3.1)
abbrev pub client_in : ContextHandle → SecurityContext
client_in h = record { client = take h.sender_len h.sender; client_key = h.sender_key; server = take h.recipient_len h.recipient; server_key = h.recipient_key; common_iv = h.common_iv; id_context = id_context_in h.id_context h.id_context_len; features = features_in h }

-- the context of an end that answers requests (RFC 8613, 3.1)
abbrev pub server_in : ContextHandle → SecurityContext
server_in h = record { client = take h.recipient_len h.recipient; client_key = h.recipient_key; server = take h.sender_len h.sender; server_key = h.sender_key; common_iv = h.common_iv; id_context = id_context_in h.id_context h.id_context_len; features = features_in h }

-- its keys are used in constant time: any value but 0 of the byte asks for tables (own rule)
abbrev pub is_constant_time_in : ContextHandle → Bool
is_constant_time_in h = h.tables == 0

-- bytes that a call may have written: lengths that the fields have room for, and two different identifiers (RFC 8613, 3.3)
pub record IsContext (h : ContextHandle) : Type 0 where
  pub sender_fits : h.sender_len ≤ 7
  pub recipient_fits : h.recipient_len ≤ 7
  pub id_context_fits : h.id_context_len ≤ 32
  pub differ : take h.sender_len h.sender ≢ take h.recipient_len h.recipient
