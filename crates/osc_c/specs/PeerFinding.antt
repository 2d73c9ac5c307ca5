-- To be believed: which of several peers a request is for (RFC 8613, 8.2, step 2). ps are the bytes of the peers, d is a datagram, h its head, n a number.
use Rattle.std.specs.Prelude.{◌≡◌, ◌<◌, ℕ, List, Option, Some, slice_get}
use Rattle.osc_context.specs.SecurityContext.{AnswersTo, SecurityContext}
use Rattle.osc_protect.specs.Head.{Head, HasNoRequestHead, HasRequestHead}
use Rattle.osc_protect.specs.Protection.{requests}
use Rattle.osc_protect.specs.Refusals.{Names}
use Rattle.osc_protect.specs.declared.head_error.HeadError.{HeadError}
use Rattle.osc_context_handle.specs.ContextBytes.{IsContext, server_in}
use Rattle.osc_c.specs.declared.guarded_peer.GuardedPeer.{GuardedPeer}
use Rattle.osc_status.specs.Statuses.{head_detail, head_status}
use Rattle.osc_status.specs.declared.status.Status.{Status}
use Rattle.osc_status.specs.declared.status.Status.TheVariants.{NoContext}

-- there is a peer at this index, whose context's bytes a call may have written, and this holds of that context (own rule)
abbrev pub HoldsAt : List GuardedPeer → ℕ → (SecurityContext → Type 0) → Type 0
HoldsAt ps i P = (p : GuardedPeer) × (slice_get ps i ≡ Some p) × IsContext p.inside.server.server.slot.context × P (server_in p.inside.server.server.slot.context)

-- it holds at this index, and at none before it (own rule)
abbrev pub HoldsFirstAt : List GuardedPeer → ℕ → (SecurityContext → Type 0) → Type 0
HoldsFirstAt ps i P = HoldsAt ps i P × ((j : ℕ) → j < i → HoldsAt ps j P → ⊥)

-- the context's requests have this kid, and this kid context or none (RFC 8613, 8.2)
abbrev pub answering : List ℕ → Option (List ℕ) → SecurityContext → Type 0
answering kid kid_context s = AnswersTo s kid kid_context

-- the head names the context (RFC 8613, 8.2)
abbrev pub named_by : Head → ℕ → SecurityContext → Type 0
named_by h n s = Names (requests s) h n

-- why no peer is found: the datagram has no head of a request, or that names none of their contexts (RFC 8613, 8.2)
pub data RefusesFinding (ps : List GuardedPeer) (d : List ℕ) (status : Status) (detail : ℕ) : Type 0 where
  no_head : (e : HeadError) → HasNoRequestHead d e → status ≡ head_status e → detail ≡ head_detail e → RefusesFinding ps d status detail
  no_context : (h : Head) → HasRequestHead d h → ((i n : ℕ) → HoldsAt ps i (named_by h n) → ⊥) → status ≡ NoContext → detail ≡ 0 → RefusesFinding ps d status detail
