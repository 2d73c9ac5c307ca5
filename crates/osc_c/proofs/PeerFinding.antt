-- Which of several peers a request is for. ps are the bytes of the peers, h is the head of the request as it was read.
use Rattle.std.proofs.Common.{sym, ap, ℕ, List}
use Rattle.std.proofs.lemmas.Option.{same_Some}
use Rattle.osc_context.specs.OscoreValue.{OscoreParts}
use Rattle.osc_context.specs.SecurityContext.{SecurityContext}
use Rattle.osc_context.specs.Views.{number_of}
use Rattle.osc_protect.specs.Usage.{value_of_request}
use Rattle.osc_protect.specs.Views.{seen_head, shown}
use Rattle.osc_protect.specs.declared.request_head.RequestHead.{RequestHead}
use Rattle.osc_c.specs.declared.guarded_peer.GuardedPeer.{GuardedPeer}
use Rattle.osc_c.specs.PeerFinding.{HoldsAt, answering, named_by}

holds_too : (ps : List GuardedPeer) (i : ℕ) (P Q : SecurityContext → Type 0) → ((s : SecurityContext) → P s → Q s) → HoldsAt ps i P → HoldsAt ps i Q
holds_too ps i P Q turn (p, at, whole, holds) = (p, at, whole, turn _ holds)

named : (h : RequestHead) (s : SecurityContext) → answering h.kid.now (shown h.kid_context) s → named_by (seen_head h) (number_of h.number) s
named h s answers = λ i. value_of_request (number_of h.number) (sym answers.1 i) (sym answers.0 i)

answers_to : (h : RequestHead) (n : ℕ) (s : SecurityContext) → named_by (seen_head h) n s → answering h.kid.now (shown h.kid_context) s
answers_to h n s names = (sym (same_Some _ _ (ap (λ (p : OscoreParts). p.kid) names)), sym (ap (λ (p : OscoreParts). p.kid_context) names))

-- the head names the contexts that answer to its kid and kid context
pub names_at : (ps : List GuardedPeer) (h : RequestHead) (i : ℕ) → HoldsAt ps i (answering h.kid.now (shown h.kid_context)) → HoldsAt ps i (named_by (seen_head h) (number_of h.number))
names_at ps h i held = holds_too ps i (answering h.kid.now (shown h.kid_context)) (named_by (seen_head h) (number_of h.number)) (named h) held

-- and no others
pub answers_at : (ps : List GuardedPeer) (h : RequestHead) (i n : ℕ) → HoldsAt ps i (named_by (seen_head h) n) → HoldsAt ps i (answering h.kid.now (shown h.kid_context))
answers_at ps h i n held = holds_too ps i (named_by (seen_head h) n) (answering h.kid.now (shown h.kid_context)) (answers_to h n) held
