-- A reply that is copied to the front of a buffer, and what is remembered of it.
use Rattle.std.proofs.Common.{Ok, ◌≡◌, ◌≢◌, ◌∙◌, ℕ, ◌+◌, ◌<◌, ◌≤◌, ◌⊎◌, Bool, true, false, List, ap, arith, inl, inr, length, length-take, refl, subst, sym, take}
use Rattle.osc_coap.specs.OptionText.{placed}
use Rattle.osc_coap.proofs.Placed.{front_placed}
use Rattle.std.specs.List.{Contains}
use Rattle.osc_coap.specs.Datagram.{Parts}
use Rattle.osc_endpoint.specs.declared.server.ServerOf.{ServerOf}
use Rattle.osc_life.specs.ServerHistory.{History}
use Rattle.osc_life.specs.declared.decision.Decided.{Decided}
use Rattle.osc_life.specs.declared.decision.Decision.{Decision}
use Rattle.osc_life.specs.declared.start.Fresh.{Fresh}
use Rattle.osc_kept_ends.specs.Numbering.{Own}
use Rattle.osc_kept_ends.specs.Peering.{PeerDecides}
use Rattle.osc_replies.specs.Answering.{IfDecided, Remembers, RemembersReply}
use Rattle.osc_replies.specs.declared.again.DecidedAgain.{DecidedAgain}
use Rattle.osc_replies.specs.declared.again.DecidedAgain.TheVariants as decided
use Rattle.osc_replies.specs.Memory.{IsReply, IsReplyKept, Kept}
use Rattle.osc_replies.specs.declared.replies.NotAgain.{NotAgain}
use Rattle.osc_replies.specs.declared.replies.NotAgain.TheVariants.{Unknown, NoRoom}

-- the front is what was copied
pub copied : (n : ℕ) (text old new front : List ℕ) → new ≡ placed 0 text old → text ≡ take n front → n ≤ length front → take n new ≡ take n front
copied n text old new front new-is text-is within =
    let long : n ≡ 0 + length text = omega (arith, ap length text-is, length-take n front) in
    ap (take n) new-is ∙ front_placed 0 n text old long (omega arith) ∙ text-is

-- one of two, by a test
either : {A B : Type 0} (b : Bool) → (b ≡ true → A) → (b ≡ false → B) → A ⊎ B
either true f h = inl (f refl)
either false f h = inr (h refl)

-- one of two, by the reason
pub by_reason : {A B : Type 0} (e : NotAgain) → (e ≡ Unknown → A) → (e ≡ NoRoom → B) → A ⊎ B
by_reason Unknown f h = inl (f refl)
by_reason NoRoom f h = inr (h refl)

-- what was decided, with the same reply elsewhere
pub decides_by : (h : History) (now : ℕ) (fresh : Fresh) (d : List ℕ) (x : Decided) (left a b : List ℕ) (old new : Own) (s : ServerOf 1) → a ≡ b
    → PeerDecides h now fresh d x left b old new s → PeerDecides h now fresh d x left a old new s
decides_by h now fresh d x left a b old new s same decides = subst (λ (reply : List ℕ). PeerDecides h now fresh d x left reply old new s) (sym same) decides

-- what is remembered, with the same reply elsewhere
pub remembers_by : (count len : ℕ) (d : List ℕ) (x : Decision) (a b : List ℕ) (old new : List Kept) → a ≡ b → Remembers count len d x b old new → Remembers count len d x a old new
remembers_by count len d x a b old new same remembers = subst (λ (reply : List ℕ). Remembers count len d x reply old new) (sym same) remembers

-- what is remembered of a reply, by the answer of the call that keeps it
pub keeps_by : (len n m : ℕ) (a b : List ℕ) (old new : List Kept) (kept : Bool) → a ≡ b → m ≡ n → (kept ≡ true → IsReplyKept m b old new) → (kept ≡ false → new ≡ old)
    → (kept ≡ false → ((k : Kept) → Contains old k → k.number ≢ m) ⊎ (len < length b) ⊎ ((p : Parts) → IsReply p b → ⊥)) → RemembersReply len n a old new
keeps_by len n m a b old new kept same number does unchanged refuses =
    let of_m : RemembersReply len m b old new = either kept does (λ e. (unchanged e, refuses e)) in
    subst (λ (k : ℕ). RemembersReply len k a old new) number (subst (λ (reply : List ℕ). RemembersReply len m reply old new) (sym same) of_m)

-- what holds of what was decided
pub if_decided : (x : DecidedAgain) (d : Decided) (P : Decided → Type 0) → x ≡ decided.Decided d → IfDecided (Ok x) P → P d
if_decided x d P is holds = subst (λ (y : DecidedAgain). IfDecided (Ok y) P) is holds
