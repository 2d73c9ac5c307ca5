-- Under one Sender Key no nonce is used twice, and no text of one role opens in the other.
use Rattle.std.proofs.Common.{◌≡◌, ℕ, ◌<◌, ◌≤◌, ◌^◌, ◌∙◌, sym, ap, subst, arith, refl, Some, None, List, [], ◌∷◌, inl, inr}
use Rattle.std.specs.Prelude.{length}
use Rattle.osc_context.specs.AdditionalData.{additional_data_of}
use Rattle.osc_context.specs.Laws.{OneNonce, OneAdditionalData}
use Rattle.osc_context.specs.Nonce.{nonce_of}
use Rattle.osc_protect.specs.CipherLaws.{CipherInput}
use Rattle.osc_kept_ends.specs.Numbering.{Effect, Own, Allowed, Use, after}
use Rattle.osc_kept.specs.World.{Has}
use Rattle.osc_peers.specs.Roles.{RolesApart}
use Rattle.osc_peers.specs.Sender.{Step, Seal, Asks, Answers, Draws, Reserves, Loads, Seals, Sender, IsKept, IsOnce, OneSender, effect_of, seal_nonce, sealed, source, use_by}
use Rattle.osc_peers.proofs.OneSource as one_source
use Rattle.osc_peers.specs.Turns.{AreAllowed, after_all}
use Rattle.osc_peers.proofs.OneSource.{used_by}

abbrev effects : List Step → List Effect
effects [] = []
effects (step ∷ w) = effect_of step ∷ effects w

source_is : (w : List Step) → after_all (effects w) ≡ source w
source_is [] = refl
source_is (step ∷ w) = ap (λ o. after (effect_of step) o) (source_is w)

all_allowed : (x : Sender) (w : List Step) → IsKept x w → AreAllowed (effects w)
all_allowed x [] a = tt
all_allowed x (step ∷ w) a = (all_allowed x w a.0, subst (λ o. Allowed (effect_of step) o) (sym (source_is w)) a.1)

abbrev used : List Step → List ℕ
used w = used_by (effects w)

hand_is : (w : List Step) (n : ℕ) → (source w).hand ≡ Some n → (after_all (effects w)).hand ≡ Some n
hand_is w n u = subst (λ (o : Own). o.hand ≡ Some n) (sym (source_is w)) u

hand_above : (x : Sender) (w : List Step) (n m : ℕ) → IsKept x w → (source w).hand ≡ Some n → Has m (used w) → m < n
hand_above x w n m a u h = one_source.hand_above (effects w) n m (all_allowed x w a) (hand_is w n u) h

hand_small : (x : Sender) (w : List Step) (n : ℕ) → IsKept x w → (source w).hand ≡ Some n → n < 2 ^ 40
hand_small x w n a u = one_source.hand_small (effects w) n (all_allowed x w a) (hand_is w n u)

used_small : (x : Sender) (w : List Step) (n : ℕ) → IsKept x w → Has n (used w) → n < 2 ^ 40
used_small x w n a h = one_source.used_small (effects w) n (all_allowed x w a) h

id_fits : (x : Sender) (w : List Step) → IsKept x w → length x.id ≤ 7
id_fits x [] a = a
id_fits x (step ∷ w) a = id_fits x w a.0

-- the number that a text took is one that was used
took : (w : List Step) (r : Seal) (n : ℕ) → Has r (sealed w) → use_by r ≡ Use n → Has n (used w)
took (Seals (Asks p k) ∷ w) r n (inl e) t = let f : Use k ≡ Use n = sym (ap use_by e) ∙ t in inl cc
took (Seals (Asks p k) ∷ w) r n (inr h) t = inr (took w r n h t)
took (Seals (Answers p m (Some k)) ∷ w) r n (inl e) t = let f : Use k ≡ Use n = sym (ap use_by e) ∙ t in inl cc
took (Seals (Answers p m (Some k)) ∷ w) r n (inr h) t = inr (took w r n h t)
took (Seals (Answers p m None) ∷ w) r n (inl e) t = let f = sym (ap use_by e) ∙ t in cc
took (Seals (Answers p m None) ∷ w) r n (inr h) t = took w r n h t
took (Draws ∷ w) r n h t = took w r n h t
took (Reserves ∷ w) r n h t = took w r n h t
took (Loads k ∷ w) r n h t = took w r n h t
took [] r n h t = absurd h

-- what is known of a response under a request's nonce
once_was : (x : Sender) (w : List Step) (p : List ℕ) (m : ℕ) → IsKept x w → Has (Answers p m None) (sealed w) → (length p ≤ 7) × (p ≡ x.id → ⊥) × (m < 2 ^ 40)
once_was x (Seals (Asks q k) ∷ w) p m a (inl e) = cc
once_was x (Seals (Asks q k) ∷ w) p m a (inr h) = once_was x w p m a.0 h
once_was x (Seals (Answers q k (Some own)) ∷ w) p m a (inl e) = cc
once_was x (Seals (Answers q k (Some own)) ∷ w) p m a (inr h) = once_was x w p m a.0 h
once_was x (Seals (Answers q k None) ∷ w) p m a (inl e) =
    let f : p ≡ q = cc in
    let g : m ≡ k = cc in
    (subst (λ y. length y ≤ 7) (sym f) a.2.0, λ z. a.2.1 (sym f ∙ z), subst (λ y. y < 2 ^ 40) (sym g) a.2.2)
once_was x (Seals (Answers q k None) ∷ w) p m a (inr h) = once_was x w p m a.0 h
once_was x (Draws ∷ w) p m a h = once_was x w p m a.0 h
once_was x (Reserves ∷ w) p m a h = once_was x w p m a.0 h
once_was x (Loads k ∷ w) p m a h = once_was x w p m a.0 h
once_was x [] p m a h = absurd h

-- the number in hand makes a nonce that no text had
own_new : OneNonce → (x : Sender) (w : List Step) (n : ℕ) → IsKept x w → (source w).hand ≡ Some n → (r : Seal) → Has r (sealed w) → seal_nonce x r ≡ nonce_of x.common_iv x.id n → ⊥
own_new one x w n a u (Asks p k) h e =
    let t : Has k (used w) = took w (Asks p k) k h refl in
    let less : k < n = hand_above x w n k a u t in
    let same : k ≡ n = (one x.common_iv x.id x.id k n (id_fits x w a) (id_fits x w a) (used_small x w k a t) (hand_small x w n a u) e).1 in
    omega (arith, less, same)
own_new one x w n a u (Answers p m (Some k)) h e =
    let t : Has k (used w) = took w (Answers p m (Some k)) k h refl in
    let less : k < n = hand_above x w n k a u t in
    let same : k ≡ n = (one x.common_iv x.id x.id k n (id_fits x w a) (id_fits x w a) (used_small x w k a t) (hand_small x w n a u) e).1 in
    omega (arith, less, same)
own_new one x w n a u (Answers p m None) h e =
    let k = once_was x w p m a h in
    k.1 (one x.common_iv p x.id m n k.0 (id_fits x w a) k.2 (hand_small x w n a u) e).0

-- a request's nonce is another than each own one, and was used by no response before
shared_new : OneNonce → (x : Sender) (w : List Step) (p : List ℕ) (m : ℕ) → IsKept x w → IsOnce x w (Answers p m None) → (r : Seal) → Has r (sealed w)
    → seal_nonce x r ≡ nonce_of x.common_iv p m → ⊥
shared_new one x w p m a i (Asks q k) h e =
    let t : Has k (used w) = took w (Asks q k) k h refl in
    i.1 (sym (one x.common_iv x.id p k m (id_fits x w a) i.0 (used_small x w k a t) i.2 e).0)
shared_new one x w p m a i (Answers q j (Some k)) h e =
    let t : Has k (used w) = took w (Answers q j (Some k)) k h refl in
    i.1 (sym (one x.common_iv x.id p k m (id_fits x w a) i.0 (used_small x w k a t) i.2 e).0)
shared_new one x w p m a i (Answers q j None) h e =
    let k = once_was x w q j a h in
    let same = one x.common_iv q p j m k.0 i.0 k.2 i.2 e in
    i.3 (subst (λ y. Has (Answers y m None) (sealed w)) same.0 (subst (λ y. Has (Answers q y None) (sealed w)) same.1 h))

pub one_sender : OneNonce → OneSender
one_sender one x [] a = tt
one_sender one x (Seals (Asks p n) ∷ w) a = (λ r h e. own_new one x w n a.0 a.1 r h e, one_sender one x w a.0)
one_sender one x (Seals (Answers p m (Some n)) ∷ w) a = (λ r h e. own_new one x w n a.0 a.1 r h e, one_sender one x w a.0)
one_sender one x (Seals (Answers p m None) ∷ w) a = (λ r h e. shared_new one x w p m a.0 a.2 r h e, one_sender one x w a.0)
one_sender one x (Draws ∷ w) a = one_sender one x w a.0
one_sender one x (Reserves ∷ w) a = one_sender one x w a.0
one_sender one x (Loads n ∷ w) a = one_sender one x w a.0

pub roles_apart : OneAdditionalData → RolesApart
roles_apart one = record {
  turned_is = λ c. refl;
  apart = λ s n k own u a b e.
      let same : additional_data_of s.client n ≡ additional_data_of s.server k = ap (λ (i : CipherInput). i.additional_data) e in
      u.differ (one s.client s.server n k u.client_fits u.server_fits a b same).0;
}
