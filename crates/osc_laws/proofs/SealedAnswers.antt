-- That what seals a message has one answer: a refusal, an answer for what holds it back, or the text. f is a protection, i one of its numbers, p
-- what the plain message says, room the length of the buffer, Ready what has to hold before it is sealed, Why what else an answer is given for.
use Rattle.std.proofs.Common.{◌≡◌, ℕ, ◌≤◌, ◌⊎◌, ◌∙◌, sym, ap, List, length, inl, inr}
use Rattle.osc_coap.specs.Datagram.{Parts}
use Rattle.osc_protect.specs.Laws.{OneForm}
use Rattle.osc_protect.specs.Protection.{Protection}
use Rattle.osc_protect.specs.SealRefusals.{CanBeSealed, RefusesToSeal}
use Rattle.osc_protect.specs.Sealed.{IsSealed}
use Rattle.osc_protect.specs.declared.protect_error.ProtectError.{ProtectError}
use Rattle.osc_life.specs.Replying.{lifted}
use Rattle.osc_life.specs.ServerHistory.{Entry, NotReplied, Replied}

-- it isn't sealed, and nothing else holds it back
pub record IsRefused {I : Type 0} (f : Protection I) (i : I) (p : Parts) (room : ℕ) (Ready : Type 0) (entry : Entry) : Type 0 where
  pub refusal : ProtectError
  pub refuses : RefusesToSeal f i p room refusal
  pub ready : CanBeSealed f.usage f.features p → Ready
  pub entry_is : entry ≡ NotReplied (lifted refusal)

-- it could be sealed, but something else holds it back
pub record IsHeldBack {I : Type 0} (f : Protection I) (p : Parts) (Ready : Type 0) (Why : Entry → Type 0) (entry : Entry) : Type 0 where
  pub plain : CanBeSealed f.usage f.features p
  pub unready : Ready → ⊥
  pub why : Why entry

-- it is sealed
pub record IsSent {I : Type 0} (f : Protection I) (i : I) (p : Parts) (room : ℕ) (Ready : Type 0) (entry : Entry) : Type 0 where
  pub bytes : List ℕ
  pub ready : Ready
  pub seals : IsSealed f i p bytes
  pub fits : length bytes ≤ room
  pub entry_is : entry ≡ Replied bytes

-- one of the three
abbrev pub IsAnswer : {I : Type 0} → Protection I → I → Parts → ℕ → Type 0 → (Entry → Type 0) → Entry → Type 0
IsAnswer f i p room Ready Why entry = IsRefused f i p room Ready entry ⊎ (IsHeldBack f p Ready Why entry ⊎ IsSent f i p room Ready entry)

module _ {I : Type 0} (f : Protection I) (form : OneForm f) (i : I) (p : Parts) (room : ℕ) (Ready : Type 0) (Why : Entry → Type 0) where
  no_held : (x y : Entry) → IsRefused f i p room Ready x → IsHeldBack f p Ready Why y → ⊥
  no_held x y a b = b.unready (a.ready b.plain)

  no_refused : (x y : Entry) → IsRefused f i p room Ready x → IsSent f i p room Ready y → ⊥
  no_refused x y a b = form.never_both i p room b.bytes a.refusal b.seals b.fits a.refuses

  no_sent : (x y : Entry) → IsHeldBack f p Ready Why x → IsSent f i p room Ready y → ⊥
  no_sent x y a b = a.unready b.ready

  -- the three don't overlap, and each fixes its entry
  pub one_sealed_answer : ((x y : Entry) → Why x → Why y → x ≡ y) → (x y : Entry) → IsAnswer f i p room Ready Why x → IsAnswer f i p room Ready Why y → x ≡ y
  one_sealed_answer one x y (inl a) (inl b) = a.entry_is ∙ ap (λ e. NotReplied (lifted e)) (form.refusal i p room a.refusal b.refusal a.refuses b.refuses) ∙ sym b.entry_is
  one_sealed_answer one x y (inl a) (inr (inl b)) = absurd (no_held x y a b)
  one_sealed_answer one x y (inl a) (inr (inr b)) = absurd (no_refused x y a b)
  one_sealed_answer one x y (inr (inl a)) (inl b) = absurd (no_held y x b a)
  one_sealed_answer one x y (inr (inl a)) (inr (inl b)) = one x y a.why b.why
  one_sealed_answer one x y (inr (inl a)) (inr (inr b)) = absurd (no_sent x y a b)
  one_sealed_answer one x y (inr (inr a)) (inl b) = absurd (no_refused y x b a)
  one_sealed_answer one x y (inr (inr a)) (inr (inl b)) = absurd (no_sent y x b a)
  one_sealed_answer one x y (inr (inr a)) (inr (inr b)) = a.entry_is ∙ ap Replied (form.bytes i p a.bytes b.bytes a.seals b.seals) ∙ sym b.entry_is
