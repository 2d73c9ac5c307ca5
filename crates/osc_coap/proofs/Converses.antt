-- What is answered by each reading is answered by it alone.
use Rattle.std.proofs.Common.{◌≡◌, ℕ, Result, Ok, Err, IfOk, IfErr, IsOkAnd, IsErrAnd}
use Rattle.osc_coap.specs.declared.format_error.Fault.{Fault}
use Rattle.osc_coap.specs.declared.format_error.FormatError.{FormatError}

-- the parts that bytes have are answered
pub answers_parts : {M P : Type 0} (view : M → P) (Is : P → Type 0) (Has : Fault → ℕ → Type 0) (one : (p q : P) → Is p → Is q → p ≡ q) (apart : (p : P) (f : Fault) (place : ℕ) → Is p → Has f place → ⊥) (r : Result M FormatError) → IfOk r (λ m. Is (view m)) → IfErr r (λ e. Has e.fault e.place)
    → (p : P) → Is p → IsOkAnd r (λ m. view m ≡ p)
answers_parts view Is Has one apart (Ok m) h k p is = one (view m) p h is
answers_parts view Is Has one apart (Err e) h k p is = absurd (apart p e.fault e.place is k)

-- the fault that bytes have is answered
pub answers_fault : {M P : Type 0} (view : M → P) (Is : P → Type 0) (Has : Fault → ℕ → Type 0) (one : (f g : Fault) (place other : ℕ) → Has f place → Has g other → (f ≡ g) × (place ≡ other)) (apart : (p : P) (f : Fault) (place : ℕ) → Is p → Has f place → ⊥) (r : Result M FormatError) → IfOk r (λ m. Is (view m)) → IfErr r (λ e. Has e.fault e.place)
    → (f : Fault) (place : ℕ) → Has f place → IsErrAnd r (λ e. (e.fault ≡ f) × (e.place ≡ place))
answers_fault view Is Has one apart (Ok m) h k f place has = absurd (apart (view m) f place h has)
answers_fault view Is Has one apart (Err e) h k f place has = one e.fault f e.place place k has
