-- No value is refused, and one refusal is the first.
use Rattle.std.proofs.Common.{◌≡◌, ◌≢◌, ℕ, zero, suc, ◌/◌, ◌%◌, ◌<◌, ◌≤◌, List, [], ◌∷◌, ◌++◌, length, refl, sym, ap, ◌∙◌, arith, length-append, Option, Some, None, subst, inl, inr}
use Rattle.std.proofs.lemmas.Bool.{cases_lt}
use Rattle.osc_context.specs.declared.option_error.OptionError.{OptionError}
use Rattle.osc_context.specs.declared.option_error.OptionError.TheVariants.{TooLong, Reserved, PivLength, ZeroFlag, Cut, LeadingZero, Trailing}
use Rattle.osc_context.specs.OscoreValue.{OscoreParts, piv_bytes, kid_context_bytes, kid_bytes, flag_if_some, flag_byte, IsOscoreValue}
use Rattle.osc_context.specs.OptionRefusal.{RefusesValue, value_rank, IsFirstValueRefusal}
use Rattle.osc_context.proofs.FlagBytes.{piv_len, flag_apart}
use Rattle.osc_context.proofs.ValueParts.{after_flag, IsValue, opened, flagged}
use Rattle.osc_context.proofs.FrontLens.{front_is, piv_front, second_of}

-- nothing refuses no bytes
refused_empty : (e : OptionError) → RefusesValue [] e → ⊥
refused_empty TooLong x = omega arith
refused_empty Reserved x = x refl
refused_empty PivLength x = omega arith
refused_empty ZeroFlag x = let y = x.0 in omega arith
refused_empty Cut x = let y = x.0 in omega arith
refused_empty LeadingZero x = let y = x.0 in omega arith
refused_empty Trailing x = let y = x.1 in omega arith

-- with no kid flag there is no kid
no_kid : (p : OscoreParts) → flag_byte p / 8 % 2 ≡ 0 → kid_bytes p.kid ≡ []
no_kid p z = let a = (flag_apart p).kid in nothing p.kid (omega (arith, a))
  where
    nothing : (o : Option (List ℕ)) → flag_if_some 8 o ≡ 0 → kid_bytes o ≡ []
    nothing None h = refl
    nothing (Some x) h = absurd (omega arith)

-- nothing refuses a value
never_refused-value : (p : OscoreParts) (bytes : List ℕ) → IsValue p bytes → (e : OptionError) → RefusesValue bytes e → ⊥
unfolding after_flag
never_refused-value p bytes v e x = elim (flagged p bytes v) [
  | inl a ↦ refused_empty e (subst (λ (l : List ℕ). RefusesValue l e) a.0 x)
  | inr a ↦ refused_some p (length bytes) a.0 v.fits (ap length a.1) e (subst (λ (l : List ℕ). RefusesValue l e) a.1 x)
]
  where
    refused_some : (p : OscoreParts) (n : ℕ) → flag_byte p ≢ 0 → n ≤ 255 → n ≡ length (flag_byte p ∷ (piv_bytes p.piv ++ (kid_context_bytes p.kid_context ++ kid_bytes p.kid))) → (e : OptionError) → RefusesValue (flag_byte p ∷ (piv_bytes p.piv ++ (kid_context_bytes p.kid_context ++ kid_bytes p.kid))) e → ⊥
    refused_some p n f fits l TooLong x = omega arith
    refused_some p n f fits l Reserved x = x (flag_apart p).none_reserved
    refused_some p n f fits l PivLength x = let a = (flag_apart p).len in let b = piv_len p.piv in omega (arith, a, b)
    refused_some p n f fits l ZeroFlag x = f x.1
    refused_some p n f fits l Cut x =
        let a = flag_apart p in
        let front = front_is (flag_byte p) (piv_bytes p.piv) p.kid_context (kid_bytes p.kid) (sym a.len) (sym a.context) in
        let y = x.1 in
        omega (arith, front, length-append (piv_bytes p.piv) (kid_context_bytes p.kid_context ++ kid_bytes p.kid), length-append (kid_context_bytes p.kid_context) (kid_bytes p.kid))
    refused_some p n f fits l LeadingZero x =
        let a = (flag_apart p).len in
        let long : 1 < length (piv_bytes p.piv) = let y = x.0 in omega (arith, a) in
        piv_front p.piv long (sym (second_of (flag_byte p ∷ (piv_bytes p.piv ++ (kid_context_bytes p.kid_context ++ kid_bytes p.kid))) (piv_bytes p.piv) (kid_context_bytes p.kid_context ++ kid_bytes p.kid) (omega arith) refl (omega arith)) ∙ x.1)
    refused_some p n f fits l Trailing x =
        let a = flag_apart p in
        let front = front_is (flag_byte p) (piv_bytes p.piv) p.kid_context (kid_bytes p.kid) (sym a.len) (sym a.context) in
        let none = no_kid p x.0 in
        let y = x.2 in
        omega (arith, front, ap length none, length-append (piv_bytes p.piv) (kid_context_bytes p.kid_context ++ kid_bytes p.kid), length-append (kid_context_bytes p.kid_context) (kid_bytes p.kid))

-- nothing refuses a value
pub never_refused : (p : OscoreParts) (bytes : List ℕ) → IsOscoreValue p bytes → (e : OptionError) → RefusesValue bytes e → ⊥
never_refused p bytes v = never_refused-value p bytes (opened p bytes v)

-- the refusal of a rank
pub of_rank : ℕ → OptionError
of_rank zero = TooLong
of_rank (suc zero) = Reserved
of_rank (suc (suc zero)) = PivLength
of_rank (suc (suc (suc zero))) = ZeroFlag
of_rank (suc (suc (suc (suc zero)))) = Cut
of_rank (suc (suc (suc (suc (suc zero))))) = LeadingZero
of_rank (suc (suc (suc (suc (suc (suc n)))))) = Trailing

-- a refusal is that of its rank
of_rank-rank : (e : OptionError) → of_rank (value_rank e) ≡ e
unfolding of_rank
of_rank-rank TooLong = refl
of_rank-rank Reserved = refl
of_rank-rank PivLength = refl
of_rank-rank ZeroFlag = refl
of_rank-rank Cut = refl
of_rank-rank LeadingZero = refl
of_rank-rank Trailing = refl

-- each rank below 7 is that of its refusal
pub rank-of_rank : (k : ℕ) → k < 7 → value_rank (of_rank k) ≡ k
unfolding of_rank
rank-of_rank zero lt = refl
rank-of_rank (suc zero) lt = refl
rank-of_rank (suc (suc zero)) lt = refl
rank-of_rank (suc (suc (suc zero))) lt = refl
rank-of_rank (suc (suc (suc (suc zero)))) lt = refl
rank-of_rank (suc (suc (suc (suc (suc zero))))) lt = refl
rank-of_rank (suc (suc (suc (suc (suc (suc zero)))))) lt = refl
rank-of_rank (suc (suc (suc (suc (suc (suc (suc k))))))) lt = absurd (omega arith)

-- no two refusals have one rank
pub same_rank : (e f : OptionError) → value_rank e ≡ value_rank f → e ≡ f
same_rank e f same = sym (of_rank-rank e) ∙ ap of_rank same ∙ of_rank-rank f

-- two first refusals are one
pub one_refusal : (bytes : List ℕ) (e f : OptionError) → IsFirstValueRefusal bytes e → IsFirstValueRefusal bytes f → e ≡ f
one_refusal bytes e f he hf = elim (cases_lt (value_rank e) (value_rank f)) [
  | inl lt ↦ absurd (hf.first e lt he.holds)
  | inr le ↦ elim (cases_lt (value_rank f) (value_rank e)) [
    | inl lt ↦ absurd (he.first f lt hf.holds)
    | inr ge ↦ same_rank e f (omega arith)
  ]
]
