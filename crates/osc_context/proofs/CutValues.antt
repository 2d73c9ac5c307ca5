-- What is read is a value with these parts, or has bytes left.
use Rattle.std.proofs.Common.{◌≡◌, ◌≢◌, ℕ, ◌+◌, ◌-◌, ◌*◌, ◌/◌, ◌%◌, ◌<◌, ◌≤◌, ◌^◌, List, [], ◌∷◌, ◌++◌, length, take, drop, get_or, sym, ap, ap₂, ◌∙◌, arith, Option, IfSome}
use Rattle.std.proofs.lemmas.List.{take_all, length-drop}
use Rattle.osc_context.specs.declared.option_error.OptionError.{OptionError}
use Rattle.osc_context.specs.declared.option_error.OptionError.TheVariants.{TooLong, Reserved, PivLength, ZeroFlag, Cut, LeadingZero, Trailing}
use Rattle.osc_context.specs.OscoreValue.{OscoreParts, piv_bytes, kid_context_bytes, kid_bytes, flag_if_some, flag_byte}
use Rattle.osc_context.specs.OptionRefusal.{front_len, RefusesValue, value_rank, IsFirstValueRefusal}
use Rattle.osc_context.proofs.FlagBytes.{flag_joined}
use Rattle.osc_context.proofs.ValueParts.{spelled_value, IsValue}
use Rattle.osc_context.proofs.FrontLens.{front_of, front_spelled, second_of}

-- what a slice pattern leaves behind the first byte
rest_cut : (bytes parts : List ℕ) → take (length bytes - 1) (drop 1 bytes) ≡ parts → drop 1 bytes ≡ parts
rest_cut bytes parts e = sym (take_all (length bytes - 1) (drop 1 bytes) (omega (arith, length-drop 1 bytes))) ∙ e

-- bytes cut into parts, where none of them is refused but for what stands last
pub record IsCutUp (context : Option (List ℕ)) (bytes piv tail : List ℕ) : Type 0 where
  pub some : 0 < length bytes
  pub fits : length bytes ≤ 255
  pub written : get_or bytes 0 0 ≢ 0
  pub plain : get_or bytes 0 0 / 32 ≡ 0
  pub few : get_or bytes 0 0 % 8 ≤ 5
  pub whole : drop 1 bytes ≡ piv ++ (kid_context_bytes context ++ tail)
  pub len : length piv ≡ get_or bytes 0 0 % 8
  pub no_leading_zero : 1 < length piv → get_or piv 0 0 ≢ 0
  pub present : flag_if_some 16 context ≡ 16 * (get_or bytes 0 0 / 16 % 2)

-- so are bytes whose parts were read, up to the kid
pub read_cut : (context : Option (List ℕ)) (bytes piv tail : List ℕ) (number : Option ℕ) → 0 < length bytes → length bytes ≤ 255
    → get_or bytes 0 0 ≢ 0 → get_or bytes 0 0 / 32 ≡ 0 → get_or bytes 0 0 % 8 ≤ 5
    → take (length bytes - 1) (drop 1 bytes) ≡ piv ++ (kid_context_bytes context ++ tail) → length piv ≡ get_or bytes 0 0 % 8
    → flag_if_some 16 context ≡ 16 * (get_or bytes 0 0 / 16 % 2) → piv_bytes number ≡ piv → IsCutUp context bytes piv tail
read_cut context bytes piv tail number some fits written plain few whole len present spelled = record {
  some = some;
  fits = fits;
  written = written;
  plain = plain;
  few = few;
  whole = rest_cut bytes _ whole;
  len = len;
  no_leading_zero = front_spelled number piv spelled;
  present = present;
}

-- what is cut up is the value that says its parts
pub value_cut : (p : OscoreParts) (bytes piv tail : List ℕ) → IsCutUp p.kid_context bytes piv tail → IfSome p.piv (λ n. n < 2 ^ 40) → piv_bytes p.piv ≡ piv
    → kid_bytes p.kid ≡ tail → flag_if_some 8 p.kid ≡ 8 * (get_or bytes 0 0 / 8 % 2) → IsValue p bytes
value_cut p [] piv tail h number ep ek fk = absurd (let some = h.some in omega arith)
value_cut p (f ∷ bytes) piv tail h number ep ek fk =
    let flag : flag_byte p ≡ f = flag_joined f _ _ _ h.plain (ap length ep ∙ h.len) fk h.present in
    let nonzero : flag_byte p ≢ 0 = λ z. h.written (sym flag ∙ z) in
    record {
      number = number;
      whole = ap₂ (λ (x : ℕ) (l : List ℕ). x ∷ l) (sym flag) (h.whole ∙ ap₂ (λ (s t : List ℕ). s ++ t) (sym ep) (ap (λ (t : List ℕ). kid_context_bytes p.kid_context ++ t) (sym ek))) ∙ sym (spelled_value p nonzero);
      fits = h.fits;
    }

-- what is cut up, with no kid flag and bytes left, is refused for these
pub trailing_first : (context : Option (List ℕ)) (bytes piv tail : List ℕ) → IsCutUp context bytes piv tail → (get_or bytes 0 0 / 8 % 2 ≡ 0) × (0 < length tail) → IsFirstValueRefusal bytes Trailing
trailing_first context bytes piv tail h left =
    let some = left.1 in
    let front = front_of bytes piv context tail h.some h.whole h.len h.present in
    record {
      holds = (left.0, h.some, omega (arith, front.0, front.1));
      first = earlier context bytes piv tail h front.0 front.1;
    }
  where
    earlier : (context : Option (List ℕ)) (bytes piv tail : List ℕ) → IsCutUp context bytes piv tail → front_len bytes ≡ 1 + length piv + length (kid_context_bytes context)
        → length bytes ≡ 1 + length piv + length (kid_context_bytes context) + length tail → (f : OptionError) → value_rank f < 6 → ¬ RefusesValue bytes f
    earlier context bytes piv tail h e le TooLong lt x = let fits = h.fits in omega arith
    earlier context bytes piv tail h e le Reserved lt x = x h.plain
    earlier context bytes piv tail h e le PivLength lt x = let few = h.few in omega arith
    earlier context bytes piv tail h e le ZeroFlag lt x = h.written x.1
    earlier context bytes piv tail h e le Cut lt x = let y = x.1 in omega arith
    earlier context bytes piv tail h e le LeadingZero lt x =
        let long : 1 < length piv = let y = x.0 in let len = h.len in omega arith in
        h.no_leading_zero long (sym (second_of bytes piv _ h.some h.whole (omega arith)) ∙ x.1)
    earlier context bytes piv tail h e le Trailing lt x = omega arith
