-- The Partial IV and its bytes.
use Rattle.std.proofs.Common.{◌≡◌, ◌≢◌, ℕ, zero, suc, ◌+◌, ◌-◌, ◌*◌, ◌/◌, ◌%◌, ◌^◌, ◌<◌, ◌≤◌, List, [], ◌∷◌, ◌++◌, length, take, get_or, refl, sym, ap, ap₂, ◌∙◌, arith, eqb, false, replicate, add-one, inl, inr, length-append, lit≤}
use Rattle.std.proofs.lemmas.Bool.{cases_lt}
use Rattle.std.proofs.lemmas.Bool.Decides.{nat_tests}
use Rattle.std.proofs.lemmas.Grind.{pow_more, common_steps}
use Rattle.std.proofs.Math.Nat.{pow-le-pow_right}
use Rattle.std.proofs.Math.Seq.{take-suc}
use Rattle.osc_context.specs.PartialIv.{last_bytes, without_leading_zeros, partial_iv_of, spelled_number, SpellsNumber, IsShortest}
use Rattle.osc_context.proofs.Choices.{zero_or}

-- ---- reading a byte more

-- a further byte behind the bytes of a number
pub number_more : (xs : List ℕ) (b : ℕ) → spelled_number (xs ++ b ∷ []) ≡ spelled_number xs * 256 + b
number_more [] b = omega arith
number_more (x ∷ xs) b =
    let long : length (xs ++ b ∷ []) ≡ length xs + 1 = length-append xs (b ∷ []) in
    let power : 256 ^ length (xs ++ b ∷ []) ≡ 256 ^ length xs * 256 = ap (λ (k : ℕ). 256 ^ k) long ∙ pow_more 256 (length xs) in
    let rest = number_more xs b in
    let product : x * 256 ^ length (xs ++ b ∷ []) ≡ (x * 256 ^ length xs) * 256 = ap (λ (k : ℕ). x * k) power ∙ mul_assoc' x (256 ^ length xs) in
    omega (arith, product, rest)
  where
    mul_assoc' : (a b : ℕ) → a * (b * 256) ≡ (a * b) * 256
    mul_assoc' a b = grind (arith, common_steps)

-- a further byte of those that are read
pub number_taken : (s : List ℕ) (n i : ℕ) → i < length s → n ≡ spelled_number (take i s) → n * 256 + get_or s i 0 ≡ spelled_number (take (i + 1) s)
number_taken s n i lt e =
    let step : take (i + 1) s ≡ take i s ++ (get_or s i 0 ∷ []) = ap (λ (k : ℕ). take k s) (add-one i) ∙ take-suc s i 0 lt in
    sym (ap spelled_number step ∙ number_more (take i s) (get_or s i 0) ∙ ap (λ (k : ℕ). k * 256 + get_or s i 0) (sym e))

-- a bound for a number with a further byte
pub bound_more : (n b i : ℕ) → n < 256 ^ i → b < 256 → n * 256 + b < 256 ^ (i + 1)
bound_more n b i lt small =
    let power : 256 ^ (i + 1) ≡ 256 ^ i * 256 = pow_more 256 i in
    omega (arith, power)

-- five bytes hold numbers below 2 ^ 40
pub power_small : (i : ℕ) → i ≤ 5 → 256 ^ i ≤ 1099511627776
power_small i le = pow-le-pow_right {n = 256} (lit≤ tt) le

-- ---- zeros at the front

-- a zero at the front goes
strip_step : (x : ℕ) (t : List ℕ) → x ≡ 0 → 0 < length t → without_leading_zeros (x ∷ t) ≡ without_leading_zeros t
strip_step x [] e h = absurd (omega arith)
strip_step x (y ∷ t) e h = rw e refl

-- another byte at the front stays
strip_stays : (x : ℕ) (t : List ℕ) → x ≢ 0 → without_leading_zeros (x ∷ t) ≡ x ∷ t
strip_stays x [] n = refl
strip_stays x (y ∷ t) n = let e : eqb x 0 ≡ false = grind (arith, nat_tests) in rw e refl

-- many zeros at the front go
pub strip_zeros : (k : ℕ) (bytes : List ℕ) → 0 < length bytes → without_leading_zeros (replicate k 0 ++ bytes) ≡ without_leading_zeros bytes
strip_zeros zero bytes h = refl
strip_zeros (suc k) bytes h =
    strip_step 0 (replicate k 0 ++ bytes) refl (omega (arith, length-append (replicate k 0) bytes)) ∙ strip_zeros k bytes h

-- no bytes are added
pub length-strip : (bytes : List ℕ) → length (without_leading_zeros bytes) ≤ length bytes
length-strip [] = omega arith
length-strip (x ∷ []) = omega arith
length-strip (x ∷ y ∷ ys) =
    let rest = length-strip (y ∷ ys) in
    elim (zero_or x) [
      | inl e ↦ rw (strip_step x (y ∷ ys) e (omega arith)) (omega (arith, rest))
      | inr n ↦ rw (strip_stays x (y ∷ ys) n) (omega arith)
    ]

-- one byte is left at least
pub strip_some : (bytes : List ℕ) → 0 < length bytes → 0 < length (without_leading_zeros bytes)
strip_some [] h = h
strip_some (x ∷ []) h = h
strip_some (x ∷ y ∷ ys) h =
    let rest = strip_some (y ∷ ys) (omega arith) in
    elim (zero_or x) [
      | inl e ↦ rw (strip_step x (y ∷ ys) e (omega arith)) rest
      | inr n ↦ rw (strip_stays x (y ∷ ys) n) (omega arith)
    ]

-- zeros at the front change no number
pub strip_number : (bytes : List ℕ) → spelled_number (without_leading_zeros bytes) ≡ spelled_number bytes
strip_number [] = refl
strip_number (x ∷ []) = refl
strip_number (x ∷ y ∷ ys) =
    let rest = strip_number (y ∷ ys) in
    elim (zero_or x) [
      | inl e ↦ ap spelled_number (strip_step x (y ∷ ys) e (omega arith)) ∙ rest ∙ rw e (omega arith)
      | inr n ↦ ap spelled_number (strip_stays x (y ∷ ys) n)
    ]

-- every byte is below 256
unfoldable pub Small : List ℕ → Type 0
Small [] = Unit {0}
Small (x ∷ xs) = (x < 256) × Small xs

-- each byte of small ones is small
pub small_all : (bytes : List ℕ) → Small bytes → (k d : ℕ) → k < length bytes → get_or bytes k d < 256
unfolding Small
small_all [] s k d lt = absurd (omega arith)
small_all (x ∷ xs) s zero d lt = s.0
small_all (x ∷ xs) s (suc k) d lt = small_all xs s.1 k d (omega arith)

-- bytes that are small each
pub all_small : (bytes : List ℕ) → ((k d : ℕ) → k < length bytes → get_or bytes k d < 256) → Small bytes
unfolding Small
all_small [] h = tt
all_small (x ∷ xs) h = (h 0 0 (omega arith), all_small xs (λ k d lt. h (suc k) d (omega arith)))

-- what a slice of bytes knows
pub fits_small : (bytes : List ℕ) → ((i : ℕ) → get_or bytes i 0 < 256) → Small bytes
unfolding Small
fits_small [] h = tt
fits_small (x ∷ xs) h = (h 0, fits_small xs (λ i. h (suc i)))

-- what is left is small
pub small_strip : (bytes : List ℕ) → Small bytes → Small (without_leading_zeros bytes)
unfolding Small
small_strip [] s = tt
small_strip (x ∷ []) s = s
small_strip (x ∷ y ∷ ys) s =
    let rest = small_strip (y ∷ ys) s.1 in
    elim (zero_or x) [
      | inl e ↦ rw (strip_step x (y ∷ ys) e (omega arith)) rest
      | inr n ↦ rw (strip_stays x (y ∷ ys) n) s
    ]

-- ---- the bytes of a number, and the number of bytes

-- the last five bytes of a number spell it
pub number_last : (n : ℕ) → n < 2 ^ 40 → spelled_number (last_bytes 5 n) ≡ n
number_last n lt = omega arith

-- the last five bytes are small
pub small_last : (n : ℕ) → Small (last_bytes 5 n)
unfolding Small
small_last n = (omega arith, (omega arith, (omega arith, (omega arith, (omega arith, tt)))))

-- five bytes come back
five : (a b c d e n : ℕ) → a < 256 → b < 256 → c < 256 → d < 256 → e < 256 → n ≡ spelled_number (a ∷ b ∷ c ∷ d ∷ e ∷ []) → last_bytes 5 n ≡ a ∷ b ∷ c ∷ d ∷ e ∷ []
five a b c d e n ha hb hc hd he en =
    let p : n / 256 ^ 4 % 256 ≡ a = omega arith in
    let q : n / 256 ^ 3 % 256 ≡ b = omega arith in
    let r : n / 256 ^ 2 % 256 ≡ c = omega arith in
    let s : n / 256 ^ 1 % 256 ≡ d = omega arith in
    let t : n / 256 ^ 0 % 256 ≡ e = omega arith in
    cc

-- the last five bytes of a spelled number are its bytes, padded
pub last_number : (bytes : List ℕ) → Small bytes → length bytes ≤ 5 → last_bytes 5 (spelled_number bytes) ≡ replicate (5 - length bytes) 0 ++ bytes
unfolding Small
last_number [] s le = refl
last_number (e ∷ []) s le = five 0 0 0 0 e _ (omega arith) (omega arith) (omega arith) (omega arith) s.0 (omega arith)
last_number (d ∷ e ∷ []) s le = five 0 0 0 d e _ (omega arith) (omega arith) (omega arith) s.0 s.1.0 (omega arith)
last_number (c ∷ d ∷ e ∷ []) s le = five 0 0 c d e _ (omega arith) (omega arith) s.0 s.1.0 s.1.1.0 (omega arith)
last_number (b ∷ c ∷ d ∷ e ∷ []) s le = five 0 b c d e _ (omega arith) s.0 s.1.0 s.1.1.0 s.1.1.1.0 (omega arith)
last_number (a ∷ b ∷ c ∷ d ∷ e ∷ []) s le = five a b c d e _ s.0 s.1.0 s.1.1.0 s.1.1.1.0 s.1.1.1.1.0 refl
last_number (a ∷ b ∷ c ∷ d ∷ e ∷ f ∷ more) s le = absurd (omega arith)

-- a Partial IV padded again
pub padded_strip : (bytes : List ℕ) → replicate (length bytes - length (without_leading_zeros bytes)) 0 ++ without_leading_zeros bytes ≡ bytes
padded_strip [] = refl
padded_strip (x ∷ []) = refl
padded_strip (x ∷ y ∷ ys) =
    elim (zero_or x) [
      | inl e ↦
          let rest = padded_strip (y ∷ ys) in
          let short = length-strip (y ∷ ys) in
          let one : length (x ∷ y ∷ ys) - length (without_leading_zeros (y ∷ ys)) ≡ suc (length (y ∷ ys) - length (without_leading_zeros (y ∷ ys))) = omega arith in
          rw (strip_step x (y ∷ ys) e (omega arith)) (ap (λ (k : ℕ). replicate k 0 ++ without_leading_zeros (y ∷ ys)) one ∙ ap₂ (λ (z : ℕ) (l : List ℕ). z ∷ l) (sym e) rest)
      | inr n ↦
          let none : length (x ∷ y ∷ ys) - length (x ∷ y ∷ ys) ≡ 0 = omega arith in
          rw (strip_stays x (y ∷ ys) n) (ap (λ (k : ℕ). replicate k 0 ++ (x ∷ y ∷ ys)) none)
    ]

-- ---- the Partial IV

-- a Partial IV has one to five bytes
pub iv_len : (n : ℕ) → (0 < length (partial_iv_of n)) × (length (partial_iv_of n) ≤ 5)
unfolding partial_iv_of
iv_len n = (strip_some (last_bytes 5 n) (omega arith), length-strip (last_bytes 5 n))

-- a Partial IV spells its number
pub iv_number : (n : ℕ) → n < 2 ^ 40 → spelled_number (partial_iv_of n) ≡ n
unfolding partial_iv_of
iv_number n lt = strip_number (last_bytes 5 n) ∙ number_last n lt

-- a Partial IV has bytes alone
pub iv_small : (n : ℕ) → Small (partial_iv_of n)
unfolding partial_iv_of
iv_small n = small_strip (last_bytes 5 n) (small_last n)

-- a Partial IV padded to five bytes
pub iv_padded : (n : ℕ) → replicate (5 - length (partial_iv_of n)) 0 ++ partial_iv_of n ≡ last_bytes 5 n
unfolding partial_iv_of
iv_padded n = padded_strip (last_bytes 5 n)

-- bytes with no leading zero are the Partial IV of their number
pub iv_again : (bytes : List ℕ) → Small bytes → 0 < length bytes → length bytes ≤ 5 → without_leading_zeros bytes ≡ bytes → partial_iv_of (spelled_number bytes) ≡ bytes
unfolding partial_iv_of
iv_again bytes s some short e =
    ap without_leading_zeros (last_number bytes s short) ∙ strip_zeros (5 - length bytes) bytes some ∙ e

-- bytes with no leading zero stay as they are
pub no_zero : (bytes : List ℕ) → (1 < length bytes → get_or bytes 0 0 ≢ 0) → without_leading_zeros bytes ≡ bytes
no_zero [] h = refl
no_zero (x ∷ []) h = refl
no_zero (x ∷ y ∷ ys) h = strip_stays x (y ∷ ys) (h (omega arith))

-- a Partial IV has no leading zero
pub iv_front : (n : ℕ) → 1 < length (partial_iv_of n) → get_or (partial_iv_of n) 0 0 ≢ 0
unfolding partial_iv_of
iv_front n = front (last_bytes 5 n)
  where
    front : (bytes : List ℕ) → 1 < length (without_leading_zeros bytes) → get_or (without_leading_zeros bytes) 0 0 ≢ 0
    front [] h = absurd (omega arith)
    front (x ∷ []) h = absurd (omega arith)
    front (x ∷ y ∷ ys) h = elim (zero_or x) [
      | inl e ↦ rw (strip_step x (y ∷ ys) e (omega arith)) (front (y ∷ ys) (rw (strip_step x (y ∷ ys) e (omega arith)) at h))
      | inr n ↦ rw (strip_stays x (y ∷ ys) n) n
    ]

-- no fewer bytes spell the number
pub iv_least : (n : ℕ) (other : List ℕ) → SpellsNumber other n → length (partial_iv_of n) ≤ length other
unfolding partial_iv_of
iv_least n other h = elim (cases_lt (length other) 5) [
  | inr long ↦ let short = iv_len n in omega (arith, short.1)
  | inl short ↦
      let small = all_small other h.small in
      let e : partial_iv_of n ≡ without_leading_zeros other = stripped n other small h.some (omega arith) h.number in
      let le = length-strip other in
      rw e le
]
  where
    stripped : (n : ℕ) (other : List ℕ) → Small other → 0 < length other → length other ≤ 5 → spelled_number other ≡ n → partial_iv_of n ≡ without_leading_zeros other
    stripped n other s some le e = ap (λ (k : ℕ). without_leading_zeros (last_bytes 5 k)) (sym e) ∙ ap without_leading_zeros (last_number other s le) ∙ strip_zeros (5 - length other) other some

-- a Partial IV is the shortest spelling
pub iv_shortest : (n : ℕ) → n < 2 ^ 40 → IsShortest (partial_iv_of n) n
iv_shortest n lt = record {
  spells = record { small = small_all _ (iv_small n); some = (iv_len n).0; number = iv_number n lt };
  least = iv_least n;
}
