-- What the proofs need of a protection, and that requests and responses have it.
use Rattle.std.proofs.Common.{◌≡◌, ◌≢◌, ℕ, ◌+◌, ◌&&◌, Bool, List, length, refl, ap, Option, Some, arith, true, false, if◌then◌else◌}
use Rattle.std.specs.Option.{unwrap_or}
use Rattle.std.specs.Prelude.{is_some}
use Rattle.osc_ccm.specs.Laws.{OnePlaintext, ProtectionLength}
use Rattle.osc_coap.specs.Datagram.{Parts}
use Rattle.osc_coap.specs.Interpreted.{interpreted}
use Rattle.osc_coap.specs.OptionNumbers.{observe}
use Rattle.osc_coap.specs.OptionSpelling.{Entry}
use Rattle.osc_coap.specs.Search.{has_number}
use Rattle.osc_context.specs.OscoreValue.{OscoreParts}
use Rattle.osc_context.specs.SecurityContext.{SecurityContext}
use Rattle.osc_context.specs.declared.features.Features.{Features}
use Rattle.osc_protect.specs.Protection.{Protection, request_cipher, requests, response_cipher, responses_to}
use Rattle.osc_protect.specs.Usage.{is_complete, observing_code_of, outer_code_of, plain_code_of}
use Rattle.osc_protect.proofs.Sides.{numbers_kept}
use Rattle.osc_protect.specs.declared.usage.Usage.{Usage}
use Rattle.osc_protect.specs.declared.usage.Usage.TheVariants.{Request, Response}

-- the option tells the number, and the cipher the plaintext; a protection is 8 bytes longer; the option says what it has to
pub record IsSound {I : Type 0} (f : Protection I) : Type 0 where
  pub one_number : (i j : I) → f.parts i ≡ f.parts j → i ≡ j
  pub one_plaintext : (i : I) (m l : List ℕ) → f.cipher i m ≡ f.cipher i l → m ≡ l
  pub long : (i : I) (m : List ℕ) → length (f.cipher i m) ≡ length m + 8
  pub complete : (i : I) → is_complete f.usage (f.parts i) ≡ true

-- two numbers that are the same where they are there
pub some_same : (n m : ℕ) → Some n ≡ Some m → n ≡ m
some_same n m e = ap (λ (o : Option ℕ). unwrap_or o 0) e

pub requests_sound : OnePlaintext → ProtectionLength → (s : SecurityContext) → IsSound (requests s)
unfolding request_cipher
requests_sound one long s = record {
  one_number = λ n m e. some_same n m (ap (λ (v : OscoreParts). v.piv) e);
  one_plaintext = λ n m l e. one _ _ _ m l e;
  long = λ n m. long _ _ _ m;
  complete = λ n. refl;
}

pub responses_sound : OnePlaintext → ProtectionLength → (s : SecurityContext) (r : Bool) (n : ℕ) → IsSound (responses_to s r n)
unfolding response_cipher
responses_sound one long s r n = record {
  one_number = λ own k e. ap (λ (v : OscoreParts). v.piv) e;
  one_plaintext = λ own m l e. one _ _ _ m l e;
  long = λ own m. long _ _ _ m;
  complete = λ own. refl;
}

-- what goes inside has the message's code, and options of the same numbers
pub record KeepsNumbers {I : Type 0} (f : Protection I) : Type 0 where
  pub code : (p : Parts) → (f.says p).code ≡ p.code
  pub numbers : (q : ℕ → Bool) (p : Parts) → has_number q (f.says p).options ≡ has_number q p.options

pub requests_keep : (s : SecurityContext) → KeepsNumbers (requests s)
requests_keep s = record { code = λ p. refl; numbers = λ q p. refl }

pub responses_keep : (s : SecurityContext) (r : Bool) (n : ℕ) → KeepsNumbers (responses_to s r n)
responses_keep s true n = record { code = λ p. refl; numbers = λ q p. numbers_kept q true p.options }
responses_keep s false n = record { code = λ p. refl; numbers = λ q p. refl }

-- what holds of both codes outside holds of the one that is written
pub of_outer_code : (P : ℕ → Type 0) (u : Usage) (x : Features) (entries : List Entry) → P (plain_code_of u) → P (observing_code_of u) → P (outer_code_of u x entries)
of_outer_code P u x entries plain observing = chosen (x.observe && is_some (interpreted observe entries))
  where
    chosen : (b : Bool) → P (if b then observing_code_of u else plain_code_of u)
    chosen true = observing
    chosen false = plain

-- no code outside is 0.00
pub outer_code_some : (u : Usage) (x : Features) (entries : List Entry) → outer_code_of u x entries ≢ 0
outer_code_some Request x entries = of_outer_code (λ c. c ≢ 0) Request x entries (λ e. omega (arith, e)) (λ e. omega (arith, e))
outer_code_some Response x entries = of_outer_code (λ c. c ≢ 0) Response x entries (λ e. omega (arith, e)) (λ e. omega (arith, e))
