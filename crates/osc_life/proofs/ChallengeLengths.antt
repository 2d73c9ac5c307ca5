-- That a sealed challenge has room in 64 bytes.
use Rattle.std.proofs.Common.{◌≡◌, ℕ, ◌≤◌, refl, ap, arith, Bool, true, false, Some, List, length, Result, Err, subst}
use Rattle.std.specs.Prelude.{IsOk}
use Rattle.std.proofs.lemmas.Bool.Decides.{nat_tests}
use Rattle.osc_coap.specs.declared.message.Kind.{Kind}
use Rattle.osc_coap.specs.declared.message.Kind.TheVariants.{Con, Non, Ack, Rst}
use Rattle.osc_coap.specs.OptionSpelling.{extended_length}
use Rattle.osc_context.specs.Features.{unobserved}
use Rattle.osc_context.specs.OscoreValue.{IsOscoreValue}
use Rattle.osc_context.specs.SecurityContext.{SecurityContext}
use Rattle.osc_context.specs.declared.features.Features.{Features}
use Rattle.osc_coap.specs.Code.{is_response}
use Rattle.osc_coap.specs.Search.{has_number}
use Rattle.osc_protect.specs.OptionSets.{is_unsupported}
use Rattle.osc_protect.specs.Protection.{as_it_is, responses}
use Rattle.osc_protect.specs.Sealed.{sealed_length}
use Rattle.osc_protect.specs.SealRefusals.{FitsToSeal}
use Rattle.osc_protect.specs.Usage.{value_of_response}
use Rattle.osc_life.specs.Replies.{as_reply, reply_kind, challenge_message}

-- what is Ok is no error
pub not_err : {T E : Type 0} (r : Result T E) (e : E) → r ≡ Err e → IsOk r → ⊥
not_err {T} {E} r e is ok = let bad : IsOk {T = T} (Err e) = subst (λ (x : Result T E). IsOk x) is ok in cc

short_value : (n : ℕ) → n ≤ 6 → extended_length n ≡ 0
short_value n h = grind (arith, nat_tests)

pub is_answer : (kind : Kind) → is_response (reply_kind kind) 129 ≡ true
is_answer Con = refl
is_answer Non = refl
is_answer Ack = refl
is_answer Rst = refl

sealed_is_short : (x : Features) (kind : Kind) (id mid : ℕ) (token echo value : List ℕ) → length token ≤ 8 → length echo ≡ 8 → length value ≤ 6
    → sealed_length (unobserved x) as_it_is (as_reply kind id token mid (challenge_message echo)) value ≤ 64
sealed_is_short x kind id mid token echo value t e v =
    let x : extended_length (length value) ≡ 0 = short_value (length value) v in
    let y : extended_length (length echo) ≡ 0 = ap extended_length e in
    omega (arith, x, y)

-- it has no option that can't be sealed, whether the context allows blocks or not
supported : (blocks : Bool) (kind : Kind) (id mid : ℕ) (token echo : List ℕ)
    → has_number (is_unsupported (record { observe = false; blocks = blocks })) (as_reply kind id token mid (challenge_message echo)).options ≡ false
supported true kind id mid token echo = refl
supported false kind id mid token echo = refl

pub challenge_fits : (s : SecurityContext) (n own : ℕ) (kind : Kind) (id mid : ℕ) (token echo : List ℕ) (room : ℕ)
    → length token ≤ 8 → length echo ≡ 8 → room ≡ 64
    → ((value : List ℕ) → IsOscoreValue (value_of_response (Some own)) value → length value ≤ 6)
    → FitsToSeal (responses s n) (Some own) (as_reply kind id token mid (challenge_message echo)) room
challenge_fits s n own kind id mid token echo room t e r short = (
  (is_answer kind, supported s.features.blocks kind id mid token echo),
  λ value reads.
      let h = sealed_is_short s.features kind id mid token echo value t e (short value reads) in
      (omega (arith, h), omega (arith, h, r)),
)
