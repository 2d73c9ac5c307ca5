use Rattle.std.proofs.Common.{◌≡◌, ℕ, ◌+◌, ◌-◌, ◌%◌, ◌^◌, ◌≤◌, ◌<◌, arith, refl, inl, inr}
use Rattle.std.proofs.lemmas.Bool.{cases_eq}
use Rattle.std.proofs.lemmas.Bool.Decides.{nat_tests}
use Rattle.osc_message.specs.MessageIds.{Counted, IsNext}
use Rattle.osc_message.specs.Views.{counted_of}
use Rattle.osc_message.proofs.message_ids.MessageIds.next.Goals as goal
use Rattle.osc_message.proofs.message_ids.MessageIds.next.Goals.{then-count-eq0, else-count-eq0}

is_next : (w : Counted) (now : ℕ) → (w.count % 32768 ≡ 0 → 247000 ≤ now - w.entered) → w.count < 2 ^ 64 - 1 → IsNext w now (w.count % 65536)
is_next w now old more = elim (cases_eq (w.count % 32768) 0) [
  | inl same ↦ (record { count = w.count + 1; entered = now }, record { id_is = refl; count_is = refl; half = inl (same, old same, refl) }, omega (arith, more))
  | inr other ↦ (record { count = w.count + 1; entered = w.entered }, record { id_is = refl; count_is = refl; half = inr (other, refl) }, omega (arith, more))
]

pub returns-clause-some : goal.returns-clause-some
returns-clause-some c =
    let no = c.if-waits.false in
    is_next (counted_of c.args.self.now) c.args.now
    (λ half. elim c.if-count-eq0.branch [
      | then-count-eq0 w ↦ let waits = w.waits-is in let since = w.saturating_sub.ensures in grind (arith, nat_tests, no, waits, since)
      | else-count-eq0 w ↦ absurd (w.if-count-eq0.false half)
    ])
    (omega arith)
