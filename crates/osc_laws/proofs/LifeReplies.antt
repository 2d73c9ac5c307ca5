-- That a life has one answer to a reply, and one to a notification.
use Rattle.std.proofs.Common.{◌≡◌, ℕ, ◌⊎◌, ◌∙◌, sym, ap, subst, refl, Bool, true, false, Some, List, [], ◌∷◌, inl, inr}
use Rattle.std.specs.Prelude.{◌==◌}
use Rattle.std.proofs.lemmas.Bool.{both_ways, eqb-true, or_cases, or_left, or_right}
use Rattle.osc_coap.specs.Datagram.{Parts}
use Rattle.osc_coap.specs.OptionSpelling.{Entry as Spelled}
use Rattle.osc_coap.specs.Search.{has_number}
use Rattle.osc_context.specs.Features.{unobserved}
use Rattle.osc_context.specs.declared.features.Features.{Features}
use Rattle.osc_protect.specs.OptionSets.{is_unsupported}
use Rattle.osc_protect.specs.Protection.{notifications, responses}
use Rattle.osc_protect.specs.SealRefusals.{IsPlainResponse, RefusesPlainResponse}
use Rattle.osc_protect.specs.declared.protect_error.ProtectError.{ProtectError}
use Rattle.osc_protect.specs.declared.protect_error.ProtectError.TheVariants as seals
use Rattle.osc_protect.proofs.Splits.{chosen}
use Rattle.osc_protect.proofs.Supported.{never_refused, one_refusal}
use Rattle.osc_life.specs.declared.server_error.ReplyError.TheVariants.{NotThatKind, Unsupported, NotNotification, SequenceExhausted as NoOwnLeft, TooLong, NoRoom}
use Rattle.osc_laws.specs.AnswerLaws.{AnswerLaws}
use Rattle.osc_life.specs.Life.{Life, HasOwn, next_own}
use Rattle.osc_observe.specs.Observing.{is_notification}
use Rattle.osc_life.specs.Replying.{lifted}
use Rattle.osc_life.specs.LifeAnswer.{HasAsked, LifeNotify, LifeReply, own_number}
use Rattle.osc_life.specs.ServerHistory.{Entry, NotReplied, Replied}
use Rattle.osc_laws.proofs.SealedAnswers.{IsAnswer, one_sealed_answer}
use Rattle.osc_life.proofs.SealedReplies.{notified_features, replied_features}

-- where a number that can't be sealed is among the options, one is
pub unsupported_among : (x : Features) (n : ℕ) (entries : List Spelled) → is_unsupported x n ≡ true → has_number (λ k. k == n) entries ≡ true → has_number (is_unsupported x) entries ≡ true
unsupported_among x n [] unsupported among = among
unsupported_among x n (entry ∷ entries) unsupported among = elim (or_cases (entry.0 == n) (has_number (λ k. k == n) entries) among) [
  | inl here ↦ or_left (is_unsupported x entry.0) (has_number (is_unsupported x) entries) (ap (is_unsupported x) (eqb-true entry.0 n here) ∙ unsupported)
  | inr there ↦ or_right (is_unsupported x entry.0) (has_number (is_unsupported x) entries) (unsupported_among x n entries unsupported there)
]

-- the answer where no Sender Sequence Number is left
abbrev Exhausted : Entry → Type 0
Exhausted entry = entry ≡ NotReplied NoOwnLeft

module _ (laws : AnswerLaws) (of : Life) (n : ℕ) (own : Bool) (p : Parts) (room : ℕ) where
  sort_of : (x : Entry) → LifeReply of n own p room x → IsAnswer (responses of.context n) (own_number own of) p room (HasAsked own of) Exhausted x
  sort_of (NotReplied NotThatKind) row =
      inl (record { refusal = seals.NotThatKind; refuses = row; ready = λ plain. absurd (both_ways _ row plain.0); entry_is = refl })
  sort_of (NotReplied (Unsupported k)) row =
      inl (record {
        refusal = seals.Unsupported k;
        refuses = subst (λ (x : Features). RefusesPlainResponse x p (seals.Unsupported k)) (sym (replied_features of.context n p)) row;
        ready = λ plain. absurd (both_ways _ plain.1 (unsupported_among (unobserved of.context.features) k p.options row.1.unsupported row.1.among));
        entry_is = refl;
      })
  sort_of (NotReplied NoOwnLeft) row = inr (inl (record { plain = row.0; unready = λ asked. row.2 (asked row.1); why = refl }))
  sort_of (NotReplied TooLong) row = inl (record { refusal = seals.TooLong; refuses = row.1; ready = λ plain. row.0; entry_is = refl })
  sort_of (NotReplied NoRoom) row = inl (record { refusal = seals.NoRoom; refuses = row.1; ready = λ plain. row.0; entry_is = refl })
  sort_of (Replied bytes) row = inr (inr (record { bytes = bytes; ready = row.0; seals = row.1; fits = row.2; entry_is = refl }))
  sort_of x row = absurd row

  pub one_life_reply : (x y : Entry) → LifeReply of n own p room x → LifeReply of n own p room y → x ≡ y
  one_life_reply x y row other =
      one_sealed_answer (responses of.context n) (laws.sealed.response of.context n) (own_number own of) p room (HasAsked own of) Exhausted (λ a b e f. e ∙ sym f) x y (sort_of x row) (sort_of y other)

module _ (of : Life) (p : Parts) where
  -- the answer to what is no notification: a refusal of kind, code or options, or that it is none
  abbrev IsPlainAnswer : Entry → Type 0
  IsPlainAnswer entry = ((e : ProtectError) × RefusesPlainResponse of.context.features p e × (entry ≡ NotReplied (lifted e)))
      ⊎ (IsPlainResponse of.context.features p × (entry ≡ NotReplied NotNotification))

  one_plain : (x y : Entry) → IsPlainAnswer x → IsPlainAnswer y → x ≡ y
  one_plain x y (inl a) (inl b) = a.2 ∙ ap (λ e. NotReplied (lifted e)) (one_refusal (notifications of.context 0).usage of.context.features p a.0 b.0 a.1 b.1) ∙ sym b.2
  one_plain x y (inl a) (inr b) = absurd (never_refused (notifications of.context 0).usage of.context.features p a.0 b.0 a.1)
  one_plain x y (inr a) (inl b) = absurd (never_refused (notifications of.context 0).usage of.context.features p b.0 a.0 b.1)
  one_plain x y (inr a) (inr b) = a.1 ∙ sym b.1

module _ (laws : AnswerLaws) (of : Life) (n : ℕ) (p : Parts) (room : ℕ) where
  sort_of_other : is_notification p.code p.options ≡ false → (x : Entry) → LifeNotify of n p room x → IsPlainAnswer of p x
  sort_of_other none (NotReplied NotThatKind) row = inl (seals.NotThatKind, row, refl)
  sort_of_other none (NotReplied (Unsupported k)) row = inl (seals.Unsupported k, row, refl)
  sort_of_other none (NotReplied NotNotification) row = inr (row.0, refl)
  sort_of_other none (NotReplied NoOwnLeft) row = absurd (both_ways _ none row.1)
  sort_of_other none (NotReplied TooLong) row = absurd (both_ways _ none row.0)
  sort_of_other none (NotReplied NoRoom) row = absurd (both_ways _ none row.0)
  sort_of_other none (Replied bytes) row = absurd (both_ways _ none row.0)
  sort_of_other none x row = absurd row

  sort_of_notification : is_notification p.code p.options ≡ true → (x : Entry) → LifeNotify of n p room x → IsAnswer (notifications of.context n) (Some (next_own of)) p room (HasOwn of) Exhausted x
  sort_of_notification is (NotReplied NotThatKind) row =
      inl (record { refusal = seals.NotThatKind; refuses = row; ready = λ plain. absurd (both_ways _ row plain.0); entry_is = refl })
  sort_of_notification is (NotReplied (Unsupported k)) row =
      inl (record {
        refusal = seals.Unsupported k;
        refuses = subst (λ (x : Features). RefusesPlainResponse x p (seals.Unsupported k)) (sym (notified_features of.context n p is)) row;
        ready = λ plain. absurd (both_ways _ plain.1 (unsupported_among of.context.features k p.options row.1.unsupported row.1.among));
        entry_is = refl;
      })
  sort_of_notification is (NotReplied NotNotification) row = absurd (both_ways _ row.1 is)
  sort_of_notification is (NotReplied NoOwnLeft) row = inr (inl (record { plain = row.0; unready = row.2; why = refl }))
  sort_of_notification is (NotReplied TooLong) row = inl (record { refusal = seals.TooLong; refuses = row.2; ready = λ plain. row.1; entry_is = refl })
  sort_of_notification is (NotReplied NoRoom) row = inl (record { refusal = seals.NoRoom; refuses = row.2; ready = λ plain. row.1; entry_is = refl })
  sort_of_notification is (Replied bytes) row = inr (inr (record { bytes = bytes; ready = row.1; seals = row.2; fits = row.3; entry_is = refl }))
  sort_of_notification is x row = absurd row

  pub one_life_notification : (x y : Entry) → LifeNotify of n p room x → LifeNotify of n p room y → x ≡ y
  one_life_notification x y row other = elim (chosen (is_notification p.code p.options)) [
    | inl is ↦ one_sealed_answer (notifications of.context n) (laws.sealed.notification of.context n) (Some (next_own of)) p room (HasOwn of) Exhausted
        (λ a b e f. e ∙ sym f) x y (sort_of_notification is x row) (sort_of_notification is y other)
    | inr none ↦ one_plain of p x y (sort_of_other none x row) (sort_of_other none y other)
  ]
