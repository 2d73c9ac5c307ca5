-- A writer refuses exactly where a reason holds, and with the first one.
use Rattle.std.proofs.Common.{refl, ◌≡◌, ◌≢◌, ℕ, ◌+◌, ◌-◌, ◌<◌, ◌≤◌, List, [], length, min, Result, Ok, Err, IsOk, IfErr, IsErrOf, IsErrAnd, sym, ap, subst, ◌∙◌, arith, inl, inr}
use Rattle.std.proofs.lemmas.Bool.{cases_lt, true≢false}
use Rattle.osc_coap.specs.declared.write_error.WriteError.{WriteError}
use Rattle.osc_coap.specs.declared.write_error.WriteError.TheVariants.{EmptyWithRest, Order, ValueTooLong, NoRoom}
use Rattle.osc_coap.specs.declared.writer.Writer.{Writer}
use Rattle.osc_coap.specs.declared.writer.Stage.{Stage}
use Rattle.osc_coap.specs.declared.writer.Stage.TheVariants.{Alone, Open, Closed}
use Rattle.osc_coap.specs.OptionSpelling.{last_number, option_length}
use Rattle.osc_coap.specs.Writing.{Draft, IsEmptyMessage, options_of, payload_of, length_of, with_option, ComesLate, LacksRoom, HasRoom, IsFirstReason, Reason, write_rank, RefusesOption, TakesOption, RefusesPayload, TakesPayload, with_payload}
use Rattle.osc_coap.specs.Writer.{Holds}
use Rattle.osc_coap.specs.Held.{IsHeld, IsAt, TakesNow, RefusesOptionNow, RefusesPayloadNow, limit_of}
use Rattle.osc_coap.proofs.Drafts.{length_more, length_marked}

-- ---- one answer

-- the first reason is one
pub first_one : (why : WriteError → Type 0) (e f : WriteError) → IsFirstReason why e → IsFirstReason why f → e ≡ f
first_one why EmptyWithRest EmptyWithRest h k = refl
first_one why EmptyWithRest Order h k = absurd (k.first EmptyWithRest (omega arith) h.holds)
first_one why EmptyWithRest ValueTooLong h k = absurd (k.first EmptyWithRest (omega arith) h.holds)
first_one why EmptyWithRest NoRoom h k = absurd (k.first EmptyWithRest (omega arith) h.holds)
first_one why Order EmptyWithRest h k = absurd (h.first EmptyWithRest (omega arith) k.holds)
first_one why Order Order h k = refl
first_one why Order ValueTooLong h k = absurd (k.first Order (omega arith) h.holds)
first_one why Order NoRoom h k = absurd (k.first Order (omega arith) h.holds)
first_one why ValueTooLong EmptyWithRest h k = absurd (h.first EmptyWithRest (omega arith) k.holds)
first_one why ValueTooLong Order h k = absurd (h.first Order (omega arith) k.holds)
first_one why ValueTooLong ValueTooLong h k = refl
first_one why ValueTooLong NoRoom h k = absurd (k.first ValueTooLong (omega arith) h.holds)
first_one why NoRoom EmptyWithRest h k = absurd (h.first EmptyWithRest (omega arith) k.holds)
first_one why NoRoom Order h k = absurd (h.first Order (omega arith) k.holds)
first_one why NoRoom ValueTooLong h k = absurd (h.first ValueTooLong (omega arith) k.holds)
first_one why NoRoom NoRoom h k = refl

-- where no reason holds, none is the first
pub first_none : {A B C D : Type 0} → ¬ A → ¬ B → ¬ C → ¬ D → (e : WriteError) → IsFirstReason (Reason A B C D) e → ⊥
first_none a b c d EmptyWithRest h = a h.holds
first_none a b c d Order h = b h.holds
first_none a b c d ValueTooLong h = c h.holds
first_none a b c d NoRoom h = d h.holds

-- no reason comes before the first one
pub first_empty : (A B C D : Type 0) → A → IsFirstReason (Reason A B C D) EmptyWithRest
first_empty A B C D a = record { holds = a; first = λ f lt. absurd (omega (arith, lt)) }

-- the second reason is the first where the one before it doesn't hold
pub first_late : (A B C D : Type 0) → ¬ A → B → IsFirstReason (Reason A B C D) Order
first_late A B C D a b = record { holds = b; first = before }
  where
    before : (f : WriteError) → write_rank f < 1 → ¬ Reason A B C D f
    before EmptyWithRest lt = a
    before Order lt = absurd (omega (arith, lt))
    before ValueTooLong lt = absurd (omega (arith, lt))
    before NoRoom lt = absurd (omega (arith, lt))

-- so is the third
pub first_long : (A B C D : Type 0) → ¬ A → ¬ B → C → IsFirstReason (Reason A B C D) ValueTooLong
first_long A B C D a b c = record { holds = c; first = before }
  where
    before : (f : WriteError) → write_rank f < 2 → ¬ Reason A B C D f
    before EmptyWithRest lt = a
    before Order lt = b
    before ValueTooLong lt = absurd (omega (arith, lt))
    before NoRoom lt = absurd (omega (arith, lt))

-- and the last
pub first_full : (A B C D : Type 0) → ¬ A → ¬ B → ¬ C → D → IsFirstReason (Reason A B C D) NoRoom
first_full A B C D a b c d = record { holds = d; first = before }
  where
    before : (f : WriteError) → write_rank f < 3 → ¬ Reason A B C D f
    before EmptyWithRest lt = a
    before Order lt = b
    before ValueTooLong lt = c
    before NoRoom lt = absurd (omega (arith, lt))

-- Ok is answered exactly where it can be done, an error exactly where it says why not
pub record IsExact {X : Type 0} (result : Result X WriteError) (can : Type 0) (why : WriteError → Type 0) : Type 0 where
  pub accepted : IsOk result → can
  pub accepts : can → IsOk result
  pub refused : IfErr result why
  pub refuses : (e : WriteError) → why e → IsErrOf result e

-- an answer of Ok is exact where it can be done
pub ok_exact : {X Can : Type 0} {Why : WriteError → Type 0} (x : X) → Can → ((e : WriteError) → Can → Why e → ⊥) → IsExact (Ok x) Can Why
ok_exact x can apart = record { accepted = λ _. can; accepts = λ _. refl; refused = tt; refuses = λ e why. absurd (apart e can why) }

-- an error is exact where it says why
pub err_exact : {X Can : Type 0} {Why : WriteError → Type 0} (r : Result X WriteError) (e : WriteError) → IsErrAnd r (λ f. f ≡ e) → Why e → ((f : WriteError) → Why f → e ≡ f) → ((f : WriteError) → Can → Why f → ⊥) → IsExact r Can Why
err_exact {Why = Why} (Ok x) e same why one apart = absurd same
err_exact {Why = Why} (Err f) e same why one apart = record {
  accepted = λ ok. absurd (true≢false (sym ok));
  accepts = λ can. absurd (apart e can why);
  refused = subst Why (sym same) why;
  refuses = λ g other. ap Err (same ∙ one g other);
}

-- room and no room exclude each other
pub room_apart : (room size : ℕ) → HasRoom room size → ¬ LacksRoom room size
room_apart room size h l = elim l [
  | inl k ↦ let has = h.0 in absurd (omega arith)
  | inr k ↦ let has = h.1 in absurd (omega arith)
]

-- past the lesser of two limits is past one of them
pub limit_passed : (room size : ℕ) → min room 65535 < size → LacksRoom room size
limit_passed room size h = elim (cases_lt room size) [
  | inl lt ↦ inl lt
  | inr le ↦ inr (omega arith)
]

-- an option in order doesn't come late
in_order : (draft : Draft) (number : ℕ) → payload_of draft ≡ [] → last_number 0 (options_of draft) ≤ number → ¬ ComesLate draft number
in_order draft number none le late = elim late [
  | inl some ↦ some none
  | inr lt ↦ absurd (omega arith)
]

-- an option that can be added has a short value
value_short : (draft : Draft) (number : ℕ) (value : List ℕ) → length_of (with_option draft number value) ≤ 65535 → length value ≤ 65535
value_short draft number value fits = let more = length_more draft number value in omega arith

-- an option that is taken isn't refused
pub option_apart : (room : ℕ) (draft : Draft) (number : ℕ) (value : List ℕ) (e : WriteError) → TakesOption room draft number value → IsFirstReason (RefusesOption room draft number value) e → ⊥
option_apart room draft number value e t r =
    let short = value_short draft number value t.3.1 in
    first_none t.0 (in_order draft number t.1 t.2) (λ (long : 65804 < length value). absurd (omega arith)) (room_apart room (length_of (with_option draft number value)) t.3) e r

-- what the writer's number and stage say
at_stage : (w : Writer) (draft : Draft) (old : List ℕ) (s : Stage) → IsHeld w draft old → w.stage ≡ s → IsAt s draft
at_stage w draft old s h e = subst (λ (z : Stage). IsAt z draft) e h.stage

-- how long the draft is with the option
option_ends : (w : Writer) (draft : Draft) (old : List ℕ) (number : ℕ) (value : List ℕ) → IsHeld w draft old → length_of (with_option draft number value) ≡ w.len + option_length (number - w.number) (length value)
option_ends w draft old number value h =
    length_more draft number value ∙ ap (λ (k : ℕ). k + option_length (number - last_number 0 (options_of draft)) (length value)) (sym h.size) ∙ ap (λ (k : ℕ). w.len + option_length (number - k) (length value)) (sym h.number)

-- what the writer takes can be added
pub option_taken : (w : Writer) (draft : Draft) (old : List ℕ) (number : ℕ) (value : List ℕ) → IsHeld w draft old → TakesNow w number (length value) → TakesOption (length old) draft number value
option_taken w draft old number value h t =
    let stage = at_stage w draft old Open h t.stage in
    let order = t.order in
    let last = h.number in
    let ends = option_ends w draft old number value h in
    let room = t.room in
    let same = h.same_room in
    (stage.0, stage.1, omega arith, (omega arith, omega arith))

-- an open stage is one at which more can be written
open_stage : (s : Stage) (draft : Draft) → IsAt s draft → ¬ IsEmptyMessage draft → payload_of draft ≡ [] → s ≡ Open
open_stage Alone draft at filled none = absurd (filled at.0)
open_stage Open draft at filled none = refl
open_stage Closed draft at filled none = absurd (at.1 none)

-- what can be added the writer takes
option_takes : (w : Writer) (draft : Draft) (old : List ℕ) (number : ℕ) (value : List ℕ) → IsHeld w draft old → TakesOption (length old) draft number value → TakesNow w number (length value)
option_takes w draft old number value h t =
    let after = t.2 in
    let fits = t.3.1 in
    let room = t.3.0 in
    let last = h.number in
    let same = h.same_room in
    let ends = option_ends w draft old number value h in
    let short = value_short draft number value fits in
    record {
      stage = open_stage w.stage draft h.stage t.0 t.1;
      order = omega arith;
      short = omega arith;
      room = omega arith;
    }

-- the same where some draft is held
pub takes_now : (w : Writer) (number : ℕ) (value : List ℕ)
    → ((draft : Draft) × (old : List ℕ) × Holds w draft old × TakesOption (length old) draft number value) → TakesNow w number (length value)
unfolding Holds
takes_now w number value held = option_takes w held.0 held.1 number value held.2 held.3

-- what the writer refuses can't be added, for the same first reason
pub option_refused : (w : Writer) (draft : Draft) (old : List ℕ) (number : ℕ) (value : List ℕ) (e : WriteError) → IsHeld w draft old → RefusesOptionNow w number (length value) e → IsFirstReason (RefusesOption (length old) draft number value) e
option_refused w draft old number value EmptyWithRest h r = first_empty _ _ _ _ (at_stage w draft old Alone h r).0
option_refused w draft old number value Order h r = elim r [
  | inl closed ↦ let stage = at_stage w draft old Closed h closed in first_late _ _ _ _ stage.0 (inl stage.1)
  | inr low ↦ let stage = at_stage w draft old Open h low.0 in
      let last = h.number in
      let below = low.1 in
      first_late _ _ _ _ stage.0 (inr (omega arith))
]
option_refused w draft old number value ValueTooLong h r =
    let stage = at_stage w draft old Open h r.0 in
    first_long _ _ _ _ stage.0 (in_order draft number stage.1 (subst (λ (k : ℕ). k ≤ number) h.number r.1)) r.2
option_refused w draft old number value NoRoom h r =
    let stage = at_stage w draft old Open h r.0 in
    let short = r.2 in
    let past : limit_of w < length_of (with_option draft number value) = subst (λ (k : ℕ). limit_of w < k) (sym (option_ends w draft old number value h)) r.3 in
    first_full _ _ _ _ stage.0 (in_order draft number stage.1 (subst (λ (k : ℕ). k ≤ number) h.number r.1)) (λ (long : 65804 < length value). absurd (omega arith)) (limit_passed (length old) _ (subst (λ (k : ℕ). min k 65535 < length_of (with_option draft number value)) h.same_room past))

-- the answer to an option that is written
pub option_ok : (w : Writer) (draft : Draft) (old : List ℕ) (number : ℕ) (value : List ℕ) → IsHeld w draft old → TakesNow w number (length value) → IsExact {X = Unit {0}} (Ok tt) (TakesOption (length old) draft number value) (IsFirstReason (RefusesOption (length old) draft number value))
option_ok w draft old number value h t = ok_exact tt (option_taken w draft old number value h t) (option_apart (length old) draft number value)

-- the answer to an option that is refused
pub option_err : (w : Writer) (draft : Draft) (old : List ℕ) (number : ℕ) (value : List ℕ) (e : WriteError) (r : Result (Unit {0}) WriteError) → IsHeld w draft old → RefusesOptionNow w number (length value) e → IsErrAnd r (λ f. f ≡ e) → IsExact r (TakesOption (length old) draft number value) (IsFirstReason (RefusesOption (length old) draft number value))
option_err w draft old number value e r h why same =
    let first = option_refused w draft old number value e h why in
    err_exact r e same first (λ f other. first_one _ e f first other) (option_apart (length old) draft number value)

-- ---- a payload

-- how long the draft is with the payload
payload_ends : (w : Writer) (draft : Draft) (old bytes : List ℕ) → IsHeld w draft old → payload_of draft ≡ [] → bytes ≢ [] → length_of (with_payload draft bytes) ≡ w.len + (1 + length bytes)
payload_ends w draft old bytes h none some =
    length_marked draft bytes none some ∙ ap (λ (k : ℕ). k + (1 + length bytes)) (sym h.size)

-- a payload that is taken isn't refused
payload_apart : (room : ℕ) (draft : Draft) (bytes : List ℕ) (e : WriteError) → TakesPayload room draft bytes → IsFirstReason (RefusesPayload room draft bytes) e → ⊥
payload_apart room draft bytes e t r =
    first_none t.0 (λ (some : payload_of draft ≢ []). some t.1) (λ (n : ⊥). n) (room_apart room (length_of (with_payload draft bytes)) t.2) e r

-- what the writer refuses can't be added, for the same first reason
payload_refused : (w : Writer) (draft : Draft) (old bytes : List ℕ) (e : WriteError) → IsHeld w draft old → bytes ≢ [] → RefusesPayloadNow w (length bytes) e → IsFirstReason (RefusesPayload (length old) draft bytes) e
payload_refused w draft old bytes EmptyWithRest h some r = first_empty _ _ _ _ (at_stage w draft old Alone h r).0
payload_refused w draft old bytes Order h some r = let stage = at_stage w draft old Closed h r in first_late _ _ _ _ stage.0 stage.1
payload_refused w draft old bytes ValueTooLong h some r = absurd r
payload_refused w draft old bytes NoRoom h some r =
    let stage = at_stage w draft old Open h r.0 in
    let past : limit_of w < length_of (with_payload draft bytes) = subst (λ (k : ℕ). limit_of w < k) (sym (payload_ends w draft old bytes h stage.1 some)) r.1 in
    first_full _ _ _ _ stage.0 (λ (late : payload_of draft ≢ []). late stage.1) (λ (n : ⊥). n) (limit_passed (length old) _ (subst (λ (k : ℕ). min k 65535 < length_of (with_payload draft bytes)) h.same_room past))

-- the answer to a payload that is written
pub payload_ok : (w : Writer) (draft : Draft) (old bytes : List ℕ) → IsHeld w draft old → bytes ≢ [] → w.stage ≡ Open → w.len + (1 + length bytes) ≤ length w.buf.now → w.len + (1 + length bytes) ≤ 65535 → IsExact {X = Unit {0}} (Ok tt) (TakesPayload (length old) draft bytes) (IsFirstReason (RefusesPayload (length old) draft bytes))
payload_ok w draft old bytes h some is_open within fits =
    let stage = at_stage w draft old Open h is_open in
    let ends = payload_ends w draft old bytes h stage.1 some in
    let same = h.same_room in
    ok_exact tt (stage.0, stage.1, (omega arith, omega arith)) (payload_apart (length old) draft bytes)

-- the answer to a payload that is refused
pub payload_err : (w : Writer) (draft : Draft) (old bytes : List ℕ) (e : WriteError) (r : Result (Unit {0}) WriteError) → IsHeld w draft old → bytes ≢ [] → RefusesPayloadNow w (length bytes) e → IsErrAnd r (λ f. f ≡ e) → IsExact r (TakesPayload (length old) draft bytes) (IsFirstReason (RefusesPayload (length old) draft bytes))
payload_err w draft old bytes e r h some why same =
    let first = payload_refused w draft old bytes e h some why in
    err_exact r e same first (λ f other. first_one _ e f first other) (payload_apart (length old) draft bytes)
