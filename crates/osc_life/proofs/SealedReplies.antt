-- A reply or a notification that was sealed.
use Rattle.std.specs.Prelude.{if◌then◌else◌}
use Rattle.std.proofs.Common.{◌≡◌, ℕ, ◌<◌, ◌^◌, ◌/◌, ◌==◌, ◌&&◌, ◌∙◌, refl, sym, subst, Bool, true, false, Option, Some, List, length, take}
use Rattle.osc_coap.specs.Datagram.{Parts}
use Rattle.osc_context.specs.Views.{as_server}
use Rattle.osc_context.specs.SecurityContext.{SecurityContext}
use Rattle.osc_context.specs.Features.{unobserved}
use Rattle.osc_context.specs.declared.features.Features.{Features}
use Rattle.osc_protect.specs.Protection.{notifications, responses, responses_to}
use Rattle.osc_protect.specs.Sealed.{IsSealed, SealsNotification, SealsResponse, features_for}
use Rattle.osc_protect.specs.SealRefusals.{FitsToSeal, RefusesPlainResponse, RefusesToSeal}
use Rattle.osc_protect.specs.declared.protect_error.ProtectError.{ProtectError}
use Rattle.osc_protect.specs.declared.protect_error.ProtectError.TheVariants.{NotThatKind, Unsupported, TooLong, NoRoom}
use Rattle.osc_protect.specs.Views.{context_of, registers, request_number, sealed_responses}
use Rattle.osc_protect.specs.declared.request_ref.RequestRef.{RequestRef}
use Rattle.osc_observe.proofs.Fronts.{front_fits}
use Rattle.osc_life.specs.declared.slot.Slot.{Slot}
use Rattle.osc_life.specs.Agrees.{SlotAgrees}
use Rattle.osc_life.specs.Life.{Life, HasOwn, next_own}
use Rattle.osc_observe.specs.Observing.{is_notification}
use Rattle.osc_life.specs.Replying.{lifted}
use Rattle.osc_life.specs.LifeAnswer.{HasAsked, LifeNotify, LifeReply, own_number}
use Rattle.osc_life.specs.ServerHistory.{NotReplied, Replied}

-- what is sealed as a response to a request is sealed by its number, and by whether it registers an observation
pub sealed_as : (s : SecurityContext) (r : RequestRef) (b : Bool) (n : ℕ) (own : Option ℕ) (p : Parts) (d : List ℕ) → registers r ≡ b → request_number r ≡ n
    → IsSealed (responses_to s (registers r) (request_number r)) own p d → IsSealed (responses_to s b n) own p d
sealed_as s r b n own p d registering number sealed =
    subst (λ k. IsSealed (responses_to s b k) own p d) number (subst (λ b. IsSealed (responses_to s b (request_number r)) own p d) registering sealed)

-- what fits as a plain response fits as a response to a request that registers nothing
pub named_fits : (s : SecurityContext) (r : RequestRef) (n : ℕ) (own : Option ℕ) (p : Parts) (room : ℕ) → registers r ≡ false → request_number r ≡ n
    → FitsToSeal (responses s n) own p room → FitsToSeal (responses_to s (registers r) (request_number r)) own p room
named_fits s r n own p room plain number fits =
    subst (λ b. FitsToSeal (responses_to s b (request_number r)) own p room) (sym plain) (subst (λ k. FitsToSeal (responses s k) own p room) (sym number) fits)

pub sealed_reply : (l : Life) (slot : Slot) (r : RequestRef) (n len : ℕ) (number : Option ℕ) (own : Bool) (p q : Parts) (new old : List ℕ)
    → SlotAgrees slot l → (number ≡ own_number own l) × HasAsked own l → registers r ≡ false → request_number r ≡ n → p ≡ q → length new ≡ length old
    → IsSealed (sealed_responses (context_of slot.context) r) number p (take len new)
    → LifeReply l n own q (length old) (Replied (take len new))
sealed_reply l slot r n len number own p q new old a (number_is, asked) plain same parts room sealed =
    let by_number = sealed_as (as_server (context_of slot.context)) r false n number p (take len new) plain same sealed in
    let by_life = subst (λ s. SealsResponse s n number p (take len new)) a.context by_number in
    let by_own = subst (λ k. SealsResponse l.context n k p (take len new)) number_is by_life in
    (asked, subst (λ x. SealsResponse l.context n (own_number own l) x (take len new)) parts by_own, front_fits len new old room)

pub sealed_notification : (l : Life) (slot : Slot) (r : RequestRef) (n len own : ℕ) (p q : Parts) (new old : List ℕ)
    → SlotAgrees slot l → own ≡ slot.next → own < 2 ^ 40 → registers r ≡ true → request_number r ≡ n → p ≡ q → is_notification p.code p.options ≡ true → length new ≡ length old
    → IsSealed (sealed_responses (context_of slot.context) r) (Some own) p (take len new)
    → LifeNotify l n q (length old) (Replied (take len new))
sealed_notification l slot r n len own p q new old a is less registering same parts notifies room sealed =
    let by_number = sealed_as (as_server (context_of slot.context)) r true n (Some own) p (take len new) registering same sealed in
    let by_life = subst (λ s. SealsNotification s n (Some own) p (take len new)) a.context by_number in
    let own_is : own ≡ next_own l = is ∙ a.next in
    let by_own = subst (λ k. SealsNotification l.context n (Some k) p (take len new)) own_is by_life in (
      subst (λ (x : Parts). is_notification x.code x.options ≡ true) parts notifies,
      subst (λ k. k < 2 ^ 40) own_is less,
      subst (λ x. SealsNotification l.context n (Some (next_own l)) x (take len new)) parts by_own,
      front_fits len new old room,
    )

-- ---- what counts for a message that is sealed

same_either : (b : Bool) (x : Features) → (if b then x else x) ≡ x
same_either true x = refl
same_either false x = refl

-- what counts for a reply to what registers nothing is what its context takes part in, but for Observe
pub replied_features : (s : SecurityContext) (n : ℕ) (p : Parts) → features_for (responses s n) p ≡ unobserved s.features
replied_features s n p = same_either (p.code / 32 == 2) (unobserved s.features)

-- ---- a refusal to seal a notification is the table's

both : (a b : Bool) → (a && b) ≡ true → a ≡ true
both true b h = refl
both false b h = h

-- a notification is of class 2, so what counts for it is what its context takes part in
pub notified_features : (s : SecurityContext) (n : ℕ) (p : Parts) → is_notification p.code p.options ≡ true → features_for (notifications s n) p ≡ s.features
notified_features s n p h = let two : (p.code / 32 == 2) ≡ true = both _ _ h in rw two refl

refused_notification : (l : Life) (n : ℕ) (p : Parts) (room : ℕ) (e : ProtectError) → is_notification p.code p.options ≡ true → HasOwn l
    → RefusesToSeal (notifications l.context n) (Some (next_own l)) p room e → LifeNotify l n p room (NotReplied (lifted e))
refused_notification l n p room NotThatKind h own r = r
refused_notification l n p room (Unsupported k) h own r =
    subst (λ (x : Features). RefusesPlainResponse x p (Unsupported k)) (notified_features l.context n p h) r
refused_notification l n p room TooLong h own r = (h, own, r)
refused_notification l n p room NoRoom h own r = (h, own, r)

pub refused_to_notify : (l : Life) (slot : Slot) (r : RequestRef) (n own room : ℕ) (p q : Parts) (e : ProtectError)
    → SlotAgrees slot l → own ≡ slot.next → own < 2 ^ 40 → registers r ≡ true → request_number r ≡ n → p ≡ q → is_notification p.code p.options ≡ true
    → RefusesToSeal (sealed_responses (context_of slot.context) r) (Some own) p room e → LifeNotify l n q room (NotReplied (lifted e))
refused_to_notify l slot r n own room p q e a is less registering same parts notifies refused =
    let own_is : own ≡ next_own l = is ∙ a.next in
    let by_kind = subst (λ b. RefusesToSeal (responses_to (as_server (context_of slot.context)) b (request_number r)) (Some own) p room e) registering refused in
    let by_number = subst (λ k. RefusesToSeal (notifications (as_server (context_of slot.context)) k) (Some own) p room e) same by_kind in
    let by_life = subst (λ s. RefusesToSeal (notifications s n) (Some own) p room e) a.context by_number in
    let by_own = subst (λ k. RefusesToSeal (notifications l.context n) (Some k) p room e) own_is by_life in
    subst (λ (x : Parts). LifeNotify l n x room (NotReplied (lifted e))) parts
    (refused_notification l n p room e notifies (subst (λ k. k < 2 ^ 40) own_is less) by_own)
