-- What a client delivers and notifies, exactly.
use Rattle.std.proofs.Common.{◌≡◌, ℕ, ◌<◌, ◌≤◌, ◌∙◌, inl, inr, sym, ap, subst, refl, arith, Bool, true, false, Option, Some, None, List}
use Rattle.std.specs.Prelude.{max, unwrap_or}
use Rattle.std.proofs.lemmas.Bool.{both_ways}
use Rattle.std.proofs.lemmas.Option.{none-some}
use Rattle.osc_coap.specs.Datagram.{Parts}
use Rattle.osc_coap.specs.Inner.{InnerParts}
use Rattle.osc_coap.specs.Laws.{DatagramIsOneMessage}
use Rattle.osc_context.specs.SecurityContext.{SecurityContext}
use Rattle.osc_protect.specs.Laws.{OneResponseHead}
use Rattle.osc_protect.specs.Protection.{Protects}
use Rattle.osc_protect.specs.Refusals.{RefusesPlaintext, RefusesTag, RefusesToOpen}
use Rattle.osc_protect.specs.Views.{message_of, opened_number}
use Rattle.osc_protect.specs.declared.unprotect_error.UnprotectError.{UnprotectError}
use Rattle.osc_protect.specs.declared.unprotect_error.UnprotectError.TheVariants.{Format, NotThatKind, NoOscore, Undecodable as BadHead, Tag, Inner}
use Rattle.osc_client.specs.declared.client_outcome.ClientOutcome.{ClientOutcome}
use Rattle.osc_client.specs.declared.client_outcome.ClientOutcome.TheVariants as outcomes
use Rattle.osc_client.specs.Agrees.{TokensDiffer}
use Rattle.osc_client.specs.Awaited.{AwaitedShowHeads, OneAwaited}
use Rattle.osc_client.specs.ClientAnswer.{Hears, IsAnswerTo, IsInPlace, IsPassed, ResponseAnswer, awaited, continues, told}
use Rattle.osc_client.specs.ClientHistory as client
use Rattle.osc_client.specs.ClientHistory.{first_place, observes}
use Rattle.osc_observe.specs.Observing.{place_of}
use Rattle.osc_observe.specs.Received.{Received, Receives}
use Rattle.osc_client.specs.Views.{ClientShows, client_hearing_of}
use Rattle.osc_client.proofs.Asking.{differ_later, one_of_token}
use Rattle.osc_client.proofs.ClientDecisions.{same_own}

-- the outcome says what the answer does
pub shown_hearing : (outcome : ClientOutcome) (answer : client.Answer) → ClientShows outcome answer → client_hearing_of outcome ≡ told answer
shown_hearing (outcomes.Malformed e) (client.Malformed fault place) s = refl
shown_hearing outcomes.NotResponse client.NotResponse s = refl
shown_hearing outcomes.UnknownToken client.UnknownToken s = refl
shown_hearing outcomes.Unprotected client.Unprotected s = refl
shown_hearing outcomes.Undecodable client.Undecodable s = refl
shown_hearing outcomes.BadTag client.BadTag s = refl
shown_hearing outcomes.BadInner client.BadInner s = refl
shown_hearing outcomes.Old client.Old s = refl
shown_hearing (outcomes.Notified o piv) (client.Notified received number) s =
    ap (λ n. Some (true, n, opened_number o, message_of o)) s.1 ∙ ap (λ (r : Received). Some (true, number, r.number, r.message)) s.0
shown_hearing (outcomes.Deliver o piv) (client.Deliver received number) s =
    ap (λ n. Some (false, n, opened_number o, message_of o)) s.1 ∙ ap (λ (r : Received). Some (false, number, r.number, r.message)) s.0
shown_hearing outcome answer s = absurd s

-- the pending request whose token the datagram has is one
pub same_request : (h : client.History) (now : ℕ) (d : List ℕ) (r q : client.Asked) → DatagramIsOneMessage → TokensDiffer (client.pending h)
    → IsAnswerTo h (max (client.clock h) now) d r → IsAnswerTo h (max (client.clock h) now) d q → r ≡ q
same_request h now d r q one differ ((p, datagram, response, token), has) ((k, there, used, name), found) =
    one_of_token (client.pending_at h (max (client.clock h) now)) r q (differ_later h now differ) has found
    (sym token ∙ ap (λ (x : Parts). x.token) (one p k d datagram there) ∙ name)

-- what one answer tells
abbrev Told : Type 0
Told = Bool × ℕ × Option ℕ × InnerParts

abbrev tells : Bool → ℕ → Option ℕ → InnerParts → Option Told
tells c n own m = Some (c, n, own, m)

same_told : (x y : Told) → Some x ≡ Some y → (x.0 ≡ y.0) × (x.1 ≡ y.1) × (x.2 ≡ y.2) × (x.3 ≡ y.3)
same_told x y e = (
  ap (λ (o : Option Told). (unwrap_or o x).0) e,
  ap (λ (o : Option Told). (unwrap_or o x).1) e,
  ap (λ (o : Option Told). (unwrap_or o x).2) e,
  ap (λ (o : Option Told). (unwrap_or o x).3) e,
)

-- a response that is received and awaited
record IsHeard (h : client.History) (now : ℕ) (d : List ℕ) (continuing : Bool) (k : ℕ) (received : Received) : Type 0 where
  pub to : client.Asked
  pub answers : IsAnswerTo h (max (client.clock h) now) d to
  pub number_is : k ≡ to.number
  pub mine : Option ℕ
  pub later : IsInPlace to mine received.message
  pub receives : Receives (awaited (client.context h) to) mine d received
  pub wait_is : continues to.wait received.message ≡ continuing

hears : (h : client.History) (now k n : ℕ) (d : List ℕ) (c continuing : Bool) (received : Received) (own : Option ℕ) (m : InnerParts)
    → IsHeard h now d c k received → tells c k received.number received.message ≡ tells continuing n own m → Hears h now d continuing n own m
hears h now k n d c continuing received own m x e =
    let same = same_told (c, k, received.number, received.message) (continuing, n, own, m) e in
    let own_is : x.mine ≡ own = sym x.receives.number ∙ same.2 in
    let r = x.to in
    record {
      to = r;
      number_is = sym x.number_is ∙ same.1;
      answers = x.answers;
      awaited_is = subst (λ z. IsInPlace r z m) own_is (subst (IsInPlace r x.mine) same.3 x.later);
      protects = subst (λ z. Protects (awaited (client.context h) r) z m d) own_is (subst (λ z. Protects (awaited (client.context h) r) x.mine z d) same.3 x.receives.protects);
      wait_is = ap (continues r.wait) (sym same.3) ∙ x.wait_is ∙ same.0;
    }

-- a notification or a delivery is one of the definition
pub row_hears : (h : client.History) (now n : ℕ) (d : List ℕ) (answer : client.Answer) (continuing : Bool) (own : Option ℕ) (m : InnerParts)
    → ResponseAnswer h (max (client.clock h) now) d answer → told answer ≡ Some (continuing, n, own, m) → Hears h now d continuing n own m
row_hears h now n d (client.Notified received k) continuing own m (r, at, (k_is, mine, later, receives, wait)) e =
    hears h now k n d true continuing received own m (record { to = r; answers = at; number_is = k_is; mine = mine; later = inl later; receives = receives; wait_is = wait }) e
row_hears h now n d (client.Deliver received k) continuing own m (r, at, (k_is, mine, later, receives, wait)) e =
    hears h now k n d false continuing received own m (record { to = r; answers = at; number_is = k_is; mine = mine; later = later; receives = receives; wait_is = wait }) e
row_hears h now n d (client.Malformed fault place) continuing own m row e = cc
row_hears h now n d client.NotResponse continuing own m row e = cc
row_hears h now n d client.UnknownToken continuing own m row e = cc
row_hears h now n d client.Unprotected continuing own m row e = cc
row_hears h now n d client.Undecodable continuing own m row e = cc
row_hears h now n d client.BadTag continuing own m row e = cc
row_hears h now n d client.BadInner continuing own m row e = cc
row_hears h now n d client.Old continuing own m row e = cc

-- what the request waits for isn't one that it has passed
pub in_place_once : (r : client.Asked) (own : Option ℕ) (m : InnerParts) → IsPassed r.wait own → IsInPlace r own m → ⊥
in_place_once r None m passed place = passed
in_place_once r (Some own) m passed (inl later) = omega (arith, passed, later)
in_place_once r (Some own) m passed (inr last) = none-some own (sym last.0)

pub first_in_place : (r : client.Asked) (own : Option ℕ) (m : InnerParts) → own ≡ None → continues r.wait m ≡ true → 0 < first_place r.wait → IsInPlace r own m → ⊥
first_in_place r own m none more behind (inl later) =
    let first : first_place r.wait ≤ place_of None = subst (λ o. first_place r.wait ≤ place_of o) none later in
    omega (arith, first, behind)
first_in_place r own m none more behind (inr last) = both_ways (continues r.wait m) last.1 more

-- what is to be told is
module _ (one : DatagramIsOneMessage) (head : OneResponseHead) (laws : OneAwaited) (shows : AwaitedShowHeads) (h : client.History) (now n : ℕ) (d : List ℕ)
    (continuing : Bool) (own : Option ℕ) (m : InnerParts) (differ : TokensDiffer (client.pending h)) (is : Hears h now d continuing n own m) where
  abbrev s : SecurityContext
  s = client.context h

  same : (r : client.Asked) → IsAnswerTo h (max (client.clock h) now) d r → r ≡ is.to
  same r at = same_request h now d r is.to one differ at is.answers

  never : (e : UnprotectError) → RefusesToOpen (awaited s is.to) d e → ⊥
  never e refuses = (laws s (observes is.to.wait) is.to.number).never_both d own m e is.protects refuses

  hears_heard : (c : Bool) (k : ℕ) (received : Received) → IsHeard h now d c k received → tells c k received.number received.message ≡ tells continuing n own m
  hears_heard c k received x =
      let r_is = same x.to x.answers in
      let law = laws s (observes is.to.wait) is.to.number in
      let by : Protects (awaited s is.to) x.mine received.message d = subst (λ (r : client.Asked). Protects (awaited s r) x.mine received.message d) r_is x.receives.protects in
      let number : k ≡ n = x.number_is ∙ ap (λ (r : client.Asked). r.number) r_is ∙ is.number_is in
      let own_is : received.number ≡ own = x.receives.number ∙ law.number d x.mine own received.message m by is.protects in
      let message : received.message ≡ m = law.message d x.mine own received.message m by is.protects in
      let wait : c ≡ continuing = sym x.wait_is ∙ ap (λ (r : client.Asked). continues r.wait received.message) r_is ∙ ap (continues is.to.wait) message ∙ is.wait_is in
      ap (λ b. tells b k received.number received.message) wait ∙ ap (λ x. tells continuing x received.number received.message) number
      ∙ ap (λ x. tells continuing n x received.message) own_is ∙ ap (tells continuing n own) message

  pub hears_row : (answer : client.Answer) → ResponseAnswer h (max (client.clock h) now) d answer → told answer ≡ Some (continuing, n, own, m)
  hears_row (client.Malformed fault place) row = absurd (never (Format (record { fault = fault; place = place })) row)
  hears_row client.NotResponse row = absurd (never NotThatKind row)
  hears_row client.UnknownToken (token, (p, datagram, response, token_is), none) =
      let ((q, there, used, name), found) = is.answers in
      absurd (none (is.to, found, sym name ∙ ap (λ (x : Parts). x.token) (one q p d there datagram) ∙ token_is))
  hears_row client.Unprotected (r, at, row) = absurd (never NoOscore row)
  hears_row client.Undecodable (r, at, row) = absurd (never BadHead row)
  hears_row client.Old (r, at, inl (mine, says, older)) =
      let own_is : mine ≡ own = same_own s r is.to d mine own head says ((shows s (observes is.to.wait) is.to.number).protects d own m is.protects) in
      absurd (in_place_once is.to own m (subst (λ (x : client.Asked). IsPassed x.wait own) (same r at) (subst (IsPassed r.wait) own_is older)) is.awaited_is)
  hears_row client.Old (r, at, inr (first, protects, more, behind)) =
      let law = laws s (observes is.to.wait) is.to.number in
      let by : Protects (awaited s is.to) None first d = subst (λ (x : client.Asked). Protects (awaited s x) None first d) (same r at) protects in
      let own_is : None ≡ own = law.number d None own first m by is.protects in
      let message : first ≡ m = law.message d None own first m by is.protects in
      absurd (first_in_place is.to own m (sym own_is) (subst (λ x. continues is.to.wait x ≡ true) message (subst (λ (x : client.Asked). continues x.wait first ≡ true) (same r at) more))
      (subst (λ (x : client.Asked). 0 < first_place x.wait) (same r at) behind) is.awaited_is)
  hears_row client.BadTag (r, at, (says, row)) = absurd (never Tag (subst (λ (x : client.Asked). RefusesTag (awaited s x) d) (same r at) row))
  hears_row client.BadInner (r, at, (says, row)) = absurd (never Inner (subst (λ (x : client.Asked). RefusesPlaintext (awaited s x) d) (same r at) row))
  hears_row (client.Notified received k) (r, at, (k_is, mine, later, receives, wait)) =
      hears_heard true k received (record { to = r; answers = at; number_is = k_is; mine = mine; later = inl later; receives = receives; wait_is = wait })
  hears_row (client.Deliver received k) (r, at, (k_is, mine, later, receives, wait)) =
      hears_heard false k received (record { to = r; answers = at; number_is = k_is; mine = mine; later = later; receives = receives; wait_is = wait })
