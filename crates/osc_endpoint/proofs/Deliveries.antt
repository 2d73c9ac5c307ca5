-- What a server delivers, exactly.
use Rattle.std.proofs.Common.{◌≡◌, ℕ, ◌∙◌, sym, ap, subst, refl, arith, false, Option, Some, None, List, [], inl, inr}
use Rattle.std.specs.Prelude.{max, unwrap_or}
use Rattle.osc_coap.specs.Inner.{InnerParts}
use Rattle.osc_protect.specs.Laws.{OneRequest, OneRequestReading}
use Rattle.osc_protect.specs.Protection.{ProtectsRequest, requests}
use Rattle.osc_protect.specs.Refusals.{RefusesPlaintext, RefusesTag}
use Rattle.osc_protect.specs.declared.unprotect_error.UnprotectError.TheVariants.{Format, NotThatKind, NoOscore, Undecodable as BadHead, WrongContext, Tag, Inner}
use Rattle.osc_life.specs.declared.doubt.Doubt.{Doubt}
use Rattle.osc_life.specs.declared.outcome.Outcome.{Outcome}
use Rattle.osc_life.specs.declared.outcome.Outcome.TheVariants as outcomes
use Rattle.osc_endpoint.specs.Agrees.{OneEach}
use Rattle.osc_life.specs.Doubting.{IsBelow, IsNotBelow, OpensBy, StaysBy}
use Rattle.osc_life.specs.Life.{Life, Admits, Carries, IsNewIn, Passes, is_open, in_force}
use Rattle.osc_endpoint.specs.ServerAnswer.{IsRequestOf, MeetsRow, Delivers, arrival}
use Rattle.osc_life.specs.LifeAnswer.{IsReplay, WantsEcho}
use Rattle.osc_life.specs.ServerHistory as server
use Rattle.osc_protect.specs.Views.{message_of}
use Rattle.osc_observe.specs.Received.{Received}
use Rattle.osc_life.specs.Views.{Shows, delivery_of}
use Rattle.osc_life.proofs.Judgments.{same_parts}

-- context, number and message of a delivery
abbrev pub delivered : server.Answer → Option (ℕ × ℕ × InnerParts)
delivered (server.Deliver received ticket) = Some (ticket.context, ticket.number, received.message)
delivered answer = None

-- the outcome says what the answer does
pub shown_delivery : (outcome : Outcome) (answer : server.Answer) → Shows outcome answer → delivery_of outcome ≡ delivered answer
shown_delivery (outcomes.Malformed e) (server.Malformed fault place) s = refl
shown_delivery outcomes.NotRequest server.NotRequest s = refl
shown_delivery outcomes.Plain server.Plain s = refl
shown_delivery outcomes.Undecodable server.Undecodable s = refl
shown_delivery outcomes.NoContext server.NoContext s = refl
shown_delivery outcomes.Replay server.Replay s = refl
shown_delivery outcomes.BadTag server.BadTag s = refl
shown_delivery outcomes.BadInner (server.BadInner i n) s = refl
shown_delivery (outcomes.Challenge echo issued) (server.Challenge i n given moment) s = refl
shown_delivery outcomes.SequenceExhausted server.SequenceExhausted s = refl
shown_delivery (outcomes.Deliver o t) (server.Deliver received ticket) s =
    ap (λ (x : server.TicketValues). Some (x.context, x.number, message_of o)) s.1 ∙ ap (λ (r : Received). Some (ticket.context, ticket.number, r.message)) s.0
shown_delivery outcome answer s = absurd s

-- what one delivery says
abbrev pub Told : Type 0
Told = ℕ × ℕ × InnerParts

same_told : (x y : Told) → Some x ≡ Some y → (x.0 ≡ y.0) × (x.1 ≡ y.1) × (x.2 ≡ y.2)
same_told x y e = (ap (λ (o : Option Told). (unwrap_or o x).0) e, ap (λ (o : Option Told). (unwrap_or o x).1) e, ap (λ (o : Option Told). (unwrap_or o x).2) e)

-- a delivery is one of the definition
pub row_delivers : (h : server.History) (now mid : ℕ) (echo d : List ℕ) (answer : server.Answer) (i n : ℕ) (m : InnerParts)
    → MeetsRow h (arrival h now echo mid d) answer
    → delivered answer ≡ Some (i, n, m) → Delivers h now d i n m
row_delivers h now mid echo d (server.Deliver received ticket) i n m (index, number, of, request, (receives, admits, values)) e =
    let told : server.TicketValues → Option Told = λ x. Some (x.context, x.number, received.message) in
    let same = same_told (index, number, received.message) (i, n, m) (ap told (sym values) ∙ e) in
    let index_is : index ≡ i = same.0 in
    let number_is : number ≡ n = same.1 in
    let message_is : received.message ≡ m = same.2 in
    record {
      of = of;
      life_is = ap (server.life h) (sym index_is) ∙ request.life_is;
      protects = subst (λ x. ProtectsRequest of.context x m d) number_is (subst (λ x. ProtectsRequest of.context number x d) message_is receives.protects);
      admits = subst (λ x. Admits of (max (server.clock h) now) x m) number_is (subst (λ x. Admits of (max (server.clock h) now) number x) message_is admits);
    }
row_delivers h now mid echo d (server.Malformed fault place) i n m row e = cc
row_delivers h now mid echo d server.NotRequest i n m row e = cc
row_delivers h now mid echo d server.Plain i n m row e = cc
row_delivers h now mid echo d server.Undecodable i n m row e = cc
row_delivers h now mid echo d server.NoContext i n m row e = cc
row_delivers h now mid echo d server.Replay i n m row e = cc
row_delivers h now mid echo d server.BadTag i n m row e = cc
row_delivers h now mid echo d (server.BadInner k l) i n m row e = cc
row_delivers h now mid echo d (server.Challenge k l given issued) i n m row e = cc
row_delivers h now mid echo d server.SequenceExhausted i n m row e = cc

-- the context and number of a datagram that protects a message are those that its head names
pub record IsSame (i j n k : ℕ) (of other : Life) : Type 0 where
  pub index : i ≡ j
  pub number : n ≡ k
  pub life : of ≡ other

pub same_named : (h : server.History) (i j n k : ℕ) (of other : Life) → OneEach h → server.life h i ≡ Some of → server.life h j ≡ Some other
    → (requests of.context).parts n ≡ (requests other.context).parts k → IsSame i j n k of other
same_named h i j n k of other each here there parts =
    let index : i ≡ j = each i j of other here there (ap (λ v. unwrap_or v.kid []) parts, ap (λ v. v.kid_context) parts) in
    record {
      index = index;
      number = ap (λ v. unwrap_or v.piv 0) parts;
      life = let e : Some of ≡ Some other = sym here ∙ ap (server.life h) index ∙ there in cc;
    }

same_place : (h : server.History) (d : List ℕ) (i j n k : ℕ) (of other : Life) (m : InnerParts) → OneRequestReading → OneEach h
    → IsRequestOf h d i n of → server.life h j ≡ Some other → ProtectsRequest other.context k m d → IsSame i j n k of other
same_place h d i j n k of other m one each request life_is protects =
    same_named h i j n k of other each request.life_is life_is (same_parts of.context other.context n k m d one (request.head, request.has_head, request.names) protects)

-- what leaves a life closed doesn't open it
stays_shut : (doubt : Option Doubt) (n : ℕ) (carried : Type 0) → StaysBy doubt n carried → OpensBy doubt n carried → ⊥
stays_shut None n carried stays opens = stays opens
stays_shut (Some doubt) n carried (below, never) (inl beyond) = omega (arith, below, beyond)
stays_shut (Some doubt) n carried (below, never) (inr carries) = never carries

not_below : (doubt : Option Doubt) (n : ℕ) → IsBelow doubt n → IsNotBelow doubt n → ⊥
not_below None n below from = below
not_below (Some doubt) n below from = omega (arith, below, from)

-- a request that is admitted is no replay
pub no_replay : (of other : Life) (n k : ℕ) → of ≡ other → n ≡ k → IsReplay of n → Passes other k → ⊥
no_replay of other n k same number (inl (opened, old)) passes =
    old (subst (λ x. IsNewIn x n) (sym same) (subst (IsNewIn other) (sym number) (passes.0 (ap is_open (sym same) ∙ opened))))
no_replay of other n k same number (inr (closed, below)) passes =
    not_below of.doubt n below (subst (λ (x : Life). IsNotBelow x.doubt n) (sym same) (subst (IsNotBelow other.doubt) (sym number) (passes.1 (ap is_open (sym same) ∙ closed))))

-- a request that is admitted wants no Echo value
pub no_want : (of other : Life) (n k clock : ℕ) (d : List ℕ) (m : InnerParts) → OneRequest → of ≡ other
    → WantsEcho of n clock d → ProtectsRequest other.context k m d → Admits other clock k m → ⊥
no_want of other n k clock d m laws same (closed, from, l, protects, stays) by admits =
    let there = subst (λ (x : Life). ProtectsRequest x.context n l d) same protects in
    let message : l ≡ m = (laws other.context).message d n k l m there by in
    let number : n ≡ k = (laws other.context).number d n k l m there by in
    let shut : is_open other ≡ false = ap is_open (sym same) ∙ closed in
    let opens = subst (λ x. OpensBy other.doubt n (Carries (in_force other clock) x)) (sym message) (subst (λ x. OpensBy other.doubt x (Carries (in_force other clock) m)) (sym number) (admits.1 shut)) in
    stays_shut of.doubt n (Carries (in_force of clock) l) stays (subst (λ (x : Life). OpensBy x.doubt n (Carries (in_force x clock) l)) (sym same) opens)

-- what is to be delivered is
pub delivers_row : (h : server.History) (now mid : ℕ) (echo d : List ℕ) (answer : server.Answer) (i n : ℕ) (m : InnerParts)
    → OneRequestReading → OneRequest → OneEach h
    → MeetsRow h (arrival h now echo mid d) answer
    → Delivers h now d i n m → delivered answer ≡ Some (i, n, m)
delivers_row h now mid echo d (server.Malformed fault place) i n m one laws each row is =
    absurd ((laws is.of.context).never_both d n m (Format (record { fault = fault; place = place })) is.protects row)
delivers_row h now mid echo d server.NotRequest i n m one laws each row is = absurd ((laws is.of.context).never_both d n m NotThatKind is.protects row)
delivers_row h now mid echo d server.Plain i n m one laws each row is = absurd ((laws is.of.context).never_both d n m NoOscore is.protects row)
delivers_row h now mid echo d server.Undecodable i n m one laws each row is = absurd ((laws is.of.context).never_both d n m BadHead is.protects row)
delivers_row h now mid echo d server.NoContext i n m one laws each none is =
    absurd ((laws is.of.context).never_both d n m WrongContext is.protects (none.0, none.1, λ k names. none.2 i is.of is.life_is k names))
delivers_row h now mid echo d server.Replay i n m one laws each (j, k, of, request, replay) is =
    let s = same_place h d j i k n of is.of m one each request is.life_is is.protects in
    absurd (no_replay of is.of k n s.life s.number replay is.admits.0)
delivers_row h now mid echo d server.BadTag i n m one laws each (j, k, of, request, (passes, refuses)) is =
    let s = same_place h d j i k n of is.of m one each request is.life_is is.protects in
    absurd ((laws is.of.context).never_both d n m Tag is.protects (subst (λ (x : Life). RefusesTag (requests x.context) d) s.life refuses))
delivers_row h now mid echo d (server.BadInner a b) i n m one laws each (j, k, of, request, (passes, refuses, index, number)) is =
    let s = same_place h d j i k n of is.of m one each request is.life_is is.protects in
    absurd ((laws is.of.context).never_both d n m Inner is.protects (subst (λ (x : Life). RefusesPlaintext (requests x.context) d) s.life refuses))
delivers_row h now mid echo d (server.Challenge a b given issued) i n m one laws each (j, k, of, request, row) is =
    let s = same_place h d j i k n of is.of m one each request is.life_is is.protects in
    absurd (no_want of is.of k n _ d m laws s.life row.0 is.protects is.admits)
delivers_row h now mid echo d server.SequenceExhausted i n m one laws each (j, k, of, request, row) is =
    let s = same_place h d j i k n of is.of m one each request is.life_is is.protects in
    absurd (no_want of is.of k n _ d m laws s.life row.0 is.protects is.admits)
delivers_row h now mid echo d (server.Deliver received ticket) i n m one laws each (j, k, of, request, (receives, admits, values)) is =
    let s = same_place h d j i k n of is.of m one each request is.life_is is.protects in
    let there = subst (λ (x : Life). ProtectsRequest x.context k received.message d) s.life receives.protects in
    let message : received.message ≡ m = (laws is.of.context).message d k n received.message m there is.protects in
    ap (λ (x : server.TicketValues). Some (x.context, x.number, received.message)) values
    ∙ ap (λ x. Some (x, k, received.message)) s.index ∙ ap (λ x. Some (i, x, received.message)) s.number ∙ ap (λ x. Some (i, n, x)) message
