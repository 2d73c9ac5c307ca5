-- How a response is sent that was planned.
use Rattle.std.proofs.Common.{◌≡◌, ◌∙◌, ap, sym, refl, subst, ℕ, List, Some, Ok, Err, ◌⊎◌, inl, inr}
use Rattle.std.specs.Prelude.{IsOk, Option, None, Result}
use Rattle.osc_coap.specs.Datagram.{IsDatagram, Parts}
use Rattle.osc_coap.specs.declared.message.Kind.{Kind}
use Rattle.osc_coap.specs.declared.message.Kind.TheVariants.{Con}
use Rattle.osc_message.proofs.Walking.{one_of}
use Rattle.osc_message.specs.Arriving.{Came}
use Rattle.osc_message.specs.Calls.{BeginsBy}
use Rattle.osc_life.specs.declared.server_error.ReplyError.{ReplyError}
use Rattle.osc_message.specs.Hearing.{Heard, way_of}
use Rattle.osc_message.specs.HearingCalls.{AnswersBy, IsInMind, WayBy}
use Rattle.osc_message.specs.MessageIds.{Counted, Gives}
use Rattle.osc_message.specs.Slots.{IsAt}
use Rattle.osc_message.specs.Taking.{Layer}
use Rattle.osc_message.specs.declared.arrival.Way.{Way}
use Rattle.osc_message.specs.declared.arrival.Way.TheVariants.{Separate}
use Rattle.osc_message.specs.declared.arrivals.Arrived.{Arrived}
use Rattle.osc_message.specs.declared.exchange.Awaits.TheVariants.{Acknowledgement}
use Rattle.osc_message.specs.declared.exchanges.Call.{Call}
use Rattle.osc_message.specs.declared.exchanges.Outgoing.{Outgoing}
use Rattle.osc_node.specs.Planning.{CanSend, Carries, IsPlanned, id_of}
use Rattle.osc_node.specs.Responding.{GivesUnsent, HasId, IfNotAsked, IfRefused, Responds}
use Rattle.osc_node.specs.declared.planning.Plan.{Plan}
use Rattle.osc_node.specs.declared.planning.Plan.TheVariants as plans
use Rattle.osc_node.specs.declared.responding.Responded.{Responded}
use Rattle.osc_node.specs.declared.responding.Responded.TheVariants as responded
use Rattle.osc_node.specs.declared.send_error.RespondError.{RespondError}
use Rattle.osc_node.specs.declared.send_error.RespondError.TheVariants as errors

-- at a place there is one message
same_there : (places : List (Option Heard)) (place : ℕ) (x y : Heard) → IsAt places place x → IsAt places place y → x ≡ y
same_there places place x y there other = one_of x y (one_of (Some x) (Some y) (sym there ∙ other))

none_some : {A : Type 0} → (o : Option A) (a : A) → o ≡ Some a → o ≡ None → ⊥
none_some o a is none = cc

-- an answer is sent as it was said before
pub answers_so : (old new : Came) (a : Arrived) (way : Way) (r : Option Way) → WayBy old a (Some way) → AnswersBy old new a r → AnswersBy old new a (Some way)
answers_so old new a way None (x, mind, is) (same, none) = absurd (none_some (way_of x) way is (none x mind))
answers_so old new a way (Some other) (x, mind, is) (y, there, was, stays) =
    let same = same_there old.places a.place x y mind.0 there.0 in
    let P : Way → Type 0 = λ w. AnswersBy old new a (Some w) in
    subst P (one_of other way (sym was ∙ sym (ap way_of same) ∙ is)) (y, there, was, stays)

-- where the request came from, of which the answer is to be a message of its own
pub goes_to : (t : Layer) (a : Arrived) (from : List ℕ) (x : Heard) → WayBy t.came a (Some Separate) → IsAt t.came.places a.place x → from ≡ x.from
    → (y : Heard) × IsInMind t.came a y × (from ≡ y.from)
goes_to t a from x (y, mind, is) there at = (y, mind, at ∙ ap (λ (z : Heard). z.from) (same_there t.came.places a.place x y there mind.0))

-- a CON is on its way as it was planned
pub carried_out : (old new : Layer) (now random : ℕ) (a : Arrived) (kind : Kind) (plan : Plan) (m : Outgoing) (r : Option Way) (sealed text : List ℕ) (call : Call) (len : ℕ)
    → plan ≡ plans.Con m.to m.message_id → CanSend old a kind plan → m.awaits ≡ Acknowledgement → AnswersBy old.came new.came a r
    → BeginsBy old.sent new.sent m now random call → ((p : Parts) → IsDatagram p sealed → IsDatagram (record p { kind = Con; message_id = m.message_id }) text)
    → Responds old new now random a kind (id_of plan) sealed text (responded.Con (record { call = call; len = len }))
carried_out old new now random a kind plan m r sealed text call len is can awaits answers begins sends =
    let P : Plan → Type 0 = λ p. CanSend old a kind p in
    let (way, con, x, mind, to, free) = subst P is can in
    let Q : Plan → Type 0 = λ p. Responds old new now random a kind (id_of p) sealed text (responded.Con (record { call = call; len = len })) in
    subst Q (sym is) (
      answers_so old.came new.came a Separate r way answers,
      x,
      mind,
      record { message = m; is = record { to_is = to; id_is = refl; awaits = awaits }; begins = begins; sends = sends },
      con,
    )

pub is_ok : {A B : Type 0} → (r : Result A B) → ((e : B) → r ≡ Err e → ⊥) → IsOk r
is_ok (Ok a) never = refl
is_ok (Err e) never = absurd (never e refl)

-- ---- what a response that isn't sent leaves

pub not_asked : (e : RespondError) (A : Type 0) → A → IfNotAsked e A
not_asked errors.Forgotten A x = x
not_asked (errors.Layer e) A x = x
not_asked errors.NoMessageId A x = x
not_asked (errors.Refused e) A x = tt

pub never_refused : (e : RespondError) (P : ReplyError → Type 0) → IfRefused e (λ r. ⊥) → IfRefused e P
never_refused errors.Forgotten P never = tt
never_refused (errors.Layer e) P never = tt
never_refused errors.NoMessageId P never = tt
never_refused (errors.Refused e) P never = absurd never

-- what can be sent is in mind
pub can_be_sent : (t : Layer) (a : Arrived) (kind : Kind) (plan : Plan) → CanSend t a kind plan → WayBy t.came a None → ⊥
can_be_sent t a kind (plans.InAck id) (x, mind, is) none = none_some (way_of x) _ is (none x mind)
can_be_sent t a kind (plans.Non id) ((x, mind, is), other) none = none_some (way_of x) _ is (none x mind)
can_be_sent t a kind (plans.Con to id) (way, con, y, there, at, free) none = let (x, mind, is) = way in none_some (way_of x) _ is (none x mind)

-- ---- what a response that is sent has

-- its Message ID is the planned one
pub has_id : (before after : Counted) (now request : ℕ) (plan : Plan) (r : Responded) → IsPlanned before after now request plan → Carries plan r
    → HasId before after now request (id_of plan) r
has_id before after now request (plans.InAck id) (responded.InAck len) planned carries = planned
has_id before after now request (plans.InAck id) (responded.Non len) planned carries = absurd carries
has_id before after now request (plans.InAck id) (responded.Con s) planned carries = absurd carries
has_id before after now request (plans.Non id) (responded.InAck len) planned carries = absurd carries
has_id before after now request (plans.Non id) (responded.Non len) planned carries = planned
has_id before after now request (plans.Non id) (responded.Con s) planned carries = absurd carries
has_id before after now request (plans.Con to id) (responded.InAck len) planned carries = absurd carries
has_id before after now request (plans.Con to id) (responded.Non len) planned carries = absurd carries
has_id before after now request (plans.Con to id) (responded.Con s) planned carries = planned

-- what was carried out as planned, said of what came in and goes out
pub has_its_id : (before given after : Counted) (now asked request id : ℕ) (plan : Plan) (r : Responded) → IsPlanned before given now asked plan → Carries plan r
    → after ≡ given → asked ≡ request → id ≡ id_of plan → HasId before after now request id r
has_its_id before given after now asked request id plan r planned carries same is of =
    let P : Counted → Type 0 = λ w. HasId before w now asked (id_of plan) r in
    let Q : ℕ → Type 0 = λ n. HasId before after now n (id_of plan) r in
    let S : ℕ → Type 0 = λ n. HasId before after now request n r in
    subst S (sym of) (subst Q is (subst P (sym same) (has_id before given now asked plan r planned carries)))

pub responds_so : (old mid new : Layer) (now random : ℕ) (a : Arrived) (told kind : Kind) (id : ℕ) (plan : Plan) (lent sealed text out : List ℕ) (r : Responded)
    → Responds mid new now random a told (id_of plan) lent text r → mid ≡ old → told ≡ kind → id ≡ id_of plan → lent ≡ sealed → out ≡ text
    → Responds old new now random a kind id sealed out r
responds_so old mid new now random a told kind id plan lent sealed text out r responds same type of front is =
    let P : Layer → Type 0 = λ t. Responds t new now random a told (id_of plan) lent text r in
    let Q : Kind → Type 0 = λ k. Responds old new now random a k (id_of plan) lent text r in
    let S : ℕ → Type 0 = λ n. Responds old new now random a kind n lent text r in
    let T : List ℕ → Type 0 = λ bytes. Responds old new now random a kind id bytes text r in
    let U : List ℕ → Type 0 = λ bytes. Responds old new now random a kind id sealed bytes r in
    subst U (sym is) (subst T front (subst S (sym of) (subst Q type (subst P same responds))))

-- ---- Message IDs of what isn't sent

pub gives_unasked : (before after : Counted) (now : ℕ) (e : RespondError) → after ≡ before → GivesUnsent before after now e
gives_unasked before after now errors.Forgotten same = same
gives_unasked before after now (errors.Layer e) same = same
gives_unasked before after now errors.NoMessageId same = same
gives_unasked before after now (errors.Refused e) same = inl same

pub gives_planned : (before after : Counted) (now request : ℕ) (plan : Plan) → IsPlanned before after now request plan → (after ≡ before) ⊎ ((id : ℕ) × Gives before after now id)
gives_planned before after now request (plans.InAck id) (is, same) = inl same
gives_planned before after now request (plans.Non id) gives = inr (id, gives)
gives_planned before after now request (plans.Con to id) gives = inr (id, gives)
