-- A notification that a node sends.
use Rattle.std.proofs.Common.{◌≡◌, ◌∙◌, ap, refl, subst, sym, ℕ, List}
use Rattle.osc_coap.specs.Datagram.{Parts}
use Rattle.osc_coap.specs.declared.message.Kind.{Kind}
use Rattle.osc_message.specs.Calls.{BeginsBy, IsFirstReason}
use Rattle.osc_message.specs.Taking.{Layer}
use Rattle.osc_message.specs.declared.exchange.Awaits.TheVariants.{Acknowledgement}
use Rattle.osc_message.specs.declared.exchanges.BeginError.{BeginError}
use Rattle.osc_message.specs.declared.exchanges.Call.{Call}
use Rattle.osc_message.specs.declared.exchanges.Outgoing.{Outgoing}
use Rattle.osc_message.specs.declared.separate.Separate.{Separate}
use Rattle.osc_message.specs.declared.separate.Separate.TheVariants as separate
use Rattle.osc_node.specs.Notifying.{CanNotify, Notifies}
use Rattle.osc_node.specs.Planning.{Carries, type_of}
use Rattle.osc_node.specs.Responding.{sent_as}
use Rattle.osc_node.specs.declared.notifying.Notified.TheVariants as notified
use Rattle.osc_node.specs.declared.planning.Plan.{Plan}
use Rattle.osc_node.specs.declared.planning.Plan.TheVariants as plans
use Rattle.osc_node.specs.declared.responding.Responded.{Responded}
use Rattle.osc_node.specs.declared.responding.Responded.TheVariants as responded

-- under another head with its own token a notification is as it is sealed
pub under_type : (p : Parts) (kind told : Kind) (id : ℕ) (token : List ℕ) → kind ≡ told → token ≡ p.token
    → record p { kind = kind; message_id = id; token = token } ≡ record p { kind = told; message_id = id }
under_type p kind told id token is same =
    ap (λ (t : List ℕ). record p { kind = kind; message_id = id; token = t }) same ∙ ap (λ (k : Kind). record p { kind = k; message_id = id }) is

-- what isn't a CON is sent as a NON, once
pub sent_once : (old new : Layer) (now random : ℕ) (to : List ℕ) (id : ℕ) (s : Separate) (len : ℕ) → (s ≡ separate.Con → ⊥) → new ≡ old
    → Notifies old new now random to id s (notified.Non len)
sent_once old new now random to id separate.Con len never same = absurd (never refl)
sent_once old new now random to id separate.Non len never same = same

-- a CON is on its way
pub sent_first : (old mid new : Layer) (now random : ℕ) (s : Separate) (m : Outgoing) (call : Call) (len : ℕ) → s ≡ separate.Con → mid ≡ old → new.came ≡ mid.came
    → m.awaits ≡ Acknowledgement → BeginsBy mid.sent new.sent m now random call
    → Notifies old new now random m.to.items m.message_id s (notified.Con (record { call = call; len = len }))
sent_first old mid new now random s m call len is same came awaits begins =
    let P : Layer → Type 0 = λ t. BeginsBy t.sent new.sent m now random call in
    let Q : Separate → Type 0 = λ k. Notifies old new now random m.to.items m.message_id k (notified.Con (record { call = call; len = len })) in
    subst Q (sym is) (
      came ∙ ap (λ (t : Layer). t.came) same,
      m,
      record { to_is = refl; id_is = refl; awaits = awaits },
      subst P same begins,
    )

-- the message layer refuses no CON that can be sent
pub never_refused : (t : Layer) (to items : List ℕ) (s : Separate) (e : BeginError) → CanNotify t to s → s ≡ separate.Con → to ≡ items → IsFirstReason t.sent items e → ⊥
never_refused t to items s e can is same why =
    let P : Separate → Type 0 = λ k. CanNotify t to k in
    let Q : List ℕ → Type 0 = λ a. IsFirstReason t.sent a e in
    (subst P is can) e (subst Q (sym same) why)

-- the Type of a response is the planned one
pub sent_as_planned : (plan : Plan) (r : Responded) → Carries plan r → type_of plan ≡ sent_as r
sent_as_planned (plans.InAck id) (responded.InAck len) carries = refl
sent_as_planned (plans.InAck id) (responded.Non len) carries = absurd carries
sent_as_planned (plans.InAck id) (responded.Con s) carries = absurd carries
sent_as_planned (plans.Non id) (responded.InAck len) carries = absurd carries
sent_as_planned (plans.Non id) (responded.Non len) carries = refl
sent_as_planned (plans.Non id) (responded.Con s) carries = absurd carries
sent_as_planned (plans.Con to id) (responded.InAck len) carries = absurd carries
sent_as_planned (plans.Con to id) (responded.Non len) carries = absurd carries
sent_as_planned (plans.Con to id) (responded.Con s) carries = refl
