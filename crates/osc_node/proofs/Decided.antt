-- What follows of what a node decided.
use Rattle.std.proofs.Common.{◌≡◌, ap, subst, sym, refl, ℕ, List, [], take}
use Rattle.osc_coap.specs.Datagram.{IsDatagram, Parts}
use Rattle.osc_coap.specs.declared.message.Kind.TheVariants.{Rst}
use Rattle.osc_client.specs.declared.decision.ClientDecision.{ClientDecision}
use Rattle.osc_life.specs.declared.decision.Decided.{Decided}
use Rattle.osc_message.specs.Incoming.{empty}
use Rattle.osc_message.specs.MessageIds.{Counted}
use Rattle.osc_message.specs.Taking.{IsUnreadable, Layer, Takes, heading_of}
use Rattle.osc_message.specs.declared.exchanges.Call.{Call}
use Rattle.osc_message.specs.declared.messages.Heading.{Heading}
use Rattle.osc_message.specs.declared.messages.Taken.{Taken}
use Rattle.osc_message.specs.declared.messages.Taken.TheVariants as taken
use Rattle.osc_node.specs.Deciding.{AsksBy, ComesAs, ComesUnread, IfKeeperFailed, IfLayerAlone, IfRequest, IfResponse, IsReplyId, Sends, SendsAck, SendsReply, is_heard, settled_as}
use Rattle.osc_node.specs.Settling.{IsAbout, IsSettled, Settles}
use Rattle.osc_node.specs.declared.node_decision.NodeDecision.{NodeDecision}
use Rattle.osc_node.specs.declared.node_decision.NodeDecision.TheVariants as node
use Rattle.osc_node.proofs.Taken.{recalled, rejected, repeated_ignored}

pub asked_no_response : (old new : Layer) (before after : Counted) (from : List ℕ) (h : Heading) (now : ℕ) (d : NodeDecision) (P : ClientDecision → Type 0) → AsksBy old new before after from h now d → IfResponse d P
asked_no_response old new before after from h now (node.Request d noted) P asks = tt
asked_no_response old new before after from h now (node.Response to x) P asks = absurd asks
asked_no_response old new before after from h now (node.Repeated r) P asks = tt
asked_no_response old new before after from h now (node.Acknowledged a) P asks = tt
asked_no_response old new before after from h now (node.Reset ended) P asks = tt
asked_no_response old new before after from h now node.Rejected P asks = tt
asked_no_response old new before after from h now node.Ignored P asks = tt
asked_no_response old new before after from h now node.NoPlace P asks = tt
asked_no_response old new before after from h now node.KeeperFailed P asks = tt

pub asked_sends : (old new : Layer) (before after : Counted) (from : List ℕ) (h : Heading) (now : ℕ) (d : NodeDecision) (p : Parts) (send : ℕ) (text : List ℕ) → AsksBy old new before after from h now d → h ≡ heading_of p → SendsReply h d send → Sends p d send text
asked_sends old new before after from h now (node.Request d noted) p send text asks is sends = subst (λ (k : Heading). SendsReply k (node.Request d noted) send) is sends
asked_sends old new before after from h now (node.Response to x) p send text asks is sends = absurd asks
asked_sends old new before after from h now (node.Repeated r) p send text asks is sends = absurd asks
asked_sends old new before after from h now (node.Acknowledged a) p send text asks is sends = absurd asks
asked_sends old new before after from h now (node.Reset ended) p send text asks is sends = absurd asks
asked_sends old new before after from h now node.Rejected p send text asks is sends = absurd asks
asked_sends old new before after from h now node.Ignored p send text asks is sends = absurd asks
asked_sends old new before after from h now node.NoPlace p send text asks is sends = sends
asked_sends old new before after from h now node.KeeperFailed p send text asks is sends = sends

pub heard_no_request : (call : Call) (d : NodeDecision) (P : Decided → Type 0) → IsAbout call d → IfRequest d P
heard_no_request call (node.Request d noted) P hears = absurd hears
heard_no_request call (node.Response to x) P hears = tt
heard_no_request call (node.Repeated r) P hears = tt
heard_no_request call (node.Acknowledged a) P hears = tt
heard_no_request call (node.Reset ended) P hears = tt
heard_no_request call node.Rejected P hears = tt
heard_no_request call node.Ignored P hears = tt
heard_no_request call node.NoPlace P hears = tt
heard_no_request call node.KeeperFailed P hears = tt

pub heard_no_failure : (call : Call) (d : NodeDecision) (A : Type 0) → IsAbout call d → IfKeeperFailed d A
heard_no_failure call (node.Request d noted) A hears = tt
heard_no_failure call (node.Response to x) A hears = tt
heard_no_failure call (node.Repeated r) A hears = tt
heard_no_failure call (node.Acknowledged a) A hears = tt
heard_no_failure call (node.Reset ended) A hears = tt
heard_no_failure call node.Rejected A hears = tt
heard_no_failure call node.Ignored A hears = tt
heard_no_failure call node.NoPlace A hears = tt
heard_no_failure call node.KeeperFailed A hears = absurd hears

pub heard_not_alone : (call : Call) (d : NodeDecision) (A : Type 0) → IsAbout call d → IfLayerAlone d A
heard_not_alone call (node.Request d noted) A hears = tt
heard_not_alone call (node.Response to x) A hears = tt
heard_not_alone call (node.Repeated r) A hears = absurd hears
heard_not_alone call (node.Acknowledged a) A hears = absurd hears
heard_not_alone call (node.Reset ended) A hears = absurd hears
heard_not_alone call node.Rejected A hears = absurd hears
heard_not_alone call node.Ignored A hears = absurd hears
heard_not_alone call node.NoPlace A hears = absurd hears
heard_not_alone call node.KeeperFailed A hears = tt

pub heard_sends : (call : Call) (h : Heading) (d : NodeDecision) (p : Parts) (send : ℕ) (text : List ℕ) → IsAbout call d → h ≡ heading_of p → IfResponse d (λ x. SendsAck h (is_heard x) text) → Sends p d send text
heard_sends call h (node.Request d noted) p send text hears is sends = absurd hears
heard_sends call h (node.Response to x) p send text hears is sends = subst (λ (k : Heading). SendsAck k (is_heard x) text) is sends
heard_sends call h (node.Repeated r) p send text hears is sends = absurd hears
heard_sends call h (node.Acknowledged a) p send text hears is sends = absurd hears
heard_sends call h (node.Reset ended) p send text hears is sends = absurd hears
heard_sends call h node.Rejected p send text hears is sends = absurd hears
heard_sends call h node.Ignored p send text hears is sends = absurd hears
heard_sends call h node.NoPlace p send text hears is sends = absurd hears
heard_sends call h node.KeeperFailed p send text hears is sends = absurd hears

-- ---- where the message layer decided alone

pub settled_no_request : (t : Taken) (P : Decided → Type 0) → IsSettled t → IfRequest (settled_as t) P
settled_no_request (taken.Request k) P settled = absurd settled
settled_no_request (taken.Response call k) P settled = absurd settled
settled_no_request (taken.Repeated r) P settled = tt
settled_no_request (taken.Acknowledged a) P settled = tt
settled_no_request (taken.Reset call) P settled = tt
settled_no_request (taken.Reject bytes) P settled = tt
settled_no_request taken.Ignored P settled = tt

pub settled_no_response : (t : Taken) (P : ClientDecision → Type 0) → IsSettled t → IfResponse (settled_as t) P
settled_no_response (taken.Request k) P settled = absurd settled
settled_no_response (taken.Response call k) P settled = absurd settled
settled_no_response (taken.Repeated r) P settled = tt
settled_no_response (taken.Acknowledged a) P settled = tt
settled_no_response (taken.Reset call) P settled = tt
settled_no_response (taken.Reject bytes) P settled = tt
settled_no_response taken.Ignored P settled = tt

pub settled_no_failure : (t : Taken) (A : Type 0) → IsSettled t → IfKeeperFailed (settled_as t) A
settled_no_failure (taken.Request k) A settled = absurd settled
settled_no_failure (taken.Response call k) A settled = absurd settled
settled_no_failure (taken.Repeated r) A settled = tt
settled_no_failure (taken.Acknowledged a) A settled = tt
settled_no_failure (taken.Reset call) A settled = tt
settled_no_failure (taken.Reject bytes) A settled = tt
settled_no_failure taken.Ignored A settled = tt

pub settled_alone : (t : Taken) (A : Type 0) → IsSettled t → A → IfLayerAlone (settled_as t) A
settled_alone (taken.Request k) A settled x = absurd settled
settled_alone (taken.Response call k) A settled x = absurd settled
settled_alone (taken.Repeated r) A settled x = x
settled_alone (taken.Acknowledged a) A settled x = x
settled_alone (taken.Reset call) A settled x = x
settled_alone (taken.Reject bytes) A settled x = x
settled_alone taken.Ignored A settled x = x

pub settled_comes : (t : Taken) (l : Layer) (ids after : Counted) (from : List ℕ) (now : ℕ) (d : NodeDecision) → IsSettled t → d ≡ settled_as t → after ≡ ids → ComesAs l l ids after from now d t
settled_comes (taken.Request k) l ids after from now d settled is same = absurd settled
settled_comes (taken.Response call k) l ids after from now d settled is same = absurd settled
settled_comes (taken.Repeated r) l ids after from now d settled is same = (is, refl, same)
settled_comes (taken.Acknowledged a) l ids after from now d settled is same = (is, refl, same)
settled_comes (taken.Reset call) l ids after from now d settled is same = (is, refl, same)
settled_comes (taken.Reject bytes) l ids after from now d settled is same = (is, refl, same)
settled_comes taken.Ignored l ids after from now d settled is same = (is, refl, same)

pub settled_sends : (t : Taken) (old new : Layer) (from : List ℕ) (now : ℕ) (p : Parts) (send : ℕ) (text : List ℕ) → IsSettled t → Takes old new from now p t → Settles new t send text → Sends p (settled_as t) send text
settled_sends (taken.Request k) old new from now p send text settled takes settles = absurd settled
settled_sends (taken.Response call k) old new from now p send text settled takes settles = absurd settled
settled_sends (taken.Repeated r) old new from now p send text settled takes settles = settles from p.message_id now (recalled old new from now p r takes)
settled_sends (taken.Acknowledged a) old new from now p send text settled takes settles = settles
settled_sends (taken.Reset call) old new from now p send text settled takes settles = settles
settled_sends (taken.Reject bytes) old new from now p send text settled takes settles = subst (λ (b : List ℕ). IsDatagram (empty Rst p.message_id) b) (sym settles) (rejected old new from now p bytes takes)
settled_sends taken.Ignored old new from now p send text settled takes settles = settles

nothing_is_sent : (send : ℕ) (out : List ℕ) → send ≡ 0 → take send out ≡ []
nothing_is_sent send out none = ap (λ (n : ℕ). take n out) none

acknowledged_ignored : {A : Type 0} → (a : _) → taken.Acknowledged a ≡ taken.Ignored → A
acknowledged_ignored a e = absurd cc

reset_ignored : {A : Type 0} → (call : Call) → taken.Reset call ≡ taken.Ignored → A
reset_ignored call e = absurd cc

pub settled_unread : (t : Taken) (l : Layer) (d : List ℕ) (send : ℕ) (out : List ℕ) → IsSettled t → IsUnreadable d t → Settles l t send (take send out) → ComesUnread d (settled_as t) (take send out)
settled_unread (taken.Request k) l d send out settled unread settles = absurd settled
settled_unread (taken.Response call k) l d send out settled unread settles = absurd settled
settled_unread (taken.Repeated r) l d send out settled unread settles = absurd (repeated_ignored r unread.0)
settled_unread (taken.Acknowledged a) l d send out settled unread settles = acknowledged_ignored a unread.0
settled_unread (taken.Reset call) l d send out settled unread settles = reset_ignored call unread.0
settled_unread (taken.Reject bytes) l d send out settled unread settles = subst (λ (b : List ℕ). IsUnreadable d (taken.Reject b)) (sym settles) unread
settled_unread taken.Ignored l d send out settled unread settles = (unread, nothing_is_sent send out settles)

-- what was asked under a heading, and with a counter, that are these
pub requested_under : (d : NodeDecision) (w v : Counted) (now : ℕ) (h k : Heading) (Q : Decided → ℕ → Type 0) → w ≡ v → h ≡ k
    → IfRequest d (λ x. (id : ℕ) × IsReplyId w now h id × Q x id) → IfRequest d (λ x. (id : ℕ) × IsReplyId v now k id × Q x id)
requested_under d w v now h k Q same is asked =
    let P : Counted → Type 0 = λ c. IfRequest d (λ x. (id : ℕ) × IsReplyId c now h id × Q x id) in
    let S : Heading → Type 0 = λ g. IfRequest d (λ x. (id : ℕ) × IsReplyId v now g id × Q x id) in
    subst S is (subst P same asked)

pub is_settled : (t : Taken) → ((h : Heading) → t ≡ taken.Request h → ⊥) → ((call : Call) (h : Heading) → t ≡ taken.Response call h → ⊥) → IsSettled t
is_settled (taken.Request h) no_request no_response = absurd (no_request h refl)
is_settled (taken.Response call h) no_request no_response = absurd (no_response call h refl)
is_settled (taken.Repeated r) no_request no_response = tt
is_settled (taken.Acknowledged a) no_request no_response = tt
is_settled (taken.Reset call) no_request no_response = tt
is_settled (taken.Reject bytes) no_request no_response = tt
is_settled taken.Ignored no_request no_response = tt

module _ (t : Taken) (d : NodeDecision) (settled : IsSettled t) (is : d ≡ settled_as t) where
  pub alone_no_request : (P : Decided → Type 0) → IfRequest d P
  alone_no_request P = let Q : NodeDecision → Type 0 = λ x. IfRequest x P in subst Q (sym is) (settled_no_request t P settled)

  pub alone_no_response : (P : ClientDecision → Type 0) → IfResponse d P
  alone_no_response P = let Q : NodeDecision → Type 0 = λ x. IfResponse x P in subst Q (sym is) (settled_no_response t P settled)

  pub alone_no_failure : (A : Type 0) → IfKeeperFailed d A
  alone_no_failure A = let Q : NodeDecision → Type 0 = λ x. IfKeeperFailed x A in subst Q (sym is) (settled_no_failure t A settled)

  pub alone_holds : (A : Type 0) → A → IfLayerAlone d A
  alone_holds A x = let Q : NodeDecision → Type 0 = λ y. IfLayerAlone y A in subst Q (sym is) (settled_alone t A settled x)

  pub alone_sends : (old new : Layer) (from : List ℕ) (now : ℕ) (p : Parts) (send : ℕ) (text : List ℕ) → Takes old new from now p t → Settles new t send text → Sends p d send text
  alone_sends old new from now p send text takes settles = let Q : NodeDecision → Type 0 = λ x. Sends p x send text in subst Q (sym is) (settled_sends t old new from now p send text settled takes settles)

  pub alone_unread : (l : Layer) (bytes : List ℕ) (send : ℕ) (out : List ℕ) → IsUnreadable bytes t → Settles l t send (take send out) → ComesUnread bytes d (take send out)
  alone_unread l bytes send out unread settles = let Q : NodeDecision → Type 0 = λ x. ComesUnread bytes x (take send out) in subst Q (sym is) (settled_unread t l bytes send out settled unread settles)
