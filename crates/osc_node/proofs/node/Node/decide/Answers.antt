use Rattle.std.proofs.Common.{ap, refl, rules, subst, ℕ, List}
use Rattle.osc_kept_ends.specs.PeerOwning.{ahead_in}
use Rattle.osc_message.specs.LayerViews.{layer_of}
use Rattle.osc_message.specs.MessageIds.{Counted}
use Rattle.osc_message.specs.Taking.{Takes, heading_of}
use Rattle.osc_message.specs.Views.{counted_of}
use Rattle.osc_message.specs.declared.message_ids.MessageIds.{MessageIds}
use Rattle.osc_message.specs.declared.messages.Taken.TheVariants as taken
use Rattle.osc_node.specs.Deciding.{AsksBy, HearsBy}
use Rattle.osc_node.proofs.Decided.{alone_holds, alone_no_failure, alone_no_request, alone_no_response, alone_sends, alone_unread, asked_no_response, asked_sends, heard_no_failure, heard_no_request, heard_not_alone, heard_sends, is_settled, requested_under, settled_comes}
use Rattle.osc_node.proofs.Taken.{request_heading, request_ignored, response_ignored, response_way}
use Rattle.osc_node.proofs.node.Node.decide.Goals as goal

pub returns-in-Request-clause-kept : goal.returns-in-Request-clause-kept
returns-in-Request-clause-kept g c = c.decide_request.ensures.kept

pub returns-in-Request-clause-received : goal.returns-in-Request-clause-received
returns-in-Request-clause-received g c = c.decide_request.ensures.received

pub returns-in-Request-clause-shown : goal.returns-in-Request-clause-shown
returns-in-Request-clause-shown g c = c.decide_request.ensures.shown

pub returns-in-Request-clause-within : goal.returns-in-Request-clause-within
returns-in-Request-clause-within g c = c.decide_request.ensures.within

pub returns-in-Request-clause-worked : goal.returns-in-Request-clause-worked
returns-in-Request-clause-worked g c = c.decide_request.ensures.worked

pub returns-in-Request-clause-client : goal.returns-in-Request-clause-client
returns-in-Request-clause-client g c = c.decide_request.ensures.client

pub returns-in-Request-clause-waits : goal.returns-in-Request-clause-waits
returns-in-Request-clause-waits g c = c.decide_request.ensures.waits

pub returns-in-Request-clause-failed : goal.returns-in-Request-clause-failed
returns-in-Request-clause-failed g c = c.decide_request.ensures.failed

pub returns-in-Request-clause-alone : goal.returns-in-Request-clause-alone
returns-in-Request-clause-alone g c = c.decide_request.ensures.alone

pub returns-in-Request-clause-ahead : goal.returns-in-Request-clause-ahead
returns-in-Request-clause-ahead g c = c.decide_request.ensures.ahead

pub returns-in-Request-clause-rises : goal.returns-in-Request-clause-rises
returns-in-Request-clause-rises g c = c.decide_request.ensures.rises

pub returns-in-Request-clause-message : goal.returns-in-Request-clause-message
returns-in-Request-clause-message g c = λ p is.
    let P : Counted → Type 0 = λ w. AsksBy (layer_of c.take.new.self) (layer_of c.decide_request.new.self.layer) w (counted_of c.decide_request.new.self.layer.ids) c.args.from.items c.in-Request.heading c.args.now c.decide_request.result.decision in
    record { mid = layer_of c.take.new.self; taken_as = taken.Request c.in-Request.heading; takes = subst (λ (f : List ℕ). Takes (layer_of c.args.self.now.layer) (layer_of c.take.new.self) f c.args.now p (taken.Request c.in-Request.heading)) c.as_slice.ensures.value (c.in-Request.ensures.message p is); comes = subst P (ap (λ (m : MessageIds). counted_of m) c.in-Request.ensures.ids) c.decide_request.ensures.layer }

pub returns-in-Request-clause-sends : goal.returns-in-Request-clause-sends
returns-in-Request-clause-sends g c = λ p is. asked_sends _ _ _ _ _ _ _ _ p _ _ c.decide_request.ensures.layer (request_heading _ _ _ _ p c.in-Request.heading (c.in-Request.ensures.message p is)) c.decide_request.ensures.sends

pub returns-in-Request-clause-none : goal.returns-in-Request-clause-none
returns-in-Request-clause-none g c = λ never. absurd (request_ignored c.in-Request.heading (c.in-Request.ensures.none never).1.0)

pub returns-in-Request-clause-requested : goal.returns-in-Request-clause-requested
returns-in-Request-clause-requested g c = λ p is. requested_under _ _ _ c.args.now c.in-Request.heading (heading_of p) _ (ap (λ (m : MessageIds). counted_of m) c.in-Request.ensures.ids) (request_heading _ _ _ _ p c.in-Request.heading (c.in-Request.ensures.message p is)) c.decide_request.ensures.requested

pub returns-in-Request-clause-heard : goal.returns-in-Request-clause-heard
returns-in-Request-clause-heard g c = asked_no_response _ _ _ _ _ _ _ _ _ c.decide_request.ensures.layer

pub returns-in-Request-clause-shown_response : goal.returns-in-Request-clause-shown_response
returns-in-Request-clause-shown_response g c = asked_no_response _ _ _ _ _ _ _ _ _ c.decide_request.ensures.layer

pub returns-in-Request-clause-left : goal.returns-in-Request-clause-left
returns-in-Request-clause-left g c = asked_no_response _ _ _ _ _ _ _ _ _ c.decide_request.ensures.layer

pub returns-in-Request-clause-same : goal.returns-in-Request-clause-same
returns-in-Request-clause-same g c = asked_no_response _ _ _ _ _ _ _ _ _ c.decide_request.ensures.layer

pub returns-in-Response-clause-heard : goal.returns-in-Response-clause-heard
returns-in-Response-clause-heard g c = c.decide_response.ensures.heard

pub returns-in-Response-clause-left : goal.returns-in-Response-clause-left
returns-in-Response-clause-left g c = c.decide_response.ensures.left

pub returns-in-Response-clause-same : goal.returns-in-Response-clause-same
returns-in-Response-clause-same g c = c.decide_response.ensures.same

pub returns-in-Response-clause-shown_response : goal.returns-in-Response-clause-shown_response
returns-in-Response-clause-shown_response g c = c.decide_response.ensures.shown

pub returns-in-Response-clause-message : goal.returns-in-Response-clause-message
returns-in-Response-clause-message g c = λ p is.
    let P : Counted → Type 0 = λ w. HearsBy (layer_of c.take.new.self) (layer_of c.decide_response.new.self.layer) w (counted_of c.decide_response.new.self.layer.ids) c.args.from.items c.in-Response.heading c.args.now c.in-Response.call c.decide_response.result.decision in
    let (heading, way) = response_way _ _ _ _ p c.in-Response.call c.in-Response.heading (c.in-Response.ensures.message p is) in
    record { mid = layer_of c.take.new.self; taken_as = taken.Response c.in-Response.call c.in-Response.heading; takes = subst (λ (f : List ℕ). Takes (layer_of c.args.self.now.layer) (layer_of c.take.new.self) f c.args.now p (taken.Response c.in-Response.call c.in-Response.heading)) c.as_slice.ensures.value (c.in-Response.ensures.message p is); comes = subst P (ap (λ (m : MessageIds). counted_of m) c.in-Response.ensures.ids) (c.decide_response.ensures.layer way) }

pub returns-in-Response-clause-sends : goal.returns-in-Response-clause-sends
returns-in-Response-clause-sends g c = λ p is. let (heading, way) = response_way _ _ _ _ p c.in-Response.call c.in-Response.heading (c.in-Response.ensures.message p is) in heard_sends _ _ _ p _ _ c.decide_response.ensures.about heading c.decide_response.ensures.sends

pub returns-in-Response-clause-none : goal.returns-in-Response-clause-none
returns-in-Response-clause-none g c = λ never. absurd (response_ignored c.in-Response.call c.in-Response.heading (c.in-Response.ensures.none never).1.0)

pub returns-in-Response-clause-requested : goal.returns-in-Response-clause-requested
returns-in-Response-clause-requested g c = λ p is. heard_no_request _ _ _ c.decide_response.ensures.about

pub returns-in-Response-clause-kept : goal.returns-in-Response-clause-kept
returns-in-Response-clause-kept g c = heard_no_request _ _ _ c.decide_response.ensures.about

pub returns-in-Response-clause-received : goal.returns-in-Response-clause-received
returns-in-Response-clause-received g c = heard_no_request _ _ _ c.decide_response.ensures.about

pub returns-in-Response-clause-shown : goal.returns-in-Response-clause-shown
returns-in-Response-clause-shown g c = heard_no_request _ _ _ c.decide_response.ensures.about

pub returns-in-Response-clause-within : goal.returns-in-Response-clause-within
returns-in-Response-clause-within g c = heard_no_request _ _ _ c.decide_response.ensures.about

pub returns-in-Response-clause-worked : goal.returns-in-Response-clause-worked
returns-in-Response-clause-worked g c = heard_no_request _ _ _ c.decide_response.ensures.about

pub returns-in-Response-clause-client : goal.returns-in-Response-clause-client
returns-in-Response-clause-client g c = heard_no_request _ _ _ c.decide_response.ensures.about

pub returns-in-Response-clause-waits : goal.returns-in-Response-clause-waits
returns-in-Response-clause-waits g c = heard_no_failure _ _ _ c.decide_response.ensures.about

pub returns-in-Response-clause-failed : goal.returns-in-Response-clause-failed
returns-in-Response-clause-failed g c = heard_no_failure _ _ _ c.decide_response.ensures.about

pub returns-in-Response-clause-alone : goal.returns-in-Response-clause-alone
returns-in-Response-clause-alone g c = heard_not_alone _ _ _ c.decide_response.ensures.about

pub returns-in-Response-clause-ahead : goal.returns-in-Response-clause-ahead
returns-in-Response-clause-ahead g c = ap ahead_in c.decide_response.ensures.source

pub settle-requires : goal.settle-requires
settle-requires g c = (search rules, is_settled c.take.result c.in_default.not-Request c.in_default.not-Response)

pub returns-in_default-clause-requested : goal.returns-in_default-clause-requested
returns-in_default-clause-requested g c = λ p is. alone_no_request c.take.result c.settle.result.decision (is_settled c.take.result c.in_default.not-Request (λ call h. c.in_default.not-Response call h)) c.settle.ensures.decision _

pub returns-in_default-clause-kept : goal.returns-in_default-clause-kept
returns-in_default-clause-kept g c = alone_no_request c.take.result c.settle.result.decision (is_settled c.take.result c.in_default.not-Request (λ call h. c.in_default.not-Response call h)) c.settle.ensures.decision _

pub returns-in_default-clause-received : goal.returns-in_default-clause-received
returns-in_default-clause-received g c = alone_no_request c.take.result c.settle.result.decision (is_settled c.take.result c.in_default.not-Request (λ call h. c.in_default.not-Response call h)) c.settle.ensures.decision _

pub returns-in_default-clause-shown : goal.returns-in_default-clause-shown
returns-in_default-clause-shown g c = alone_no_request c.take.result c.settle.result.decision (is_settled c.take.result c.in_default.not-Request (λ call h. c.in_default.not-Response call h)) c.settle.ensures.decision _

pub returns-in_default-clause-within : goal.returns-in_default-clause-within
returns-in_default-clause-within g c = alone_no_request c.take.result c.settle.result.decision (is_settled c.take.result c.in_default.not-Request (λ call h. c.in_default.not-Response call h)) c.settle.ensures.decision _

pub returns-in_default-clause-worked : goal.returns-in_default-clause-worked
returns-in_default-clause-worked g c = alone_no_request c.take.result c.settle.result.decision (is_settled c.take.result c.in_default.not-Request (λ call h. c.in_default.not-Response call h)) c.settle.ensures.decision _

pub returns-in_default-clause-client : goal.returns-in_default-clause-client
returns-in_default-clause-client g c = alone_no_request c.take.result c.settle.result.decision (is_settled c.take.result c.in_default.not-Request (λ call h. c.in_default.not-Response call h)) c.settle.ensures.decision _

pub returns-in_default-clause-waits : goal.returns-in_default-clause-waits
returns-in_default-clause-waits g c = alone_no_failure c.take.result c.settle.result.decision (is_settled c.take.result c.in_default.not-Request (λ call h. c.in_default.not-Response call h)) c.settle.ensures.decision _

pub returns-in_default-clause-failed : goal.returns-in_default-clause-failed
returns-in_default-clause-failed g c = alone_no_failure c.take.result c.settle.result.decision (is_settled c.take.result c.in_default.not-Request (λ call h. c.in_default.not-Response call h)) c.settle.ensures.decision _

pub returns-in_default-clause-heard : goal.returns-in_default-clause-heard
returns-in_default-clause-heard g c = alone_no_response c.take.result c.settle.result.decision (is_settled c.take.result c.in_default.not-Request (λ call h. c.in_default.not-Response call h)) c.settle.ensures.decision _

pub returns-in_default-clause-shown_response : goal.returns-in_default-clause-shown_response
returns-in_default-clause-shown_response g c = alone_no_response c.take.result c.settle.result.decision (is_settled c.take.result c.in_default.not-Request (λ call h. c.in_default.not-Response call h)) c.settle.ensures.decision _

pub returns-in_default-clause-left : goal.returns-in_default-clause-left
returns-in_default-clause-left g c = alone_no_response c.take.result c.settle.result.decision (is_settled c.take.result c.in_default.not-Request (λ call h. c.in_default.not-Response call h)) c.settle.ensures.decision _

pub returns-in_default-clause-same : goal.returns-in_default-clause-same
returns-in_default-clause-same g c = alone_no_response c.take.result c.settle.result.decision (is_settled c.take.result c.in_default.not-Request (λ call h. c.in_default.not-Response call h)) c.settle.ensures.decision _

pub returns-in_default-clause-alone : goal.returns-in_default-clause-alone
returns-in_default-clause-alone g c = alone_holds c.take.result c.settle.result.decision (is_settled c.take.result c.in_default.not-Request (λ call h. c.in_default.not-Response call h)) c.settle.ensures.decision _ (refl, refl)

pub returns-in_default-clause-message : goal.returns-in_default-clause-message
returns-in_default-clause-message g c = λ p is. record {
  mid = layer_of c.take.new.self;
  taken_as = c.take.result;
  takes = subst (λ (f : List ℕ). Takes (layer_of c.args.self.now.layer) (layer_of c.take.new.self) f c.args.now p (c.take.result)) c.as_slice.ensures.value (c.take.ensures.message p is);
  comes = settled_comes c.take.result _ _ _ c.args.from.items c.args.now _ (is_settled c.take.result c.in_default.not-Request (λ call h. c.in_default.not-Response call h)) c.settle.ensures.decision (ap (λ (m : MessageIds). counted_of m) c.take.ensures.ids);
}

pub returns-in_default-clause-sends : goal.returns-in_default-clause-sends
returns-in_default-clause-sends g c = λ p is. alone_sends c.take.result c.settle.result.decision (is_settled c.take.result c.in_default.not-Request (λ call h. c.in_default.not-Response call h)) c.settle.ensures.decision _ _ _ _ p _ _ (c.take.ensures.message p is) c.settle.ensures.sends

pub returns-in_default-clause-none : goal.returns-in_default-clause-none
returns-in_default-clause-none g c = λ never. let (same, unread) = c.take.ensures.none never in (same, ap (λ (m : MessageIds). counted_of m) c.take.ensures.ids, alone_unread c.take.result c.settle.result.decision (is_settled c.take.result c.in_default.not-Request (λ call h. c.in_default.not-Response call h)) c.settle.ensures.decision (layer_of c.take.new.self) c.args.datagram.now c.settle.result.send c.settle.new.out unread c.settle.ensures.sends)
