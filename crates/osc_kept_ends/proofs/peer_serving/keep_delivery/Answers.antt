use Rattle.std.proofs.Common.{◌≡◌, sym, subst, Option, Some}
use Rattle.osc_window.specs.declared.gate.Gate.{Gate}
use Rattle.osc_endpoint.specs.Agrees.{Agrees}
use Rattle.osc_endpoint.specs.ServerAnswer.{ServerAnswer}
use Rattle.osc_life.specs.Agrees.{HasGate}
use Rattle.osc_life.specs.Deciding.{Decides}
use Rattle.osc_life.specs.ServerHistory.{Answer, Datagram, Then, Took, life}
use Rattle.osc_life.specs.Views.{values_of}
use Rattle.osc_life.specs.declared.decision.Decision.{Decision}
use Rattle.osc_kept_ends.specs.TakingBack.{IsDelivery}
use Rattle.osc_kept_ends.proofs.PeerSteps.{delivers_first, from_delivery, life_there}
use Rattle.osc_kept_ends.proofs.peer_serving.keep_delivery.Goals as goal

pub returns-in-Some-clause-delivers : goal.returns-in-Some-clause-delivers
returns-in-Some-clause-delivers g c = λ failed. subst IsDelivery (sym c.in-Deliver.is) tt

pub returns-in_default-gate-clause-delivers : goal.returns-in_default-gate-clause-delivers
returns-in_default-gate-clause-delivers g c = λ failed. subst IsDelivery (sym c.in-Deliver.is) tt

pub returns-in-Some-clause-taken_back : goal.returns-in-Some-clause-taken_back
returns-in-Some-clause-taken_back g c = λ failed s next h now mid echo d left reply answer k gates row decides a.
    let t = values_of c.in-Deliver.ticket in
    let (received, is) = from_delivery c.in-Deliver.field-0 c.in-Deliver.ticket left answer (subst (λ (x : Decision). Decides x left answer) c.in-Deliver.is decides) in
    let first = delivers_first s h next now mid echo d reply received t k (subst (λ (x : Answer). ServerAnswer h (Datagram now echo mid d) (Took x reply)) is row) in
    let (l, there) = life_there (life h 0) next k.next_is in
    c.take_back.ensures h now mid echo d reply received t l k.agrees.one_each (subst (λ i. life h i ≡ Some l) (sym first) there)
    (subst (λ (o : Option Gate). HasGate o l) c.in-Some.is (gates l there)) (sym c.context.ensures)
    (subst (λ (x : Answer). Agrees c.args.server.now (Then h (Datagram now echo mid d) (Took x reply))) is a)

pub returns-in_default-gate-clause-taken_back : goal.returns-in_default-gate-clause-taken_back
returns-in_default-gate-clause-taken_back g c = λ failed s next h now mid echo d left reply answer k gates row decides a.
    let (l, there) = life_there (life h 0) next k.next_is in
    absurd (subst (λ (o : Option Gate). HasGate o l) c.in_default-gate.is (gates l there))
