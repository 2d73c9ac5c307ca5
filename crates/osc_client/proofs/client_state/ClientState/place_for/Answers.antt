use Rattle.std.proofs.Common.{◌∙◌, sym, ap, subst, refl}
use Rattle.std.specs.Prelude.{◌||◌, ◌&&◌}
use Rattle.std.proofs.lemmas.Option.{slice_get_within}
use Rattle.osc_coap.specs.Views.{parts_of}
use Rattle.osc_protect.specs.Views.{context_of}
use Rattle.osc_observe.specs.Observing.{cancels, registers}
use Rattle.osc_client.specs.ClientAnswer.{IsAmong}
use Rattle.osc_client.specs.ClientHistory.{observes}
use Rattle.osc_client.proofs.Asking.{contains_at}
use Rattle.osc_client.proofs.GivingWay.{in_use, none_gives_way, one_gives_way}
use Rattle.osc_client.proofs.client_state.ClientState.place_for.Goals as goal
use Rattle.osc_client.proofs.client_state.ClientState.place_for.Goals.{else-observes-via-then-observes+else-takes_over, else-observes-via-else-observes}

pub returns-in_default-clause-accepted : goal.returns-in_default-clause-accepted
returns-in_default-clause-accepted g c = λ differ.
    let none = subst (λ token. IsAmong token (g.W.Waiting.requests c.args.pending.now) → ⊥) c.as_slice.ensures.value c.in_default.ensures.none in
    (none_gives_way (context_of c.args.self.now.context).features (parts_of c.args.plain.now) (g.W.Waiting.requests c.args.pending.now) none, none)

pub returns-then-takes_over-clause-accepted : goal.returns-then-takes_over-clause-accepted
returns-then-takes_over-clause-accepted g c = λ differ.
    let x = (context_of c.args.self.now.context).features in
    let p = parts_of c.args.plain.now in
    let rs = g.W.Waiting.requests c.args.pending.now in
    let (r, at, same, number, wait) = c.in-Some.ensures.found in
    one_gives_way x p rs r differ (contains_at rs c.in-Some.found.place r at) (same ∙ c.as_slice.ensures.value) c.in-Some.found.place at
    (ap (λ b. b && (registers x p.code p.options || cancels x p.code p.options)) (ap observes wait ∙ sym c.observes.ensures ∙ c.if-observes.true)
    ∙ sym c.takes_over.ensures ∙ c.if-takes_over.true)

pub returns-then-takes_over-clause-within : goal.returns-then-takes_over-clause-within
returns-then-takes_over-clause-within g c =
    let (r, at, same, number, wait) = c.in-Some.ensures.found in
    slice_get_within (g.W.Waiting.requests c.args.pending.now) c.in-Some.found.place r at

pub returns-else-observes-clause-refused : goal.returns-else-observes-clause-refused
returns-else-observes-clause-refused g c =
    let x = (context_of c.args.self.now.context).features in
    let p = parts_of c.args.plain.now in
    let rs = g.W.Waiting.requests c.args.pending.now in
    let (r, at, same, number, wait) = c.in-Some.ensures.found in (
      refl,
      in_use x p rs r (contains_at rs c.in-Some.found.place r at) (same ∙ c.as_slice.ensures.value) (elim c.else-observes.branch [
        | else-observes-via-then-observes+else-takes_over w ↦
            ap (λ b. b && (registers x p.code p.options || cancels x p.code p.options)) (ap observes wait ∙ sym c.observes.ensures ∙ w.if-observes.true)
            ∙ sym w.takes_over.ensures ∙ w.if-takes_over.false
        | else-observes-via-else-observes w ↦
            ap (λ b. b && (registers x p.code p.options || cancels x p.code p.options)) (ap observes wait ∙ sym c.observes.ensures ∙ w.if-observes.false)
      ]),
    )
