use Rattle.std.proofs.Common.{◌∙◌, ℕ, List, refl, subst, sym, take, length}
use Rattle.osc_coap.specs.Datagram.{Parts}
use Rattle.osc_coap.specs.Views.{parts_of}
use Rattle.osc_client.specs.ClientHistory as asked
use Rattle.osc_kept_ends.specs.PeerOwning.{own_in}
use Rattle.osc_kept_ends.specs.Peering.{AskStep}
use Rattle.osc_message.specs.Calls.{IsFirstReason}
use Rattle.osc_message.specs.Views.{table_of}
use Rattle.osc_message.specs.declared.exchange.Awaits.TheVariants.{Response}
use Rattle.osc_message.specs.declared.exchanges.Outgoing.{Outgoing}
use Rattle.osc_node.proofs.Asked.{under_head}
use Rattle.osc_node.proofs.Planned.{is_ok}
use Rattle.osc_node.proofs.node.Node.request.Goals as goal

pub returns-in-Err-clause-unsent : goal.returns-in-Err-clause-unsent
returns-in-Err-clause-unsent g c =
    let P : List ℕ → Type 0 = λ to. IsFirstReason (table_of c.args.self.now.layer.exchanges) to c.in-Err.error in
    (subst P c.as_slice.ensures.value c.in-Err.ensures.refused, refl)

pub returns-in-Err-request-clause-refused : goal.returns-in-Err-request-clause-refused
returns-in-Err-request-clause-refused g c = λ differs. (
  c.in-Some.message_id,
  c.in-Some.ensures.gives,
  (λ k behind.
      let P : Parts → Type 0 = λ p. AskStep k (asked.Request c.args.now p (length c.args.out.now)) (asked.NotSent c.in-Err-request.error)
      (own_in c.args.self.now.peer.source) (own_in c.request.new.self.source) c.request.new.self.client in
      subst P (c.with_head-message.ensures ∙ under_head (parts_of c.args.plain.now) c.in-Some.message_id c.copy_of.result.items c.copy_of.ensures)
      (c.in-Err-request.ensures.answered differs k behind)),
)

pub unreachable-requires : goal.unreachable-requires
unreachable-requires g c =
    let P : List ℕ → Type 0 = λ to. IsFirstReason (table_of c.args.self.now.layer.exchanges) to c.in-Err-begin.field-0 in
    c.check_begin.ensures.accepted (is_ok c.check_begin.result c.in_default.not-Err) c.in-Err-begin.field-0 (subst P (sym c.as_slice.ensures.value) c.in-Err-begin.ensures.refused)

pub returns-clause-sent : goal.returns-clause-sent
returns-clause-sent g c =
    let m : Outgoing = record { to = c.args.to; message_id = c.in-Some.message_id; token = c.copy_of-2.result; awaits = Response } in (
      c.in-Some.message_id,
      record {
        given = c.in-Some.ensures.gives;
        message = m;
        is = record { to_is = refl; id_is = refl; token_is = c.copy_of-2.ensures; awaits = refl };
        begins = c.in-Ok-begin.ensures.begun;
        came = refl;
      },
      (λ k behind.
          let P : Parts → Type 0 = λ p. AskStep k (asked.Request c.args.now p (length c.args.out.now)) (asked.Sent (take c.in-Ok.len c.request.new.out))
          (own_in c.args.self.now.peer.source) (own_in c.request.new.self.source) c.request.new.self.client in
          subst P (c.with_head-message.ensures ∙ under_head (parts_of c.args.plain.now) c.in-Some.message_id c.copy_of.result.items c.copy_of.ensures)
          (c.in-Ok.ensures.answered tt k behind)),
    )
