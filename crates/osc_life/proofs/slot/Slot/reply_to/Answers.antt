use Rattle.std.proofs.Common.{◌≡◌, sym}
use Rattle.std.specs.Option.{option_map}
use Rattle.osc_coap.specs.Datagram.{Parts}
use Rattle.osc_coap.specs.Views.{parts_of}
use Rattle.osc_context.specs.Views.{number_of}
use Rattle.osc_life.specs.Replies.{as_reply}
use Rattle.osc_life.proofs.SealedReplies.{sealed_reply}
use Rattle.osc_life.proofs.slot.Slot.reply_to.Goals as goal

pub returns-in-Ok-clause-kept : goal.returns-in-Ok-clause-kept
returns-in-Ok-clause-kept c = λ l a.
    let asker = c.args.asker.now in
    let q : Parts = as_reply asker.kind asker.message_id asker.token.items c.args.mid (parts_of c.args.plain.now) in
    let head : parts_of c.with_head-message.result ≡ q =
    rw (sym c.reply_kind-kind.ensures, sym c.reply_id-id.ensures, sym c.token.ensures) c.with_head-message.ensures in (
      sealed_reply l c.args.self.now c.new-request.result (number_of c.args.number) c.in-Ok.len (option_map number_of c.in-Some.own_number) c.args.own (parts_of c.with_head-message.result) q _ c.args.out.now
          a (c.in-Some.ensures.given l a) c.new-request.ensures.plain c.new-request.ensures.number head c.seal_response.auto.out c.in-Ok.ensures.sealed,
      c.count.ensures.kept l c.in-Ok.len a,
    )
