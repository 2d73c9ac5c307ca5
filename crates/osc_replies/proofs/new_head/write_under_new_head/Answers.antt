use Rattle.std.proofs.Common.{rules, arith, ◌≤◌, length, subst}
use Rattle.osc_coap.specs.Views.{parts_of}
use Rattle.osc_coap.specs.Datagram.{Parts}
use Rattle.osc_replies.specs.Memory.{IsReply}
use Rattle.osc_replies.proofs.NewHeads.{behind_both, some_code, under_new_head}
use Rattle.osc_replies.proofs.new_head.write_under_new_head.Goals as goal

pub unreachable-requires : goal.unreachable-requires
unreachable-requires c = c.one_datagram.ensures.never_both _ _ _ _ c.requires.1.datagram c.in_default.ensures.refused

pub returns-clause-written : goal.returns-clause-written
returns-clause-written c =
    let p = parts_of c.in-Ok.remembered in
    let is = c.requires.1 in
    let one = c.one_datagram.ensures.one _ _ _ is.datagram c.in-Ok.ensures.accepted in
    let said : IsReply p c.args.reply.now = subst (λ (q : Parts). IsReply q c.args.reply.now) one is in
    let room : c.put_head-start.result ≤ length c.put_head-start.new.out = omega (arith, c.put_head-start.ensures.same_room, c.put_head-start.ensures.end, c.head_len-2.ensures.value) in (
      p,
      said,
      under_new_head p c.args.reply.now c.split_at.result.1.now _ _ c.args.request.now.token.items c.head_len.result c.put_head-start.result c.put.result c.put_head-start.new.out c.put.new.out
          said.datagram (some_code p.code said.code) c.head_len.ensures.value (search rules) c.put_head-start.ensures.written (search rules) (search rules) c.put.ensures.written c.put.ensures.end,
    )

pub returns-clause-behind : goal.returns-clause-behind
returns-clause-behind c =
    behind_both c.put_head-start.result c.put.result _ c.args.out.now c.put_head-start.new.out c.put.new.out c.put_head-start.ensures.behind (search rules) c.put.ensures.written c.put.ensures.end
