use Rattle.std.proofs.Common.{ℕ, ◌+◌, ◌∙◌, ap, arith}
use Rattle.osc_coap.proofs.Bytes.{bytes_by_place}
use Rattle.osc_coap.proofs.Made.{datagram_made}
use Rattle.osc_coap.proofs.parsing.read_datagram.Goals as goal

pub returns-clause-accepted : goal.returns-clause-accepted
returns-clause-accepted c =
    let head = c.in_ok-head.ensures.read in
    let end = c.in_ok-end.ensures.end in
    datagram_made _ c.args.bytes.now c.in_ok-end.end (bytes_by_place c.args.bytes.now (λ i. let h = c.type_inv.bytes i in omega (arith, h))) head.fine head.kind head.code head.message_id (end.0 ∙ ap (λ (n : ℕ). 4 + n) head.token_length) end.1 c.token_of.ensures c.in_ok-end.ensures.alone c.in_ok-body.ensures.body
