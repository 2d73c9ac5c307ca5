use Rattle.std.proofs.Common.{◌≡◌, ℕ, List, ap, ◌∙◌, arith, rules}
use Rattle.osc_coap.specs.Datagram.{head}
use Rattle.osc_coap.specs.OptionText.{placed}
use Rattle.osc_coap.specs.Writing.{bare}
use Rattle.osc_coap.proofs.Bytes.{bytes_by_place}
use Rattle.osc_coap.proofs.Placed.{placed_twice}
use Rattle.osc_coap.proofs.head.put_head.Goals as goal

pub returns-clause-written : goal.returns-clause-written
returns-clause-written c =
    let fields : List ℕ = head (bare c.args.kind c.args.code c.args.message_id c.args.token.now.items) in
    let first : c.put-end.new.buf ≡ placed 0 fields c.args.buf.now = search rules in
    placed_twice 0 c.put-end.result fields c.args.token.now.items c.args.buf.now c.put-end.new.buf c.put.new.buf c.put-end.ensures.end (omega arith) first (c.put.ensures.written ∙ ap (λ (z : List ℕ). placed c.put-end.result z c.put-end.new.buf) c.as_slice.ensures.value)

pub returns-clause-bytes : goal.returns-clause-bytes
returns-clause-bytes c = bytes_by_place c.put.new.buf (λ i. let b = c.type_inv.buf i in omega (arith, b))
