use Rattle.std.proofs.Common.{refl}
use Rattle.osc_coap.specs.Writing.{Datagram, bare}
use Rattle.osc_coap.specs.Writer.{Holds}
use Rattle.osc_coap.specs.Held.{IsAt}
use Rattle.osc_coap.proofs.Grown.{head_stands}
use Rattle.osc_coap.proofs.writer.Writer.begin.Goals.{then-code-eq0, else-code-eq0}
use Rattle.osc_coap.proofs.writer.Writer.begin.Goals as goal

pub returns-clause-made : goal.returns-clause-made
unfolding Holds
returns-clause-made c =
    let put = c.put_head-len.ensures in
    let stands = head_stands c.args.kind c.args.code c.args.message_id c.args.token.now.items c.args.buf.now c.put_head-len.new.buf c.put_head-len.result put.bytes put.short c.requires.alone c.requires.room put.written put.end in
    let stage : IsAt c.if-code-eq0.result (Datagram (bare c.args.kind c.args.code c.args.message_id c.args.token.now.items)) = elim c.if-code-eq0.branch [
      | then-code-eq0 w ↦ rw w.result-is (w.if-code-eq0.true, refl)
      | else-code-eq0 w ↦ rw w.result-is (w.if-code-eq0.false, refl)
    ] in
    record {
      written = stands.written;
      size = stands.size;
      same_room = stands.same_room;
      behind = stands.behind;
      number = refl;
      stage = stage;
    }
