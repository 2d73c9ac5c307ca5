use Rattle.std.proofs.Common.{◌≡◌, ◌≢◌, [], ◌∷◌, length, ap, sym, ◌∙◌, arith}
use Rattle.std.proofs.lemmas.Bool.{eqb-false}
use Rattle.osc_coap.specs.OptionSpelling.{AreBytes}
use Rattle.osc_coap.specs.OptionText.{placed}
use Rattle.osc_coap.specs.Writer.{Holds}
use Rattle.osc_coap.proofs.Bytes.{bytes_by_place}
use Rattle.osc_coap.proofs.Placed.{placed_twice}
use Rattle.osc_coap.proofs.Refusals.{payload_ok, payload_err}
use Rattle.osc_coap.proofs.Grown.{payload_stands, payload_last, payload_stage}
use Rattle.osc_coap.proofs.writer.Writer.payload.Goals as goal

pub returns-clause-taken : goal.returns-clause-taken
unfolding Holds
returns-clause-taken c = λ draft old h.
    let bytes = c.args.bytes.now in
    let len = c.args.self.now.len in
    let some : bytes ≢ [] = λ e. let n : length bytes ≢ 0 = eqb-false _ _ (sym c.is_empty.ensures ∙ c.if-is_empty.false) in n (ap length e) in
    let are : AreBytes bytes = bytes_by_place bytes (λ i. let b = c.type_inv.bytes i in omega (arith, b)) in
    let first : c.put-start.new.buf ≡ placed len (255 ∷ []) c.args.self.now.buf.now = c.put-start.ensures.written in
    let both = placed_twice len c.put-start.result (255 ∷ []) bytes c.args.self.now.buf.now c.put-start.new.buf c.put-self.new.buf c.put-start.ensures.end (omega arith) first c.put-self.ensures.written in
    let is_open = c.in_ok-judge_payload.ensures.judged in
    let stands = payload_stands c.args.self.now draft old bytes c.put-self.new.buf c.put-self.result h is_open some are c.in_ok-judge_payload.ensures.room.0 c.in_ok-judge_payload.ensures.room.1 both (omega arith) in
    record {
      written = stands.written;
      size = stands.size;
      same_room = stands.same_room;
      behind = stands.behind;
      number = payload_last draft bytes c.args.self.now.number h.number;
      stage = payload_stage c.args.self.now.stage draft bytes is_open some h.stage;
    }

pub returns-in_err-judge_payload-clause-accepts : goal.returns-in_err-judge_payload-clause-accepts
unfolding Holds
returns-in_err-judge_payload-clause-accepts c = λ draft old h some. (payload_err c.args.self.now draft old c.args.bytes.now c.in_err-judge_payload.field-0.0 c.from_residual.result h some c.in_err-judge_payload.ensures.judged c.from_residual.ensures.1).accepts

pub returns-in_err-judge_payload-clause-refused : goal.returns-in_err-judge_payload-clause-refused
unfolding Holds
returns-in_err-judge_payload-clause-refused c = λ draft old h some. (payload_err c.args.self.now draft old c.args.bytes.now c.in_err-judge_payload.field-0.0 c.from_residual.result h some c.in_err-judge_payload.ensures.judged c.from_residual.ensures.1).refused

pub returns-in_err-judge_payload-clause-refuses : goal.returns-in_err-judge_payload-clause-refuses
unfolding Holds
returns-in_err-judge_payload-clause-refuses c = λ draft old h some. (payload_err c.args.self.now draft old c.args.bytes.now c.in_err-judge_payload.field-0.0 c.from_residual.result h some c.in_err-judge_payload.ensures.judged c.from_residual.ensures.1).refuses

pub returns-clause-accepted : goal.returns-clause-accepted
unfolding Holds
returns-clause-accepted c = λ draft old h some. (payload_ok c.args.self.now draft old c.args.bytes.now h some c.in_ok-judge_payload.ensures.judged c.in_ok-judge_payload.ensures.room.0 c.in_ok-judge_payload.ensures.room.1).accepted

pub returns-clause-refuses : goal.returns-clause-refuses
unfolding Holds
returns-clause-refuses c = λ draft old h some. (payload_ok c.args.self.now draft old c.args.bytes.now h some c.in_ok-judge_payload.ensures.judged c.in_ok-judge_payload.ensures.room.0 c.in_ok-judge_payload.ensures.room.1).refuses
