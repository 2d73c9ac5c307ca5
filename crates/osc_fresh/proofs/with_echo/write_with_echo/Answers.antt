use Rattle.std.proofs.Common.{◌+◌, ◌<◌, arith, length}
use Rattle.osc_coap.specs.Views.{parts_of}
use Rattle.osc_protect.proofs.Splits.{not_err}
use Rattle.osc_fresh.specs.WithEcho.{TakesEcho, with_echo}
use Rattle.osc_fresh.proofs.EchoSides.{empty_exact, had_room, no_head, room_exact, written_exact}
use Rattle.osc_fresh.proofs.with_echo.write_with_echo.Goals as goal

-- ---- an Empty message

pub returns-then-plain-eq0-clause-refused : goal.returns-then-plain-eq0-clause-refused
returns-then-plain-eq0-clause-refused c = (empty_exact (length c.args.room.now) c.args.echo.now (parts_of c.args.plain.now) c.if-plain-eq0.true).refused

pub returns-then-plain-eq0-clause-refuses : goal.returns-then-plain-eq0-clause-refuses
returns-then-plain-eq0-clause-refuses c = (empty_exact (length c.args.room.now) c.args.echo.now (parts_of c.args.plain.now) c.if-plain-eq0.true).refuses

pub returns-then-plain-eq0-clause-accepts : goal.returns-then-plain-eq0-clause-accepts
returns-then-plain-eq0-clause-accepts c = (empty_exact (length c.args.room.now) c.args.echo.now (parts_of c.args.plain.now) c.if-plain-eq0.true).accepts

-- ---- no room for the head

pub returns-then-room-head_len-clause-refused : goal.returns-then-room-head_len-clause-refused
returns-then-room-head_len-clause-refused c =
    let p = parts_of c.args.plain.now in
    let short : length c.args.room.now < 4 + length p.token = omega arith in
    (room_exact (length c.args.room.now) c.args.echo.now p c.if-plain-eq0.false (no_head p c.args.echo.now (length c.args.room.now) short)).refused

pub returns-then-room-head_len-clause-refuses : goal.returns-then-room-head_len-clause-refuses
returns-then-room-head_len-clause-refuses c =
    let p = parts_of c.args.plain.now in
    let short : length c.args.room.now < 4 + length p.token = omega arith in
    (room_exact (length c.args.room.now) c.args.echo.now p c.if-plain-eq0.false (no_head p c.args.echo.now (length c.args.room.now) short)).refuses

pub returns-then-room-head_len-clause-accepts : goal.returns-then-room-head_len-clause-accepts
returns-then-room-head_len-clause-accepts c =
    let p = parts_of c.args.plain.now in
    let short : length c.args.room.now < 4 + length p.token = omega arith in
    (room_exact (length c.args.room.now) c.args.echo.now p c.if-plain-eq0.false (no_head p c.args.echo.now (length c.args.room.now) short)).accepts

-- ---- no room for what comes behind it

pub returns-in_default-clause-refused : goal.returns-in_default-clause-refused
returns-in_default-clause-refused c =
    let p = parts_of c.args.plain.now in
    (room_exact (length c.args.room.now) c.args.echo.now p c.if-plain-eq0.false
    (λ takes. not_err c.write_behind_head.result _ c.in_default.is (c.write_behind_head.ensures.accepts _ c.begin-writer.ensures.made takes))).refused

pub returns-in_default-clause-refuses : goal.returns-in_default-clause-refuses
returns-in_default-clause-refuses c =
    let p = parts_of c.args.plain.now in
    (room_exact (length c.args.room.now) c.args.echo.now p c.if-plain-eq0.false
    (λ takes. not_err c.write_behind_head.result _ c.in_default.is (c.write_behind_head.ensures.accepts _ c.begin-writer.ensures.made takes))).refuses

pub returns-in_default-clause-accepts : goal.returns-in_default-clause-accepts
returns-in_default-clause-accepts c =
    let p = parts_of c.args.plain.now in
    (room_exact (length c.args.room.now) c.args.echo.now p c.if-plain-eq0.false
    (λ takes. not_err c.write_behind_head.result _ c.in_default.is (c.write_behind_head.ensures.accepts _ c.begin-writer.ensures.made takes))).accepts

-- ---- it is written

pub returns-clause-length : goal.returns-clause-length
returns-clause-length c = (c.finish.ensures.length _ _ (c.in-Ok.ensures.taken _ c.begin-writer.ensures.made)).0

pub returns-clause-accepted : goal.returns-clause-accepted
returns-clause-accepted c = λ ok.
    let q = with_echo c.args.echo.now (parts_of c.args.plain.now) in
    let held = c.in-Ok.ensures.taken _ c.begin-writer.ensures.made in
    let size = c.finish.ensures.length _ _ held in
    (c.if-plain-eq0.false, had_room q c.finish.result (length c.args.room.now) c.finish.new.self.0 (c.finish.ensures.datagram _ _ held) c.finish.ensures.within size.0 size.1)

pub returns-clause-refuses : goal.returns-clause-refuses
returns-clause-refuses c =
    let p = parts_of c.args.plain.now in
    let q = with_echo c.args.echo.now p in
    let held = c.in-Ok.ensures.taken _ c.begin-writer.ensures.made in
    let size = c.finish.ensures.length _ _ held in
    let takes : TakesEcho (length c.args.room.now) c.args.echo.now p =
    (c.if-plain-eq0.false, had_room q c.finish.result (length c.args.room.now) c.finish.new.self.0 (c.finish.ensures.datagram _ _ held) c.finish.ensures.within size.0 size.1) in
    (written_exact (length c.args.room.now) c.args.echo.now p c.finish.result takes).refuses
