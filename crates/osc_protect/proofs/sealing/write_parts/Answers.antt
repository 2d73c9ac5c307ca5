use Rattle.std.proofs.Common.{rules, length}
use Rattle.osc_coap.specs.Views.{options_left, parts_of}
use Rattle.osc_coap.specs.Writing.{Datagram, Plaintext, bare, bare_inner}
use Rattle.osc_protect.proofs.Splits.{behind_takes, inside_held, inside_takes, not_err, oscore_takes, outside_held, outside_takes, payload_takes, taken_either}
use Rattle.osc_protect.proofs.sealing.write_parts.Goals as goal

pub write_options-requires-clause-outer : goal.write_options-requires-clause-outer
write_options-requires-clause-outer c =
    let p = parts_of c.args.plain.now in (
      Datagram (bare p.kind c.args.code p.message_id p.token),
      c.args.front.now,
      c.begin-outer.ensures.made,
      outside_takes c.args.family.features p c.args.code c.args.value.now (options_left c.options.result) c.sought.result.outside (length c.args.front.now) c.options.ensures c.sought.ensures.outside c.requires.code (c.options_ascend.ensures.held_message c.args.plain.now) c.requires.outer_room c.requires.outer_fits,
    )

pub write_options-requires-clause-inner : goal.write_options-requires-clause-inner
write_options-requires-clause-inner c =
    let p = parts_of c.args.plain.now in (
      Plaintext (bare_inner p.code),
      c.args.buf.now,
      c.begin_inner-inner.ensures.made,
      inside_takes c.args.family.notifies p (options_left c.options.result) c.sought.result.inside (length c.args.buf.now) c.options.ensures c.sought.ensures.inside (c.options_ascend.ensures.held_message c.args.plain.now) c.requires.inner_room c.requires.inner_fits,
    )

pub add_option-requires : goal.add_option-requires
add_option-requires c =
    let p = parts_of c.args.plain.now in
    let held = c.write_options.ensures.outside (Datagram (bare p.kind c.args.code p.message_id p.token)) c.args.front.now c.begin-outer.ensures.made in (
      _,
      c.args.front.now,
      held,
      oscore_takes c.args.family.features p c.args.code c.args.value.now (options_left c.options.result) c.sought.result.outside (length c.args.front.now) c.options.ensures c.sought.ensures.outside c.requires.code c.requires.outer_room c.requires.outer_fits,
    )

pub write_behind-requires : goal.write_behind-requires
write_behind-requires c =
    let p = parts_of c.args.plain.now in
    let held = c.add_option.ensures.written _ _ (c.write_options.ensures.outside (Datagram (bare p.kind c.args.code p.message_id p.token)) c.args.front.now c.begin-outer.ensures.made) in (
      _,
      c.args.front.now,
      held,
      behind_takes c.args.family.features p c.args.code c.args.value.now (options_left c.options.result) (options_left c.options-2.result) c.sought.result.outside (length c.args.front.now) c.options.ensures c.options-2.ensures c.sought.ensures.outside c.requires.code (c.options_ascend.ensures.held_message c.args.plain.now) c.requires.outer_room c.requires.outer_fits,
    )

pub unreachable-requires : goal.unreachable-requires
unreachable-requires c =
    let p = parts_of c.args.plain.now in
    let held = c.write_options.ensures.inside (Plaintext (bare_inner p.code)) c.args.buf.now c.begin_inner-inner.ensures.made in
    let takes = payload_takes c.args.family.notifies p (options_left c.options.result) c.payload.result.now c.sought.result.inside (length c.args.buf.now) c.options.ensures c.payload.ensures c.sought.ensures.inside c.requires.inner_room c.requires.inner_fits in
    not_err c.payload-2.result _ c.in_default.is
    (taken_either c.payload.result.now c.payload-2.result (λ empty. (c.payload-2.ensures.nothing empty).0) (λ some. c.payload-2.ensures.accepts _ _ held some takes))

pub returns-clause-outside : goal.returns-clause-outside
returns-clause-outside c =
    let p = parts_of c.args.plain.now in
    let held = c.write_behind.ensures.written _ _ (c.add_option.ensures.written _ _ (c.write_options.ensures.outside (Datagram (bare p.kind c.args.code p.message_id p.token)) c.args.front.now c.begin-outer.ensures.made)) in
    let whole = outside_held c.args.family.features p c.args.code c.args.value.now (options_left c.options.result) (options_left c.options-2.result) c.sought.result.outside c.write_behind.new.outer c.args.front.now c.options.ensures c.options-2.ensures c.sought.ensures.outside held in
    search rules

pub returns-clause-outer_length : goal.returns-clause-outer_length
returns-clause-outer_length c =
    let p = parts_of c.args.plain.now in
    let held = c.write_behind.ensures.written _ _ (c.add_option.ensures.written _ _ (c.write_options.ensures.outside (Datagram (bare p.kind c.args.code p.message_id p.token)) c.args.front.now c.begin-outer.ensures.made)) in
    let whole = outside_held c.args.family.features p c.args.code c.args.value.now (options_left c.options.result) (options_left c.options-2.result) c.sought.result.outside c.write_behind.new.outer c.args.front.now c.options.ensures c.options-2.ensures c.sought.ensures.outside held in
    (c.finish.ensures.length _ _ whole).0

pub returns-clause-inside : goal.returns-clause-inside
returns-clause-inside c =
    let p = parts_of c.args.plain.now in
    let held = c.in-Ok.ensures.taken _ _ (c.write_options.ensures.inside (Plaintext (bare_inner p.code)) c.args.buf.now c.begin_inner-inner.ensures.made) in
    let whole = inside_held c.args.family.notifies p (options_left c.options.result) c.payload.result.now c.sought.result.inside c.payload-2.new.self c.args.buf.now c.options.ensures c.payload.ensures c.sought.ensures.inside held in
    search rules

pub returns-clause-inner_length : goal.returns-clause-inner_length
returns-clause-inner_length c =
    let p = parts_of c.args.plain.now in
    let held = c.in-Ok.ensures.taken _ _ (c.write_options.ensures.inside (Plaintext (bare_inner p.code)) c.args.buf.now c.begin_inner-inner.ensures.made) in
    let whole = inside_held c.args.family.notifies p (options_left c.options.result) c.payload.result.now c.sought.result.inside c.payload-2.new.self c.args.buf.now c.options.ensures c.payload.ensures c.sought.ensures.inside held in
    (c.finish-2.ensures.length _ _ whole).0
