use Rattle.std.proofs.Common.{rules, length, refl}
use Rattle.std.proofs.Common.{subst}
use Rattle.osc_coap.specs.Views.{options_left, parts_of}
use Rattle.osc_coap.specs.Writer.{Holds}
use Rattle.osc_coap.specs.Writing.{Draft}
use Rattle.osc_proxy.specs.Splitting.{between}
use Rattle.osc_proxy.proofs.Askings.{asked_takes, before_options, behind_takes, not_err, payload_takes, scheme_takes, taken_either, whole}
use Rattle.osc_proxy.proofs.Sequences.{takes_part}
use Rattle.osc_proxy.proofs.asking.write_asked.Goals as goal

pub write_between-requires : goal.write_between-requires
write_between-requires c =
    let p = parts_of c.args.request.now in
    let up = c.options_ascend.ensures.held_message c.args.request.now in
    let all = asked_takes p c.args.scheme.now (options_left c.options.result) p.options (length c.args.out.now) c.options.ensures refl up c.requires.code c.requires.room c.requires.fits in (
      before_options p c.args.scheme.now,
      c.args.out.now,
      c.begin-writer.ensures.made,
      takes_part (length c.args.out.now) (before_options p c.args.scheme.now) (between 0 39 (options_left c.options.result)) _ all,
    )

pub add_option-requires : goal.add_option-requires
add_option-requires c =
    let p = parts_of c.args.request.now in
    let up = c.options_ascend.ensures.held_message c.args.request.now in
    let all = asked_takes p c.args.scheme.now (options_left c.options.result) p.options (length c.args.out.now) c.options.ensures refl up c.requires.code c.requires.room c.requires.fits in (
      _,
      c.args.out.now,
      c.write_between.ensures.written (before_options p c.args.scheme.now) c.args.out.now c.begin-writer.ensures.made,
      scheme_takes p c.args.scheme.now (options_left c.options.result) (length c.args.out.now) all,
    )

pub write_between-requires-2 : goal.write_between-requires-2
write_between-requires-2 c =
    let p = parts_of c.args.request.now in
    let up = c.options_ascend.ensures.held_message c.args.request.now in
    let all = asked_takes p c.args.scheme.now (options_left c.options.result) (options_left c.options-2.result) (length c.args.out.now) c.options.ensures c.options-2.ensures up c.requires.code c.requires.room c.requires.fits in (
      _,
      c.args.out.now,
      c.add_option.ensures.written _ _ (c.write_between.ensures.written (before_options p c.args.scheme.now) c.args.out.now c.begin-writer.ensures.made),
      behind_takes p c.args.scheme.now (options_left c.options.result) (options_left c.options-2.result) (length c.args.out.now) all,
    )

pub unreachable-requires : goal.unreachable-requires
unreachable-requires c =
    let p = parts_of c.args.request.now in
    let up = c.options_ascend.ensures.held_message c.args.request.now in
    let held = c.write_between-2.ensures.written _ _ (c.add_option.ensures.written _ _ (c.write_between.ensures.written (before_options p c.args.scheme.now) c.args.out.now c.begin-writer.ensures.made)) in
    let takes = payload_takes p c.args.scheme.now (options_left c.options.result) (options_left c.options-2.result) c.payload.result.now (length c.args.out.now) c.options.ensures c.options-2.ensures c.payload.ensures up c.requires.code c.requires.room c.requires.fits in
    not_err c.payload-2.result _ c.in_default.is
    (taken_either c.payload.result.now c.payload-2.result (λ empty. (c.payload-2.ensures.nothing empty).0) (λ some. c.payload-2.ensures.accepts _ _ held some takes))

pub returns-clause-written : goal.returns-clause-written
returns-clause-written c =
    let p = parts_of c.args.request.now in
    let up = c.options_ascend.ensures.held_message c.args.request.now in
    let held = c.write_between-2.ensures.written _ _ (c.add_option.ensures.written _ _ (c.write_between.ensures.written (before_options p c.args.scheme.now) c.args.out.now c.begin-writer.ensures.made)) in
    let all = subst (λ (d : Draft). Holds c.payload-2.new.self d c.args.out.now) (whole p c.args.scheme.now (options_left c.options.result) (options_left c.options-2.result) c.payload.result.now c.options.ensures c.options-2.ensures c.payload.ensures up) (c.in-Ok.ensures.taken _ _ held) in
    search rules
