use Rattle.std.proofs.Common.{rules, List, ◌++◌, length, ap, subst}
use Rattle.std.specs.Prelude.{option_copied}
use Rattle.osc_coap.specs.OptionSpelling.{Entry}
use Rattle.osc_coap.specs.Views.{options_left}
use Rattle.osc_coap.specs.Writer.{Holds}
use Rattle.osc_coap.specs.Writing.{Draft, with_options}
use Rattle.osc_protect.specs.Split.{Inside, Outside, option_with}
use Rattle.osc_protect.proofs.Splits.{grown, takes_on, with_options-append}
use Rattle.osc_protect.proofs.split.write_options.Goals as goal

pub write_option-requires : goal.write_option-requires
write_option-requires c =
    let r = c.requires.outer in
    let so_far = c.loop-number.invariant.outside (r.0) (r.1) r.2 in (
      with_options (r.0) so_far.0,
      r.1,
      so_far.1,
      takes_on (r.0) (length (r.1)) _ so_far.0 (Outside c.loop-number.sought.outside) (c.in-Some.number, c.in-Some.value.now) (option_copied c.place.result.1.outside) (options_left c.loop-number.number-iterator) (options_left c.next.new.self)
          r.3 so_far.2 c.place.ensures.outside c.in-Some.ensures.steps,
    )

pub write_option-requires-in-loop-number : goal.write_option-requires-in-loop-number
write_option-requires-in-loop-number c =
    let r = c.requires.inner in
    let so_far = c.loop-number.invariant.inside (r.0) (r.1) r.2 in (
      with_options (r.0) so_far.0,
      r.1,
      so_far.1,
      takes_on (r.0) (length (r.1)) _ so_far.0 (Inside c.loop-number.sought.inside) (c.in-Some.number, c.in-Some.value.now) (option_copied c.place.result.1.inside) (options_left c.loop-number.number-iterator) (options_left c.next.new.self)
          r.3 so_far.2 c.place.ensures.inside c.in-Some.ensures.steps,
    )

pub loop-number-preserved : goal.loop-number-preserved
loop-number-preserved c =
    let number = c.in-Some.number in
    let entry : Entry = (number, c.in-Some.value.now) in
    let before : List Entry = options_left c.loop-number.number-iterator in
    let rest : List Entry = options_left c.next.new.self in
    let outside = option_copied c.place.result.1.outside in
    let inside = option_copied c.place.result.1.inside in
    record {
      can_next = search rules;
      is_finite = search rules;
      same_outer = search rules;
      same_inner = search rules;
      outside = λ draft old h.
          let so_far = c.loop-number.invariant.outside draft old h in (
            so_far.0 ++ option_with number outside,
            subst (λ (d : Draft). Holds c.write_option.new.writer d old) (with_options-append draft so_far.0 (option_with number outside)) (c.write_option.ensures.written _ _ so_far.1),
            grown _ so_far.0 (Outside c.loop-number.sought.outside) (Outside c.place.result.0.outside) entry outside before rest so_far.2 c.place.ensures.outside (ap Outside c.place.ensures.outer_behind) c.in-Some.ensures.steps,
          );
      inside = λ draft old h.
          let so_far = c.loop-number.invariant.inside draft old h in (
            so_far.0 ++ option_with number inside,
            subst (λ (d : Draft). Holds c.write_option-in-loop-number.new.writer d old) (with_options-append draft so_far.0 (option_with number inside)) (c.write_option-in-loop-number.ensures.written _ _ so_far.1),
            grown _ so_far.0 (Inside c.loop-number.sought.inside) (Inside c.place.result.0.inside) entry inside before rest so_far.2 c.place.ensures.inside (ap Inside c.place.ensures.inner_behind) c.in-Some.ensures.steps,
          );
    }
