use Rattle.std.proofs.Common.{rules, List, ◌++◌, length, refl, subst}
use Rattle.std.specs.Prelude.{option_copied}
use Rattle.osc_coap.specs.OptionSpelling.{Entry}
use Rattle.osc_coap.specs.Views.{options_left}
use Rattle.osc_coap.specs.Writer.{Holds}
use Rattle.osc_coap.specs.Writing.{Draft, with_options}
use Rattle.osc_protect.specs.Split.{Behind, option_with}
use Rattle.osc_protect.proofs.Splits.{grown, takes_on, with_options-append}
use Rattle.osc_protect.proofs.split.write_behind.Goals as goal

pub write_option-requires : goal.write_option-requires
write_option-requires c =
    let r = c.requires in
    let so_far = c.loop-number.invariant.written (r.0) (r.1) r.2 in (
      with_options (r.0) so_far.0,
      r.1,
      so_far.1,
      takes_on (r.0) (length (r.1)) _ so_far.0 Behind (c.in-Some.number, c.in-Some.value.now) (option_copied c.behind_value.result) (options_left c.loop-number.number-iterator) (options_left c.next.new.self)
          r.3 so_far.2 c.behind_value.ensures c.in-Some.ensures.steps,
    )

pub loop-number-preserved : goal.loop-number-preserved
loop-number-preserved c =
    let number = c.in-Some.number in
    let entry : Entry = (number, c.in-Some.value.now) in
    let before : List Entry = options_left c.loop-number.number-iterator in
    let rest : List Entry = options_left c.next.new.self in
    let placed = option_copied c.behind_value.result in
    record {
      can_next = search rules;
      is_finite = search rules;
      same = search rules;
      written = λ draft old h.
          let so_far = c.loop-number.invariant.written draft old h in (
            so_far.0 ++ option_with number placed,
            subst (λ (d : Draft). Holds c.write_option.new.writer d old) (with_options-append draft so_far.0 (option_with number placed)) (c.write_option.ensures.written _ _ so_far.1),
            grown _ so_far.0 Behind Behind entry placed before rest so_far.2 c.behind_value.ensures refl c.in-Some.ensures.steps,
          );
    }
