use Rattle.std.proofs.Common.{rules, List, ◌∷◌, [], ◌++◌, ◌∙◌, length, subst, sym, append_assoc}
use Rattle.osc_coap.specs.OptionSpelling.{Entry}
use Rattle.osc_coap.specs.Views.{options_left}
use Rattle.osc_coap.specs.Writer.{Holds}
use Rattle.osc_coap.specs.Writing.{Draft, with_options}
use Rattle.osc_proxy.specs.Splitting.{between}
use Rattle.osc_proxy.proofs.Insertion.{grown}
use Rattle.osc_proxy.proofs.Sequences.{takes_next, with_options-append}
use Rattle.osc_proxy.proofs.writing.write_between.Goals as goal

pub add_option-requires : goal.add_option-requires
add_option-requires c =
    let r = c.requires in
    let so_far = c.loop-number.invariant.written (r.0) (r.1) r.2 in
    let all = grown c.args.least c.args.most _ so_far.0 c.in-Some.number c.in-Some.value.now (options_left c.loop-number.number-iterator) (options_left c.next.new.self) so_far.2 c.in-Some.ensures.steps c.if-least-number.true c.if-number-most.true in (
      with_options (r.0) so_far.0,
      r.1,
      so_far.1,
      takes_next (length (r.1)) (r.0) _ so_far.0 c.in-Some.number c.in-Some.value.now (between c.args.least c.args.most (options_left c.next.new.self)) r.3 all,
    )

pub loop-number-preserved-then-number-most : goal.loop-number-preserved-then-number-most
loop-number-preserved-then-number-most c =
    let entry : Entry = (c.in-Some.number, c.in-Some.value.now) in
    let one : List Entry = entry ∷ [] in
    record {
      can_next = search rules;
      is_finite = search rules;
      same = search rules;
      written = λ draft old h.
          let so_far = c.loop-number.invariant.written draft old h in
          let all = grown c.args.least c.args.most _ so_far.0 c.in-Some.number c.in-Some.value.now (options_left c.loop-number.number-iterator) (options_left c.next.new.self) so_far.2 c.in-Some.ensures.steps c.if-least-number.true c.if-number-most.true in (
            so_far.0 ++ one,
            subst (λ (d : Draft). Holds c.add_option.new.self d old) (with_options-append draft so_far.0 one) (c.add_option.ensures.written _ _ so_far.1),
            all ∙ sym (append_assoc so_far.0 one _),
          );
    }
