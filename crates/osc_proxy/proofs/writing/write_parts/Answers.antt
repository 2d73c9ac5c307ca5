use Rattle.std.proofs.Common.{rules, List, ◌∷◌, [], ◌++◌, ◌∙◌, length, subst, sym, append_assoc}
use Rattle.osc_coap.specs.OptionSpelling.{Entry}
use Rattle.osc_coap.specs.Writer.{Holds}
use Rattle.osc_coap.specs.Writing.{Draft, with_options}
use Rattle.osc_proxy.specs.Splitting.{part_options}
use Rattle.osc_proxy.specs.UriViews.{parts_left}
use Rattle.osc_proxy.proofs.Insertion.{fits_on, grown_parts}
use Rattle.osc_proxy.proofs.Sequences.{takes_next, with_options-append}
use Rattle.osc_proxy.proofs.writing.write_parts.Goals as goal

pub add_option-requires : goal.add_option-requires
add_option-requires c =
    let r = c.requires.taken in
    let so_far = c.loop-part.invariant.written (r.0) (r.1) r.2 in
    let all = grown_parts c.args.number _ so_far.0 c.as_slice.result.now c.in-Some.part.now (parts_left c.loop-part.part-iterator) (parts_left c.next.new.self) so_far.2 c.in-Some.ensures.steps (c.as_slice.ensures.value ∙ c.in-Ok.ensures.accepted) in (
      with_options (r.0) so_far.0,
      r.1,
      so_far.1,
      takes_next (length (r.1)) (r.0) _ so_far.0 c.args.number c.as_slice.result.now (part_options c.args.number (parts_left c.next.new.self)) r.3 all,
    )

pub loop-part-preserved : goal.loop-part-preserved
loop-part-preserved c =
    let entry : Entry = (c.args.number, c.as_slice.result.now) in
    let one : List Entry = entry ∷ [] in
    record {
      can_next = search rules;
      is_finite = search rules;
      fine = fits_on (parts_left c.args.parts) (parts_left c.loop-part.part-iterator) (parts_left c.next.new.self) c.in-Some.part.now c.loop-part.invariant.fine c.in-Some.ensures.steps c.requires.fine;
      same = search rules;
      written = λ draft old h.
          let so_far = c.loop-part.invariant.written draft old h in
          let all = grown_parts c.args.number _ so_far.0 c.as_slice.result.now c.in-Some.part.now (parts_left c.loop-part.part-iterator) (parts_left c.next.new.self) so_far.2 c.in-Some.ensures.steps (c.as_slice.ensures.value ∙ c.in-Ok.ensures.accepted) in (
            so_far.0 ++ one,
            subst (λ (d : Draft). Holds c.add_option.new.self d old) (with_options-append draft so_far.0 one) (c.add_option.ensures.written _ _ so_far.1),
            all ∙ sym (append_assoc so_far.0 one _),
          );
    }
