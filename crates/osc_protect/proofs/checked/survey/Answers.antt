use Rattle.std.proofs.Common.{rules, refl, ℕ, ◌+◌, ◌<◌, List, ap, subst, ◌∙◌, inl, inr}
use Rattle.std.specs.Prelude.{option_copied}
use Rattle.osc_coap.specs.OptionSpelling.{Entry, last_number, spelling_length}
use Rattle.osc_coap.specs.Views.{options_left}
use Rattle.osc_protect.specs.Split.{Behind, Inside, Outside, options_on}
use Rattle.osc_protect.proofs.Splits.{at_none, counted}
use Rattle.osc_protect.proofs.checked.survey.Goals as goal

pub loop-number-preserved : goal.loop-number-preserved
loop-number-preserved c =
    let entry : Entry = (c.in-Some.number, c.in-Some.value.now) in
    let before : List Entry = options_left c.loop-number.number-iterator in
    let rest : List Entry = options_left c.next.new.self in
    let outer = c.loop-number.outer in
    let inner = c.loop-number.inner in
    let tally = c.loop-number.behind in
    let outside = option_copied c.place.result.1.outside in
    let inside = option_copied c.place.result.1.inside in
    let placed = option_copied c.place.result.1.behind in
    let behind = ap Outside c.place.ensures.outer_behind in
    let inner_behind = ap Inside c.place.ensures.inner_behind in
    record {
      can_next = search rules;
      is_finite = search rules;
      supported = search rules;
      observes = search rules;
      outer = c.in_ok-outer.ensures.length (options_on (Outside c.place.result.0.outside) rest)
          ∙ counted (λ (es : List Entry). outer.len + spelling_length outer.number es) (Outside c.loop-number.sought.outside) (Outside c.place.result.0.outside) entry outside before rest c.place.ensures.outside behind c.in-Some.ensures.steps
          ∙ c.loop-number.invariant.outer;
      last = c.in_ok-outer.ensures.last (options_on (Outside c.place.result.0.outside) rest)
          ∙ counted (last_number outer.number) (Outside c.loop-number.sought.outside) (Outside c.place.result.0.outside) entry outside before rest c.place.ensures.outside behind c.in-Some.ensures.steps
          ∙ c.loop-number.invariant.last;
      behind = c.in_ok-behind.ensures.length (options_on Behind rest)
          ∙ counted (λ (es : List Entry). tally.len + spelling_length tally.number es) Behind Behind entry placed before rest c.place.ensures.behind refl c.in-Some.ensures.steps
          ∙ c.loop-number.invariant.behind;
      inner = c.in_ok-inner.ensures.length (options_on (Inside c.place.result.0.inside) rest)
          ∙ counted (λ (es : List Entry). inner.len + spelling_length inner.number es) (Inside c.loop-number.sought.inside) (Inside c.place.result.0.inside) entry inside before rest c.place.ensures.inside inner_behind c.in-Some.ensures.steps
          ∙ c.loop-number.invariant.inner;
      outer_fits = search rules;
      behind_fits = search rules;
      inner_fits = search rules;
    }

pub returns-in_err-outer-clause-nothing : goal.returns-in_err-outer-clause-nothing
returns-in_err-outer-clause-nothing c =
    let entry : Entry = (c.in-Some.number, c.in-Some.value.now) in
    let before : List Entry = options_left c.loop-number.number-iterator in
    let rest : List Entry = options_left c.next.new.self in
    let tally = c.loop-number.outer in
    let long = c.in_err-outer.ensures.too_long (options_on (Outside c.place.result.0.outside) rest) in
    let all = counted (λ (es : List Entry). tally.len + spelling_length tally.number es) (Outside c.loop-number.sought.outside) (Outside c.place.result.0.outside) entry (option_copied c.place.result.1.outside) before rest c.place.ensures.outside (ap Outside c.place.ensures.outer_behind) c.in-Some.ensures.steps
    ∙ c.loop-number.invariant.outer in
    at_none c.from_residual.result (inr (inl (subst (λ (n : ℕ). 65535 < n) all long)))

pub returns-in_err-inner-clause-nothing : goal.returns-in_err-inner-clause-nothing
returns-in_err-inner-clause-nothing c =
    let entry : Entry = (c.in-Some.number, c.in-Some.value.now) in
    let before : List Entry = options_left c.loop-number.number-iterator in
    let rest : List Entry = options_left c.next.new.self in
    let tally = c.loop-number.inner in
    let long = c.in_err-inner.ensures.too_long (options_on (Inside c.place.result.0.inside) rest) in
    let all = counted (λ (es : List Entry). tally.len + spelling_length tally.number es) (Inside c.loop-number.sought.inside) (Inside c.place.result.0.inside) entry (option_copied c.place.result.1.inside) before rest c.place.ensures.inside (ap Inside c.place.ensures.inner_behind) c.in-Some.ensures.steps
    ∙ c.loop-number.invariant.inner in
    at_none c.from_residual-in_err-inner.result (inr (inr (inr (subst (λ (n : ℕ). 65535 < n) all long))))

pub returns-in_err-behind-clause-nothing : goal.returns-in_err-behind-clause-nothing
returns-in_err-behind-clause-nothing c =
    let entry : Entry = (c.in-Some.number, c.in-Some.value.now) in
    let before : List Entry = options_left c.loop-number.number-iterator in
    let rest : List Entry = options_left c.next.new.self in
    let tally = c.loop-number.behind in
    let long = c.in_err-behind.ensures.too_long (options_on Behind rest) in
    let all = counted (λ (es : List Entry). tally.len + spelling_length tally.number es) Behind Behind entry (option_copied c.place.result.1.behind) before rest c.place.ensures.behind refl c.in-Some.ensures.steps
    ∙ c.loop-number.invariant.behind in
    at_none c.from_residual-in_err-behind.result (inr (inr (inl (subst (λ (n : ℕ). 65535 < n) all long))))
