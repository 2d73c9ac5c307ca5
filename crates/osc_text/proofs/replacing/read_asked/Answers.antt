use Rattle.std.proofs.Common.{◌^◌, subst, sym}
use Rattle.osc_text.specs.Inputs.{SaysBelow}
use Rattle.osc_text.specs.ReplaceEvents.{client_by}
use Rattle.osc_text.specs.ReplaceReading.{ReadsContext, six_parts}
use Rattle.osc_text.proofs.InputSpellings.{number_says}
use Rattle.osc_text.proofs.ReplaceSpellings.{no_begin, no_context, no_number_said, no_words, spelled_as}
use Rattle.osc_text.proofs.replacing.read_asked.Goals as goal

pub returns-in_default-clause-refused : goal.returns-in_default-clause-refused
returns-in_default-clause-refused c = no_words client_by (SaysBelow (2 ^ 40)) c.args.line.now (sym c.in_default.ensures)

pub returns-in_default-read_next-clause-refused : goal.returns-in_default-read_next-clause-refused
returns-in_default-read_next-clause-refused c =
    let w = six_parts c.in-Some.words in
    no_begin client_by (SaysBelow (2 ^ 40)) c.args.line.now w (sym c.in-Some.ensures) (λ n. no_number_said (2 ^ 40) w.5 n c.in_default-read_next.ensures)

pub returns-in-Some-2-clause-read : goal.returns-in-Some-2-clause-read
returns-in-Some-2-clause-read c =
    let w = six_parts c.in-Some.words in
    let (k, said, of) = subst (ReadsContext w) c.in-Some-2.is c.in_ok-context.ensures in
    (spelled_as client_by (SaysBelow (2 ^ 40)) c.args.line.now w k _ _ (sym c.in-Some.ensures) said of.2 of.0 (number_says (2 ^ 40) w.5 _ (sym c.in-Some-read_next.ensures)), tt)

pub returns-in-None-clause-refused : goal.returns-in-None-clause-refused
returns-in-None-clause-refused c =
    let w = six_parts c.in-Some.words in
    no_context client_by (SaysBelow (2 ^ 40)) c.args.line.now w (sym c.in-Some.ensures) (subst (ReadsContext w) c.in-None.is c.in_ok-context.ensures)
