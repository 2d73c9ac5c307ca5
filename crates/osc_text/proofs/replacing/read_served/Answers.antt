use Rattle.std.proofs.Common.{subst, sym}
use Rattle.osc_text.specs.ReplaceEvents.{SaysStart, server_by}
use Rattle.osc_text.specs.ReplaceReading.{ReadsContext, six_parts}
use Rattle.osc_text.proofs.ReplaceSpellings.{no_begin, no_context, no_start, no_words, spelled_as, start_says}
use Rattle.osc_text.proofs.replacing.read_served.Goals as goal

pub returns-in_default-clause-refused : goal.returns-in_default-clause-refused
returns-in_default-clause-refused c = no_words server_by SaysStart c.args.line.now (sym c.in_default.ensures)

pub returns-in_default-read_start-clause-refused : goal.returns-in_default-read_start-clause-refused
returns-in_default-read_start-clause-refused c =
    let w = six_parts c.in-Some.words in
    no_begin server_by SaysStart c.args.line.now w (sym c.in-Some.ensures) (λ start. no_start w.5 start c.in_default-read_start.ensures.seen)

pub returns-in-Some-2-clause-read : goal.returns-in-Some-2-clause-read
returns-in-Some-2-clause-read c =
    let w = six_parts c.in-Some.words in
    let (k, said, of) = subst (ReadsContext w) c.in-Some-2.is c.in_ok-context.ensures in
    (spelled_as server_by SaysStart c.args.line.now w k _ _ (sym c.in-Some.ensures) said of.2 of.1 (start_says w.5 _ c.in-Some-read_start.ensures.said (sym c.in-Some-read_start.ensures.seen)), tt)

pub returns-in-None-clause-refused : goal.returns-in-None-clause-refused
returns-in-None-clause-refused c =
    let w = six_parts c.in-Some.words in
    no_context server_by SaysStart c.args.line.now w (sym c.in-Some.ensures) (subst (ReadsContext w) c.in-None.is c.in_ok-context.ensures)
