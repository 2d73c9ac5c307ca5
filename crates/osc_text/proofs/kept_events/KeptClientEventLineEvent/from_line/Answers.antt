use Rattle.std.proofs.Common.{◌≢◌, codes, rules}
use Rattle.osc_text.specs.AskedEvents.{SpellsAsked, SpellsKeptAsked}
use Rattle.osc_text.specs.KeptSeen.{kept_asked_seen}
use Rattle.osc_text.specs.AskedReading.{asked_read, asked_seen, kept_asked_of}
use Rattle.osc_text.proofs.InputSpellings.{one_spelling}
use Rattle.osc_text.proofs.AskedSpellings.{client_inverse}
use Rattle.osc_text.proofs.KeptSpellings.{client_keeps, kept_refuses, none_kept}
use Rattle.osc_text.proofs.kept_events.KeptClientEventLineEvent.from_line.Goals as goal

pub returns-in-Some-clause-refused : goal.returns-in-Some-clause-refused
returns-in-Some-clause-refused c =
    let other : c.args.line.now ≢ codes "restart" = search rules in
    kept_refuses SpellsAsked SpellsKeptAsked kept_asked_of client_keeps c.args.line.now other (one_spelling SpellsAsked asked_read client_inverse) kept_asked_seen (asked_seen c.in-Some.event) c.kept_asked.result
    (rw c.in-Some.is at c.in_ok-event.ensures.read).0 c.kept_asked.ensures.seen

pub returns-in-None-clause-refused : goal.returns-in-None-clause-refused
returns-in-None-clause-refused c =
    let other : c.args.line.now ≢ codes "restart" = search rules in
    none_kept SpellsAsked SpellsKeptAsked kept_asked_of client_keeps c.args.line.now other (rw c.in-None.is at c.in_ok-event.ensures.refused)
