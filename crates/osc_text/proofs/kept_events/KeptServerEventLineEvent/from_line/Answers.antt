use Rattle.std.proofs.Common.{◌≢◌, codes, rules}
use Rattle.osc_text.specs.InputEvents.{SpellsEvent, SpellsKept}
use Rattle.osc_text.specs.KeptSeen.{kept_seen}
use Rattle.osc_text.specs.ServedReading.{event_read, event_seen, kept_of}
use Rattle.osc_text.proofs.InputSpellings.{one_spelling, server_inverse}
use Rattle.osc_text.proofs.KeptSpellings.{kept_refuses, none_kept, server_keeps}
use Rattle.osc_text.proofs.kept_events.KeptServerEventLineEvent.from_line.Goals as goal

pub returns-in-Some-clause-refused : goal.returns-in-Some-clause-refused
returns-in-Some-clause-refused c =
    let other : c.args.line.now ≢ codes "restart" = search rules in
    let s = rw c.in-Some.is at c.in_ok-event.ensures.read in
    kept_refuses SpellsEvent SpellsKept kept_of server_keeps c.args.line.now other (one_spelling SpellsEvent event_read server_inverse) kept_seen (event_seen c.in-Some.event) c.kept_event.result s.0 c.kept_event.ensures.seen

pub returns-in-None-clause-refused : goal.returns-in-None-clause-refused
returns-in-None-clause-refused c =
    let other : c.args.line.now ≢ codes "restart" = search rules in
    none_kept SpellsEvent SpellsKept kept_of server_keeps c.args.line.now other (rw c.in-None.is at c.in_ok-event.ensures.refused)
