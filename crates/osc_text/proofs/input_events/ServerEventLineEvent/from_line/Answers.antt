use Rattle.std.proofs.Common.{None, Some}
use Rattle.osc_text.specs.InputEvents.{SpellsEvent}
use Rattle.osc_text.specs.ServedReading.{IsOfRun, event_read, event_seen}
use Rattle.osc_text.proofs.InputSpellings.{event_at, no_words, server_inverse, words_spell}
use Rattle.osc_text.proofs.input_events.ServerEventLineEvent.from_line.Goals as goal

pub returns-in-Some : goal.returns-in-Some
returns-in-Some c =
    let line = c.args.line.now in
    let words = Some (c.in-Some.verb.now, c.in-Some.fields.now) in
    let s = words_spell SpellsEvent event_read server_inverse event_seen IsOfRun line _ c.read_fields.result (event_at line words c.in-Some.ensures) c.read_fields.ensures.seen c.read_fields.ensures.room in
    record { read = s.0; refused = s.1 }

pub returns-in-None : goal.returns-in-None
returns-in-None c =
    let line = c.args.line.now in
    record { read = tt; refused = no_words SpellsEvent event_read server_inverse line (event_at line None c.in-None.ensures) }
