use Rattle.std.proofs.Common.{None, Some}
use Rattle.osc_text.specs.AskedEvents.{SpellsAsked}
use Rattle.osc_text.specs.AskedReading.{HasRoom, asked_read, asked_seen}
use Rattle.osc_text.proofs.InputSpellings.{no_words, words_spell}
use Rattle.osc_text.proofs.AskedSpellings.{asked_at, client_inverse}
use Rattle.osc_text.proofs.asked_events.ClientEventLineEvent.from_line.Goals as goal

pub returns-in-Some : goal.returns-in-Some
returns-in-Some c =
    let is = asked_at c.args.line.now (Some (c.in-Some.verb.now, c.in-Some.fields.now)) c.in-Some.ensures in
    let s = words_spell SpellsAsked asked_read client_inverse asked_seen HasRoom c.args.line.now _ c.read_fields.result is c.read_fields.ensures.seen c.read_fields.ensures.room in
    record { read = s.0; refused = s.1 }

pub returns-in-None : goal.returns-in-None
returns-in-None c = record { read = tt; refused = no_words SpellsAsked asked_read client_inverse c.args.line.now (asked_at c.args.line.now None c.in-None.ensures) }
