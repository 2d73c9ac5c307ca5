use Rattle.std.proofs.Common.{rules}
use Rattle.osc_text.specs.InputEvents.{SpellsEvent}
use Rattle.osc_text.specs.InputReading.{SpellsNone}
use Rattle.osc_text.specs.PeerReading.{SpellsAs, SpellsOwn, served_of}
use Rattle.osc_text.proofs.PeerSpellings.{none_read}
use Rattle.osc_text.proofs.peer_events.PeerEventLineEvent.from_line.Goals as goal

pub returns-clause-refused : goal.returns-clause-refused
returns-clause-refused c =
    let line = c.args.line.now in
    let own : SpellsNone SpellsOwn line = search rules in
    let at_server : SpellsNone (SpellsAs SpellsEvent served_of) line = search rules in
    none_read line c.read_asked.result own at_server c.read_asked.ensures.refused
