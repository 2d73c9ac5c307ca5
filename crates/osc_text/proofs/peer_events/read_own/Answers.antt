use Rattle.std.proofs.Common.{None, Some}
use Rattle.osc_text.specs.PeerReading.{SpellsOwn, own_line_read}
use Rattle.osc_text.specs.PeerSeen.{IsRoomyPeer, peer_seen}
use Rattle.osc_text.proofs.InputSpellings.{no_words, words_spell}
use Rattle.osc_text.proofs.PeerSpellings.{own_at, own_inverse, own_read_spells}
use Rattle.osc_text.proofs.peer_events.read_own.Goals as goal

pub returns-in-Some : goal.returns-in-Some
returns-in-Some c =
    let line = c.args.line.now in
    let is = own_at line (Some (c.in-Some.verb.now, c.in-Some.fields.now)) c.in-Some.ensures in
    let s = words_spell SpellsOwn own_line_read own_inverse peer_seen IsRoomyPeer line _ c.read_fields.result is c.read_fields.ensures.seen c.read_fields.ensures.room in
    record { read = own_read_spells line c.read_fields.result s.0; refused = s.1 }

pub returns-in-None : goal.returns-in-None
returns-in-None c = record { read = tt; refused = no_words SpellsOwn own_line_read own_inverse c.args.line.now (own_at c.args.line.now None c.in-None.ensures) }
