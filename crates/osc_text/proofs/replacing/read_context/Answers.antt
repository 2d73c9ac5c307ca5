use Rattle.std.proofs.Common.{◌∙◌, ap, option_map, sym}
use Rattle.osc_text.specs.ReplaceReading.{keying_seen, six_parts}
use Rattle.osc_text.proofs.ReplaceSpellings.{reads_none, reads_words}
use Rattle.osc_text.proofs.replacing.read_context.Goals as goal

pub returns-in-Some : goal.returns-in-Some
returns-in-Some c = reads_words (six_parts c.args.words) (keying_seen c.in-Some.keying) c.derive.result (sym (ap (option_map keying_seen) c.in-Some.is) ∙ c.in_ok-keying.ensures) c.derive.ensures

pub returns-in-None : goal.returns-in-None
returns-in-None c = reads_none (six_parts c.args.words) (sym (ap (option_map keying_seen) c.in-None.is) ∙ c.in_ok-keying.ensures)
