use Rattle.osc_command.proofs.words.call_of.Goals as goal

pub with_words-requires : goal.with_words-requires
with_words-requires c = rw (c.after_help-command.ensures, c.about.ensures) c.new.ensures.local
