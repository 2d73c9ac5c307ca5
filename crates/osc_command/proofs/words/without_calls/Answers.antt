use Rattle.osc_command.proofs.words.without_calls.Goals as goal

pub returns : goal.returns
returns c = rw (c.after_help.ensures, c.about.ensures, c.version.ensures, c.in_ok-command.ensures.0) c.new.ensures.local
