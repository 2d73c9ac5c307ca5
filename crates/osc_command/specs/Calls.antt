-- For the proofs: what the words of a call can ask for.
use Rattle.std.specs.Prelude.{◌≡◌, false, true}
use Rattle.clap.specs.declared.builder.command.Command.{Command}
use Rattle.clap.specs.declared.builder.command.Command.TheViews.{out-Command}

-- no argument of the command is also an argument of its subcommands (how the code is seen)
abbrev pub IsLocal : Command → Type 0
IsLocal command = (out-Command command).has_globals ≡ false

-- the command can be called only with a subcommand (how the code is seen)
abbrev pub NeedsSubcommand : Command → Type 0
NeedsSubcommand command = (out-Command command).subcommand_required ≡ true
