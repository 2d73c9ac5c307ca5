use Rattle.std.proofs.Common.{◌∙◌}
use Rattle.osc_command.proofs.LocalCommands.{global_of, kept_global}
use Rattle.osc_command.proofs.words.arg_of.Goals as goal

pub returns-in-Alone : goal.returns-in-Alone
returns-in-Alone c = global_of c.help.ensures ∙ global_of c.required.ensures ∙ global_of c.value_name.ensures ∙ c.new.ensures.optional.1

pub returns-in-Nothing : goal.returns-in-Nothing
returns-in-Nothing c = global_of c.action.ensures ∙ c.option_of.ensures

pub returns-in-NothingBeside : goal.returns-in-NothingBeside
returns-in-NothingBeside c = kept_global _ _ c.requires_arg.result c.requires_arg.ensures (λ a. global_of c.action-in-NothingBeside.ensures ∙ c.option_of-in-NothingBeside.ensures)

pub returns-in-Required : goal.returns-in-Required
returns-in-Required c = global_of c.required-in-Required.ensures ∙ c.valued-in-Required.ensures

pub returns-in-Default : goal.returns-in-Default
returns-in-Default c = global_of c.default_value.ensures ∙ c.valued-in-Default.ensures

pub returns-in_ok-conflicts_with-in-ValueFor : goal.returns-in_ok-conflicts_with-in-ValueFor
returns-in_ok-conflicts_with-in-ValueFor c = kept_global _ _ c.conflicts_with-in-ValueFor.result c.conflicts_with-in-ValueFor.ensures (λ a. global_of c.in_ok-conflicts_with-in-ValueFor.ensures.0 ∙ c.valued-in-ValueFor.ensures)

pub returns-in-NothingWithout : goal.returns-in-NothingWithout
returns-in-NothingWithout c = kept_global _ _ c.conflicts_with-in-NothingWithout.result c.conflicts_with-in-NothingWithout.ensures (λ a. global_of c.action-in-NothingWithout.ensures ∙ c.option_of-in-NothingWithout.ensures)

pub returns-in-RequiredOneOf : goal.returns-in-RequiredOneOf
returns-in-RequiredOneOf c = global_of c.required-in-RequiredOneOf.ensures ∙ c.choice-in-RequiredOneOf.ensures

pub returns-in-AnyOf : goal.returns-in-AnyOf
returns-in-AnyOf c = global_of c.action-in-AnyOf.ensures ∙ c.choice-in-AnyOf.ensures
