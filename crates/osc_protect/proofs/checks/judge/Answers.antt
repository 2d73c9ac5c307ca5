use Rattle.std.proofs.Common.{rules, ◌≡◌, true, Some, None}
use Rattle.osc_coap.specs.Views.{parts_of}
use Rattle.osc_protect.specs.Found.{first_number}
use Rattle.osc_protect.specs.OptionSets.{is_unsupported}
use Rattle.osc_protect.specs.Usage.{is_used}
use Rattle.osc_protect.proofs.Supported.{lowest_unsupported, none_first}
use Rattle.osc_protect.proofs.checks.judge.Goals as goal

pub returns-in-Some-clause-refused : goal.returns-in-Some-clause-refused
returns-in-Some-clause-refused c =
    let found : first_number (is_unsupported c.args.features) (parts_of c.args.plain.now).options ≡ Some c.in-Some.number = search rules in
    let used : is_used c.args.usage c.args.plain.now.kind c.args.plain.now.code ≡ true = search rules in
    (used, lowest_unsupported c.args.features _ _ (c.options_ascend.ensures.held_message c.args.plain.now) found)

pub returns-in-None-clause-accepted : goal.returns-in-None-clause-accepted
returns-in-None-clause-accepted c = λ _.
    let found : first_number (is_unsupported c.args.features) (parts_of c.args.plain.now).options ≡ None = search rules in
    let used : is_used c.args.usage c.args.plain.now.kind c.args.plain.now.code ≡ true = search rules in
    (used, none_first (is_unsupported c.args.features) (parts_of c.args.plain.now).options found)
