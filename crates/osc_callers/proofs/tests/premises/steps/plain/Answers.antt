use Rattle.std.proofs.Common.{◌∙◌, sym, ap}
use Rattle.osc_coap.specs.OptionNumbers as options
use Rattle.osc_coap.specs.Search.{first_of, values_at}
use Rattle.osc_coap.specs.Views.{parts_of}
use Rattle.osc_callers.proofs.GoingThrough.{no_echo_inside}
use Rattle.osc_callers.proofs.tests.premises.steps.plain.Goals as goal

pub returns-in-None : goal.returns-in-None
returns-in-None c = no_echo_inside (parts_of c.in-Ok.message) (ap (λ os. first_of (values_at options.echo os)) (sym c.options.ensures) ∙ sym c.in-None.ensures)
