use Rattle.std.proofs.Common.{◌≡◌, ℕ, ◌≤◌, ◌+◌, ◌-◌, List, Option, Some, ap, arith, subst}
use Rattle.std.specs.Option.{option_map}
use Rattle.osc_coap.specs.Interpreted.{interpreted}
use Rattle.osc_coap.specs.OptionNumbers as options
use Rattle.osc_coap.specs.OptionSpelling.{Entry}
use Rattle.osc_kept_ends.specs.EchoNumber.{echo_of}
use Rattle.osc_fresh.specs.declared.wishes.LastChallenge.{LastChallenge}
use Rattle.osc_fresh.specs.Wishing.{Asked}
use Rattle.osc_fresh.proofs.wishes.Wishes.age.Goals as goal

abbrev asked : LastChallenge → Asked
asked l = record { number = l.number; moment = l.moment }

back_again : (a b : ℕ) → a ≤ b → a + (b - a) ≡ b
back_again a b h = omega (arith, h)

pub returns-clause-age : goal.returns-clause-age
returns-clause-age c = (
  asked c.in-Some.last,
  ap (λ (o : Option LastChallenge). option_map asked o) c.in-Some.is,
  subst (λ (o : List Entry). interpreted options.echo o ≡ Some (echo_of c.in-Some.last.number)) c.inner.ensures (c.carries.ensures.yes c.if-not-carries.false),
  back_again c.in-Some.last.moment c.args.now c.if-now-last.false,
)
