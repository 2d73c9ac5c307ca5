use Rattle.std.proofs.Common.{ℕ, ap, subst, option_map}
use Rattle.osc_context.specs.Views.{number_of}
use Rattle.osc_context.specs.declared.features.Features.{Features}
use Rattle.osc_protect.specs.Halves.{ReadsInner}
use Rattle.osc_protect.specs.Protection.{responses_to}
use Rattle.osc_protect.specs.declared.usage.Usage.TheVariants.{Response}
use Rattle.osc_protect.proofs.Staged.{reads_open}
use Rattle.osc_protect.proofs.stages.ReadResponse.opened.Goals as goal

pub lend-requires : goal.lend-requires
lend-requires c = (c.requires.0.features, c.requires.1.2)

pub returns : goal.returns
returns c = λ x can s r n old it.
    let read = subst (λ (k : ℕ). ReadsInner Response x.features c.args.datagram.now c.args.self.number k c.lend.result) can.1 (c.lend.ensures x.features can.2) in
    let same = subst (λ (z : Features). ReadsInner Response z c.args.datagram.now c.args.self.number x.len c.lend.result) it.0 read in
    reads_open c.one_datagram.ensures.one (responses_to s r n) old c.args.datagram.now (option_map number_of x.number) x.len it.1 c.args.self.number (ap (option_map number_of) can.0) c.lend.result same
