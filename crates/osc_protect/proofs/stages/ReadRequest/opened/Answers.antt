use Rattle.std.proofs.Common.{ℕ, ap, subst, Some}
use Rattle.osc_context.specs.Views.{number_of}
use Rattle.osc_context.specs.declared.features.Features.{Features}
use Rattle.osc_context.specs.declared.partial_iv.Piv.{Piv}
use Rattle.osc_protect.specs.Halves.{ReadsInner}
use Rattle.osc_protect.specs.Protection.{requests}
use Rattle.osc_protect.specs.declared.usage.Usage.TheVariants.{Request}
use Rattle.osc_protect.proofs.Staged.{reads_open}
use Rattle.osc_protect.proofs.stages.ReadRequest.opened.Goals as goal

pub lend-requires : goal.lend-requires
lend-requires c = (c.requires.0.features, c.requires.1.2)

pub returns : goal.returns
returns c = λ x can s old it.
    let read = subst (λ (k : ℕ). ReadsInner Request x.features c.args.datagram.now (Some c.args.self.number) k c.lend.result) can.1 (c.lend.ensures x.features can.2) in
    let same = subst (λ (z : Features). ReadsInner Request z c.args.datagram.now (Some c.args.self.number) x.len c.lend.result) it.0 read in
    reads_open c.one_datagram.ensures.one (requests s) old c.args.datagram.now (number_of x.number) x.len it.1 (Some c.args.self.number) (ap (λ (p : Piv). Some (number_of p)) can.0) c.lend.result same
