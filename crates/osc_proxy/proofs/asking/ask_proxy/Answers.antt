use Rattle.std.proofs.Common.{length}
use Rattle.osc_proxy.specs.AskRefusals.{RefusesToAsk}
use Rattle.osc_proxy.proofs.Askings.{done, fits_never, refused_for, refuses_one}
use Rattle.osc_proxy.proofs.asking.ask_proxy.Goals as goal

pub returns-clause-accepts : goal.returns-clause-accepts
returns-clause-accepts c = λ fits.
    let laws = c.one_datagram.ensures in
    done (RefusesToAsk c.args.sealed.now c.args.scheme.now (length c.args.out.now)) c.ask.result c.ask.ensures.refused
    (fits_never laws.one laws.one_fault laws.never_both c.args.sealed.now c.args.scheme.now (length c.args.out.now) fits)

pub returns-clause-refuses : goal.returns-clause-refuses
returns-clause-refuses c = λ e h.
    let laws = c.one_datagram.ensures in
    refused_for (RefusesToAsk c.args.sealed.now c.args.scheme.now (length c.args.out.now)) c.ask.result e c.ask.ensures.refused
    (λ ok. fits_never laws.one laws.one_fault laws.never_both c.args.sealed.now c.args.scheme.now (length c.args.out.now) (c.ask.ensures.accepted ok) e h)
    (λ f k. refuses_one laws.one laws.one_fault laws.never_both c.args.sealed.now c.args.scheme.now (length c.args.out.now) f e k h)
