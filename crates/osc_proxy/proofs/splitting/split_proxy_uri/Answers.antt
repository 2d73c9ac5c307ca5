use Rattle.std.proofs.Common.{length}
use Rattle.osc_proxy.specs.SplitRefusals.{RefusesToSplit}
use Rattle.osc_proxy.proofs.Askings.{done, refused_for}
use Rattle.osc_proxy.proofs.SplitFaults.{split_never, splits_one, where_done}
use Rattle.osc_proxy.proofs.splitting.split_proxy_uri.Goals as goal

pub returns-clause-accepts : goal.returns-clause-accepts
returns-clause-accepts c = λ p u fits.
    let laws = c.one_datagram.ensures in
    done (RefusesToSplit c.args.plain.now (length c.args.out.now)) c.split_read.result c.split_read.ensures.refused
    (split_never laws.one laws.one_fault laws.never_both c.args.plain.now (length c.args.out.now) p u fits)

pub returns-clause-refuses : goal.returns-clause-refuses
returns-clause-refuses c = λ e h.
    let laws = c.one_datagram.ensures in
    refused_for (RefusesToSplit c.args.plain.now (length c.args.out.now)) c.split_read.result e c.split_read.ensures.refused
    (λ ok. let r = (where_done _ c.split_read.result c.split_read.ensures.accepted ok).1 in split_never laws.one laws.one_fault laws.never_both c.args.plain.now (length c.args.out.now) (r.0) (r.1) r.2 e h)
    (λ f k. splits_one laws.one laws.one_fault laws.never_both c.args.plain.now (length c.args.out.now) f e k h)
