use Rattle.std.proofs.Common.{length, refl}
use Rattle.osc_coap.specs.Views.{parts_of}
use Rattle.osc_proxy.specs.UriViews.{uri_parts_of}
use Rattle.osc_proxy.proofs.SplitFaults.{split_by}
use Rattle.osc_proxy.proofs.splitting.split_read.Goals as goal

pub returns-clause-accepted : goal.returns-clause-accepted
returns-clause-accepted c =
    let p = parts_of c.in-Ok.request in
    let u = uri_parts_of c.in_ok-uri.uri in (
      p,
      u,
      record { message = c.in-Ok.ensures.accepted; splits = split_by p u (length c.args.out.now) c.in_ok-uri.ensures.value c.in_ok-len.ensures.accepted },
      refl,
      c.in_ok-len.ensures.written,
    )
