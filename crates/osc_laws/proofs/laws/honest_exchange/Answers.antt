use Rattle.osc_laws.proofs.Exchange.{ExchangeLaws}
use Rattle.osc_laws.proofs.ExchangeRuns.{exchange_in_time, honest_exchange, honest_runs}
use Rattle.osc_laws.proofs.laws.honest_exchange.Goals as goal

pub returns : goal.returns
returns c =
    let laws : ExchangeLaws = record {
      arrive = c.what_is_sealed_arrives.ensures;
      server = c.server_rows.ensures;
      client = c.client_rows.ensures;
      opens = c.sealed_opens.ensures;
      heads = c.protections_show_heads.ensures.request;
      one = c.one_request.ensures;
      datagram = c.one_datagram.ensures.one;
    } in
    record { exchange = honest_exchange laws; in_time = exchange_in_time laws; runs = honest_runs laws c.server_headline.ensures }
