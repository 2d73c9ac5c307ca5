use Rattle.osc_context.specs.Views.{as_client}
use Rattle.osc_callers.proofs.tests.premises.start.Goals as goal

pub returns : goal.returns
returns c =
    let began = c.in_ok-server.ensures (as_client c.in_ok-of_client.of_client) c.in_ok-of_client.ensures in
    record {
      context = as_client c.in_ok-of_client.of_client;
      usable = c.usable_contexts.ensures.client c.in_ok-of_client.of_client;
      zero_number = began.0;
      is_zero = began.1;
      client_starts = c.in_ok-client.ensures;
      server_starts = began.2;
    }
