use Rattle.std.proofs.Common.{length}
use Rattle.std.proofs.lemmas.Option.{IfSome_then}
use Rattle.osc_coap.specs.Views.{parts_of}
use Rattle.osc_client.specs.ClientHistory.{Request}
use Rattle.osc_handle.specs.PendingBytes.{entry_of_kept_request}
use Rattle.osc_peer_bytes.proofs.Calls.{asks_after}
use Rattle.osc_peer_bytes.proofs.asking.request_bytes_in_list.Goals as goal

pub returns-clause-answered : goal.returns-clause-answered
returns-clause-answered g c = λ s w counted runs.
    IfSome_then (entry_of_kept_request c.request.result c.request.new.out) (c.request.ensures.answered runs.a runs.own runs.asks) (λ entry step heard.
    asks_after c.peer_calls_in_list.ensures.client s w c.args.peer.now c.request.new.self _ _ _ runs (Request c.args.now (parts_of c.args.plain.now) (length c.args.out.now)) entry counted tt step heard)
