use Rattle.std.proofs.lemmas.Option.{slice_get-get_or}
use Rattle.osc_endpoint.proofs.Places.{table_judges}
use Rattle.osc_endpoint.proofs.table.judge_at.Goals as goal

pub returns-clause-decided : goal.returns-clause-decided
returns-clause-decided c = λ lives h.
    table_judges c.args.slots.now lives c.args.request c.args.datagram.now c.judge_place.result c.judge_place.new.datagram _ _ c.judge_place.new.place h
    (slice_get-get_or c.args.slots.now c.args.request.index _ c.requires.there) c.judge_place.ensures.decided
