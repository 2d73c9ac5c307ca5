use Rattle.osc_message.proofs.OneToAPeer.{at_most_four_each}
use Rattle.osc_message.proofs.Times.{acked, at_its_times, at_most_four, punctually}
use Rattle.osc_message.proofs.laws.messages_go_out_at_their_times.Goals as goal

pub returns-clause-at_most_four : goal.returns-clause-at_most_four
returns-clause-at_most_four c = at_most_four

pub returns-clause-at_its_times : goal.returns-clause-at_its_times
returns-clause-at_its_times c = at_its_times

pub returns-clause-punctually : goal.returns-clause-punctually
returns-clause-punctually c = punctually

pub returns-clause-acked : goal.returns-clause-acked
returns-clause-acked c = acked

pub returns-clause-each : goal.returns-clause-each
returns-clause-each c = at_most_four_each
