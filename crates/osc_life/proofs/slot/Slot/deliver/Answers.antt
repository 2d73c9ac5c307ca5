use Rattle.osc_context.specs.Views.{number_of}
use Rattle.osc_life.proofs.Lives.{delivered_open, delivered_closed}
use Rattle.osc_life.proofs.slot.Slot.deliver.Goals as goal

pub returns-in-Open-clause-kept : goal.returns-in-Open-clause-kept
returns-in-Open-clause-kept c = λ l a. record {
  context = a.context;
  size = a.size;
  doubt = a.doubt;
  gate = delivered_open c.args.self.now.gate _ c.mark.new.self l (number_of c.args.number) c.in-Open.is a.gate c.mark.ensures.agrees;
  next = a.next;
  life = a.life;
}

pub returns-in-Restarted-clause-kept : goal.returns-in-Restarted-clause-kept
returns-in-Restarted-clause-kept c = λ l a. record {
  context = a.context;
  size = a.size;
  doubt = a.doubt;
  gate = delivered_closed c.args.self.now.gate c.open_at.new.self _ c.args.self.now.size l (number_of c.args.number) c.in-Restarted.is a.gate a.size c.open_at.ensures.agrees;
  next = a.next;
  life = a.life;
}
