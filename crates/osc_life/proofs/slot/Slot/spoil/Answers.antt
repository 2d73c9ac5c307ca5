use Rattle.osc_context.specs.Views.{number_of}
use Rattle.osc_life.proofs.Lives.{spoiled_open}
use Rattle.osc_life.proofs.slot.Slot.spoil.Goals as goal

pub returns-in-Open-clause-kept : goal.returns-in-Open-clause-kept
returns-in-Open-clause-kept c = λ l a. record {
  context = a.context;
  size = a.size;
  doubt = a.doubt;
  gate = spoiled_open c.args.self.now.gate _ c.mark.new.self l (number_of c.args.number) c.in-Open.is a.gate c.mark.ensures.agrees;
  next = a.next;
  life = a.life;
}
