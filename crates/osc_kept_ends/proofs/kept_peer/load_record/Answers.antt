use Rattle.std.proofs.Common.{◌≡◌, ◌≤◌, ◌∙◌, sym, ap, refl, arith, true}
use Rattle.osc_context.specs.Views.{number_of}
use Rattle.osc_life.specs.declared.start.Start.{Start}
use Rattle.osc_kept_ends.specs.KeptServing.{started}
use Rattle.osc_kept_ends.specs.Numbering.{nothing_drawn, upcoming}
use Rattle.osc_kept_ends.specs.PeerOwning.{own_in}
use Rattle.osc_kept_ends.proofs.Drawing.{first_draw, upcoming_stays}
use Rattle.osc_kept_ends.proofs.PeerSteps.{born_at, started_idle}
use Rattle.osc_kept_ends.proofs.kept_peer.load_record.Goals as goal

pub returns-in_default : goal.returns-in_default
returns-in_default g c =
    let source = c.in_ok-source.source in
    let sender = number_of c.in_ok-source.first in
    let none = nothing_drawn (g.R.RecordKeeper.sender_floor c.args.keeper) in
    let begins = c.in_ok-source.ensures.begins in
    let floor : g.R.RecordKeeper.received_floor source.keeper ≡ g.R.RecordKeeper.received_floor c.args.keeper = c.in_ok-source.ensures.least.1 in
    record {
      begins = (
        c.in_ok-source.received,
        source.keeper,
        c.in_ok-source.ensures.loaded.0,
        c.in_ok-source.ensures.least.0,
        omega (arith, floor),
        c.in-Ok.ensures.begins,
        begins.1 ∙ sym (started_idle c.in-Ok.start sender none c.in_default.not-Fresh),
        begins.0,
        c.in_ok-source.ensures.loaded.1,
        c.in_ok-source.ensures.received.0,
      );
      ahead = c.in_ok-source.ensures.received.1;
      next = ap upcoming begins.1;
      first = λ s size. born_at s c.args.ahead c.in-Ok.start size sender c.in_ok-source.received c.in-Ok.ensures.begins;
      refused = tt;
    }

pub returns : goal.returns
returns g c =
    let source = c.in_ok-source.source in
    let sender = number_of c.in_ok-source.first in
    let none = nothing_drawn (g.R.RecordKeeper.sender_floor c.args.keeper) in
    let begins = c.in_ok-source.ensures.begins in
    let drawn = first_draw (own_in source) (own_in c.draw.new.self) (g.R.RecordKeeper.sender_floor c.args.keeper) sender begins.1 begins.0.1 (c.in-Ok-draw.ensures.drawn refl) in
    let floor : g.R.RecordKeeper.received_floor source.keeper ≡ g.R.RecordKeeper.received_floor c.args.keeper = c.in_ok-source.ensures.least.1 in
    let rises : g.R.RecordKeeper.received_floor source.keeper ≤ g.R.RecordKeeper.received_floor c.draw.new.self.keeper = c.in-Ok-draw.ensures.rises in
    record {
      begins = (
        c.in_ok-source.received,
        source.keeper,
        c.in_ok-source.ensures.loaded.0,
        c.in_ok-source.ensures.least.0,
        omega (arith, floor, rises),
        c.in-Ok.ensures.begins,
        drawn ∙ sym (ap (λ (s : Start). started s sender none) c.in-Fresh.is),
        begins.0,
        c.in-Ok-draw.ensures.worked refl ∙ c.in_ok-source.ensures.loaded.1,
        c.in-Ok-draw.ensures.received.0 ∙ c.in_ok-source.ensures.received.0,
      );
      ahead = c.in-Ok-draw.ensures.received.1 ∙ c.in_ok-source.ensures.received.1;
      next = upcoming_stays true (own_in source) (own_in c.draw.new.self) (c.in-Ok-draw.ensures.drawn refl) ∙ ap upcoming begins.1;
      first = λ s size. born_at s c.args.ahead c.in-Ok.start size sender c.in_ok-source.received c.in-Ok.ensures.begins;
      refused = tt;
    }
