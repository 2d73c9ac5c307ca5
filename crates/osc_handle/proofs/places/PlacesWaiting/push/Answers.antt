use Rattle.std.proofs.Common.{◌∙◌, arith}
use Rattle.std.proofs.lemmas.List.{length-set}
use Rattle.osc_handle.proofs.PendingPlaces.{each_placed, front_has, in_front, one_fits}
use Rattle.osc_handle.proofs.places.PlacesWaiting.push.Goals as goal

pub returns-clause-table : goal.returns-clause-table
returns-clause-table c =
    let ps = c.args.self.now.places.now in
    let n = c.args.self.now.count.now in
    let made = c.of.result in
    let within = one_fits ps n c.requires.table.fits c.requires.fits in
    record {
      fits = let same = length-set ps n made in omega (arith, within, same);
      each = λ i b there.
          let front = in_front _ _ i b there in each_placed ps n made within c.of.ensures.whole (λ j d less at. c.requires.table.each j d (front_has ps n j less ∙ at)) i b front.0 front.1;
    }
