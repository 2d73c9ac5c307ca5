use Rattle.std.proofs.Common.{◌<◌, arith, length, length}
use Rattle.std.proofs.lemmas.List.{length-set}
use Rattle.osc_handle.proofs.PendingPlaces.{each_set, waits_at, within_front}
use Rattle.osc_handle.proofs.places.PlacesWaiting.wait_at.Goals as goal

pub returns-clause-table : goal.returns-clause-table
returns-clause-table c =
    let ps = c.args.self.now.places.now in
    let n = c.args.self.now.count.now in
    let fits = c.requires.table.fits in
    let used = within_front ps n c.args.place c.requires.within in
    let room : c.args.place < length c.args.self.now.places.now = omega (arith, used, fits) in
    record {
      fits = let same = length-set ps c.args.place c.waiting_for.result in omega (arith, fits, same);
      each = each_set ps n c.args.place _ _ used room c.requires.table.each c.waiting_for.ensures.whole;
    }

pub returns-clause-requests : goal.returns-clause-requests
returns-clause-requests c = λ r there.
    let ps = c.args.self.now.places.now in
    let n = c.args.self.now.count.now in
    waits_at ps n c.args.place _ _ c.args.wait r (within_front ps n c.args.place c.requires.within) there c.waiting_for.ensures.made
