use Rattle.std.proofs.Common.{◌-◌, ◌∙◌, ap, sym, arith, take}
use Rattle.std.specs.Prelude.{map, slice_get}
use Rattle.osc_handle.specs.PendingBytes.{asked_at}
use Rattle.osc_handle.proofs.PendingPlaces.{each_left, taken_out, within_front}
use Rattle.osc_handle.proofs.places.PlacesWaiting.take_out.Goals as goal

pub returns-clause-table : goal.returns-clause-table
returns-clause-table c =
    let fits = c.requires.table.fits in
    let ps = c.args.self.now.places.now in
    let n = c.args.self.now.count.now in
    let used = within_front ps n c.args.place c.requires.within in
    record {
      fits = let same = c.copy_within.ensures.after in omega (arith, fits);
      each = λ j b there.
          each_left ps n c.args.place used fits c.requires.table.each j b
          (ap (λ xs. slice_get (take (n - 1) xs) j) (sym c.copy_within.ensures.after) ∙ there);
    }

pub returns-clause-requests : goal.returns-clause-requests
returns-clause-requests c =
    let ps = c.args.self.now.places.now in
    let n = c.args.self.now.count.now in
    let used = within_front ps n c.args.place c.requires.within in
    ap (λ xs. map asked_at (take (n - 1) xs)) c.copy_within.ensures.after ∙ taken_out ps n c.args.place used c.requires.table.fits
