use Rattle.std.proofs.Common.{◌<◌, ◌+◌, ◌∙◌, sym, arith, length}
use Rattle.std.proofs.lemmas.Option.{slice_get-get_or}
use Rattle.osc_handle.proofs.PendingPlaces.{in_front, one_dropped, one_kept, same_keeping}
use Rattle.osc_handle.proofs.places.keep_alive.Goals as goal
use Rattle.osc_handle.proofs.places.keep_alive.Goals.{then-is_alive, else-is_alive}

pub loop-place-preserved : goal.loop-place-preserved
loop-place-preserved c =
    let old = c.args.places.now in
    let clock = c.args.clock in
    let ms = c.args.life_ms in
    let place = c.loop-place.place in
    let (long, most, so_far, later, each) = c.loop-place.invariant in
    let less = c.loop-place-test.true in
    let fits = c.requires.fits in
    let within : c.loop-place.place < length c.loop-place.places = omega (arith, less, long, fits) in
    let there = slice_get-get_or c.loop-place.places c.loop-place.place _ within in
    elim c.if-is_alive.branch [
      | then-is_alive w ↦
          same_keeping old _ c.if-is_alive.places clock ms _ c.if-is_alive.kept (place + 1) w.places-is w.kept-is
          (one_kept old c.loop-place.places c.args.count clock ms c.loop-place.kept place _ c.requires less c.loop-place.invariant there (sym c.is_alive.ensures ∙ w.if-is_alive.true))
      | else-is_alive w ↦
          same_keeping old _ c.if-is_alive.places clock ms _ c.if-is_alive.kept (place + 1) w.places-is w.kept-is
          (one_dropped old c.loop-place.places clock ms c.loop-place.kept place _ c.loop-place.invariant there (sym c.is_alive.ensures ∙ w.if-is_alive.false))
    ]

pub returns-clause-table : goal.returns-clause-table
returns-clause-table c =
    let (long, most, so_far, later, each) = c.loop-place.invariant in
    let fits = c.requires.fits in
    let under = c.loop-place.auto.place-end in
    record {
      fits = omega (arith, most, fits, under, long);
      each = λ i b there. let front = in_front c.loop-place.places c.loop-place.kept i b there in each i b front.0 front.1;
    }
