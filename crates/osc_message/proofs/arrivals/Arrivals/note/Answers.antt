use Rattle.std.proofs.Common.{ap, refl, Some}
use Rattle.osc_message.specs.declared.arrival.Stage.{Stage}
use Rattle.osc_message.specs.Hearing.{Heard}
use Rattle.osc_message.specs.HearingCalls.{new_one}
use Rattle.osc_message.specs.HearingViews.{seen_of}
use Rattle.osc_message.proofs.Came.{unused, waits_or_is_done}
use Rattle.osc_message.proofs.Walking.{puts}
use Rattle.osc_message.proofs.arrivals.Arrivals.note.Goals as goal

pub returns-clause-noted : goal.returns-clause-noted
returns-clause-noted g c =
    let found = c.in_ok-place.ensures.found.0 in
    let it : Stage → Heard = λ stage. record (new_one c.args.message c.args.self.now.next_number c.args.now) { stage = stage } in (
      found.0,
      record {
        puts = puts seen_of c.args.self.now.places.items c.deref_mut.result.now c.in_ok-place.place _ found.0 _ c.deref_mut.ensures.value found.1 (ap (λ (stage : Stage). Some (it stage)) c.first_stage-stage.ensures);
        unused = unused _ found.0 found.2;
        number = refl;
        next = refl;
        stage = waits_or_is_done c.args.message.awaits_answer;
      },
      found.2,
    )
