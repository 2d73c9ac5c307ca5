-- What is kept in mind of a message.
use Rattle.std.proofs.Common.{◌≡◌, ◌∙◌, ap, sym, refl, arith, inl, inr, ℕ, List, Some, Ok, Err}
use Rattle.std.specs.Prelude.{Bool, true, false, Option, None, Result, IfOk, IfErr, OnErr, slice_get}
use Rattle.std.proofs.lemmas.Option.{slice_get_within}
use Rattle.osc_endpoint.proofs.Places.{slice_get-set_same}
use Rattle.osc_message.specs.Arriving.{Came}
use Rattle.osc_message.specs.Hearing.{Heard, way_at}
use Rattle.osc_message.specs.HearingCalls.{AnswersBy, IsFirstReason, IsInMind, NotesBy, first_stage_of, new_one}
use Rattle.osc_message.specs.HearingViews.{came_of}
use Rattle.osc_message.specs.declared.arrival.Stage.{Stage}
use Rattle.osc_message.specs.declared.arrival.Stage.TheVariants.{Waiting}
use Rattle.osc_message.specs.declared.arrival.Way.{Way}
use Rattle.osc_message.specs.declared.arrivals.Arrivals.{Arrivals}
use Rattle.osc_message.specs.declared.arrivals.Arrived.{Arrived}
use Rattle.osc_message.specs.declared.arrivals.Incomer.{Incomer}
use Rattle.osc_message.specs.declared.arrivals.NoteError.{NoteError}
use Rattle.osc_message.specs.declared.messages.Heading.{Heading}
use Rattle.osc_node.specs.Deciding.{Keeps, KeepsAnswered, KeepsResponse, ByType}

-- what was noted last is in mind, and waits for its answer
in_mind : (old noted : Came) (from : List ℕ) (h : Heading) (now : ℕ) (a : Arrived) → Keeps old noted from h true now a
    → (x : Heard) × IsInMind noted a x × (x.stage ≡ Waiting)
in_mind old noted from h now a k =
    let (before, notes, next) = k.notes in
    let x = new_one k.message a.number now in (
      x,
      (ap (λ (places : List (Option Heard)). slice_get places a.place) notes.puts.put ∙ slice_get-set_same old.places a.place (Some x) (slice_get_within old.places a.place before notes.puts.there), refl),
      ap first_stage_of k.awaits_is,
    )

waits : (confirmable : Bool) → way_at Waiting confirmable ≡ None → ⊥
waits true e = cc
waits false e = cc

pub keeps_answered : (old noted new : Came) (from : List ℕ) (h : Heading) (now : ℕ) (a : Arrived) (r : Option Way) → Keeps old noted from h true now a → AnswersBy noted new a r
    → KeepsAnswered old new from h now a
keeps_answered old noted new from h now a None k (same, none) =
    let (x, mind, stage) = in_mind old noted from h now a k in
    absurd (waits x.confirmable (ap (λ (s : Stage). way_at s x.confirmable) (sym stage) ∙ none x mind))
keeps_answered old noted new from h now a (Some way) k answers = record { noted = noted; keeps = k; way = way; answers = answers }

pub of_con : (b : Bool) (A B : Type 0) → b ≡ true → A → ByType b A B
of_con true A B e x = x
of_con false A B e x = absurd (grind (arith, e))

pub of_other : (b : Bool) (A B : Type 0) → b ≡ false → B → ByType b A B
of_other true A B e x = absurd (grind (arith, e))
of_other false A B e x = x

-- a response that is a CON is noted, or there is no place
pub noted_or_not : {M : ℕ} → (xs ys : Arrivals M) (m : Incomer) (from : List ℕ) (h : Heading) (now : ℕ) (r : Result Arrived NoteError)
    → m.from.items ≡ from → m.message_id ≡ h.message_id → m.confirmable ≡ h.confirmable → m.awaits_answer ≡ false
    → IfOk r (λ a. NotesBy (came_of xs) (came_of ys) m now a) → IfErr r (λ e. IsFirstReason (came_of xs) e) → OnErr r (ys ≡ xs) → h.confirmable ≡ true
    → KeepsResponse (came_of xs) (came_of ys) from h now
noted_or_not xs ys m from h now (Ok a) at id con awaits noted refused same is =
    of_con h.confirmable _ _ is (inl (a, record { message = m; from_is = at; id_is = id; confirmable_is = con; awaits_is = awaits; notes = noted }))
noted_or_not xs ys m from h now (Err e) at id con awaits noted refused same is =
    of_con h.confirmable _ _ is (inr (e, refused, ap came_of same))
