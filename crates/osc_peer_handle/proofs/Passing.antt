-- A server in bytes that passes over numbers. s are its bytes, b those of its context, h is the history, next the number with which it seals next.
use Rattle.std.proofs.Common.{◌≡◌, ◌≢◌, ◌∙◌, ◌==◌, ◌+◌, ◌^◌, ◌≤◌, sym, ap, subst, refl, arith, ℕ, zero, suc, List, Option, Some, None, Ok, slice_set}
use Rattle.std.specs.Prelude.{slice_get, unwrap_or}
use Rattle.std.specs.Option.{option_map}
use Rattle.std.proofs.lemmas.Bool.{cond-false, ne_eqb}
use Rattle.std.proofs.lemmas.List.{length-set}
use Rattle.std.proofs.lemmas.Option.{slice_get_within}
use Rattle.osc_window.specs.declared.gate.Gate.{Gate}
use Rattle.osc_window.specs.declared.gate.Gate.TheVariants as gates
use Rattle.osc_life.specs.Agrees.{GateAgrees, SlotAgrees}
use Rattle.osc_life.specs.Life.{Life, PassedOver, marked, next_own}
use Rattle.osc_life.specs.LifeAnswer.{LifeSkip}
use Rattle.osc_life.specs.ServerHistory.{History, Skip, Skipped, Then, life, skip_mark_at}
use Rattle.osc_life.specs.declared.slot.Slot.{Slot}
use Rattle.osc_endpoint.specs.Agrees.{PlaceAgrees, TableAgrees, server_of}
use Rattle.osc_endpoint.specs.ServerAnswer.{ServerAnswer}
use Rattle.osc_endpoint.proofs.Decisions.{agrees_skipped}
use Rattle.osc_endpoint.proofs.Places.{life_at, same_life, slice_get-set_other, slice_get-set_same}
use Rattle.osc_handle.proofs.Tables.{slot_at, table_set}
use Rattle.osc_handle.proofs.Waits.{remembers_skipped}
use Rattle.osc_handle.specs.ServerBytes.{Serves}
use Rattle.osc_handle.specs.SingleServerBytes.{server_of_one, table_of}
use Rattle.osc_handle.specs.SlotBytes.{IsGateBytes, IsGateIn, IsHighestIn, IsSlotBytes, IsSlotIn}
use Rattle.osc_handle.specs.declared.single_server_handle.SingleServerHandle.{SingleServerHandle}
use Rattle.osc_handle.specs.declared.slot_handle.SlotHandle.{SlotHandle}
use Rattle.osc_peer_handle.specs.PeerBytes.{served_at}

-- ---- the bytes of the context, with another next number

highest_at : (b : SlotHandle) (next : ℕ) (highest : Option ℕ) → IsHighestIn b highest → IsHighestIn (record b { next = next }) highest
highest_at b next None h = h
highest_at b next (Some n) h = h

gate_at : (b : SlotHandle) (next : ℕ) (gate : Gate) → IsGateIn b gate → IsGateIn (record b { next = next }) gate
gate_at b next (gates.Restarted None) h = h
gate_at b next (gates.Restarted (Some challenge)) h = h
gate_at b next (gates.Open window) h = record { highest = highest_at b next _ h.highest; mask = h.mask; size = h.size }

gate_bytes_at : (b : SlotHandle) (next : ℕ) → IsGateBytes b → IsGateBytes (record b { next = next })
gate_bytes_at b next (IsGateBytes.closed h) = IsGateBytes.closed h
gate_bytes_at b next (IsGateBytes.unmarked h w) = IsGateBytes.unmarked h w
gate_bytes_at b next (IsGateBytes.marked h w n) = IsGateBytes.marked h w n

-- they are bytes that a call may have written
pub slot_bytes_at : (b : SlotHandle) (next : ℕ) → next ≤ 2 ^ 40 → IsSlotBytes b → IsSlotBytes (record b { next = next })
slot_bytes_at b next most h = record { context = h.context; size = h.size; gate = gate_bytes_at b next h.gate; next = most }

-- the context, with another next number
passed : (s : Slot) (next : ℕ) → next ≤ 2 ^ 40 → Slot
passed s next most = record { size = s.size; gate = s.gate; doubt = s.doubt; next = next; life = s.life; context = s.context; in_range = most }

passed_in : (b : SlotHandle) (s : Slot) (next : ℕ) (most : next ≤ 2 ^ 40) → IsSlotIn b s → IsSlotIn (record b { next = next }) (passed s next most)
unfolding passed
passed_in b s next most is =
    record { handle = is.handle; context = is.context; size = is.size; doubt = is.doubt; gate = gate_at b next s.gate is.gate; next = refl; life = is.life }

gate_passed : (gate : Gate) (l : Life) (count : ℕ) → GateAgrees gate l → GateAgrees gate (marked (Some (PassedOver count)) l)
gate_passed (gates.Restarted kept) l count h = h
gate_passed (gates.Open window) l count h = h

slot_passed : (s : Slot) (l : Life) (next count : ℕ) (most : next ≤ 2 ^ 40) → next ≡ s.next + count → SlotAgrees s l → SlotAgrees (passed s next most) (marked (Some (PassedOver count)) l)
unfolding passed
slot_passed s l next count most is a =
    record {
      context = a.context;
      size = a.size;
      doubt = a.doubt;
      gate = gate_passed s.gate l count a.gate;
      next = let was : s.next ≡ next_own l = a.next in omega (arith, is, was);
      life = a.life;
    }

-- ---- the server

places_passed : (slots : List (Option Slot)) (lives : ℕ → Option Life) (l : Life) (s x : Slot) (count : ℕ) → slice_get slots 0 ≡ Some (Some s) → lives 0 ≡ Some l
    → SlotAgrees x (marked (Some (PassedOver count)) l) → TableAgrees slots lives
    → TableAgrees (slice_set slots 0 (Some x)) (λ j. option_map (marked (skip_mark_at j 0 count)) (lives j))
places_passed slots lives l s x count at life_is holds a = record { at = place } where
  place : (j : ℕ) → PlaceAgrees (slice_get (slice_set slots 0 (Some x)) j) (option_map (marked (skip_mark_at j 0 count)) (lives j))
  place zero =
      subst (λ o. PlaceAgrees o (option_map (marked (Some (PassedOver count))) (lives 0))) (sym (slice_get-set_same slots 0 (Some x) (slice_get_within slots 0 (Some s) at)))
      (subst (λ o. PlaceAgrees (Some (Some x)) (option_map (marked (Some (PassedOver count))) o)) (sym life_is) holds)
  place (suc j) =
      let other : suc j ≢ 0 = λ e. absurd (omega (arith, e)) in
      let none : skip_mark_at (suc j) 0 count ≡ None = cond-false (suc j == 0) (Some (PassedOver count)) None (ne_eqb (suc j) 0 other) in
      subst (λ o. PlaceAgrees o (option_map (marked (skip_mark_at (suc j) 0 count)) (lives (suc j)))) (sym (slice_get-set_other slots 0 (suc j) (Some x) other))
      (subst (λ o. PlaceAgrees (slice_get slots (suc j)) o) (sym (same_life (lives (suc j)) (skip_mark_at (suc j) 0 count) none)) (a.at (suc j)))

pub serves_passed : (s : SingleServerHandle) (h : History) (reached count next : ℕ) → Serves (server_of_one (served_at reached s)) h → option_map next_own (life h 0) ≡ Some reached
    → next ≡ reached + count → next ≤ 2 ^ 40 → ServerAnswer h (Skip 0 count) Skipped × Serves (server_of_one (served_at next s)) (Then h (Skip 0 count) Skipped)
serves_passed s h reached count next serves reached_is is most =
    let b = record s.slot { next = reached } in
    let (slot, at, stands) = slot_at (table_of b) serves.slots 0 b serves.table refl in
    let (l, life_is, holds) = life_at serves.slots (life h) 0 (Some slot) serves.agrees.places at in
    let x = passed slot next most in
    let was : reached ≡ slot.next = stands.next in
    let agrees : SlotAgrees x (marked (Some (PassedOver count)) l) = slot_passed slot l next count most (omega (arith, was, is)) holds in
    let own : next_own l ≡ reached = ap (λ (o : Option ℕ). unwrap_or o reached) (sym (ap (option_map next_own) life_is) ∙ reached_is) in
    let row : ServerAnswer h (Skip 0 count) Skipped = subst (λ o. LifeSkip o count Skipped) (sym life_is) (omega (arith, own, is, most)) in
    let slots = slice_set serves.slots 0 (Some x) in (
      row,
      record {
        slots = slots;
        table = table_set (table_of b) serves.slots 0 b (record s.slot { next = next }) x serves.table refl (passed_in b slot next most stands) (Some slot) at;
        agrees = agrees_skipped (server_of 1 s.clock serves.slots) (server_of 1 s.clock slots) h 0 count (Ok tt) serves.agrees refl (length-set serves.slots 0 (Some x))
            (places_passed serves.slots (life h) l slot x count at life_is agrees serves.agrees.places);
        remembers = remembers_skipped _ h 0 count serves.remembers;
        answers = (serves.answers, row);
        due = serves.due;
        senders = serves.senders;
      },
    )
