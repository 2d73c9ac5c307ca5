-- The walk over options: where it ends, and that what is spelled is walked.
use Rattle.std.proofs.Common.{◌≡◌, ◌≢◌, ℕ, zero, suc, ◌-◌, ◌<◌, ◌≤◌, Bool, true, false, cond, eqb, List, [], ◌∷◌, ◌++◌, length, get_or, take, drop, Option, Some, None, Result, Ok, Err, refl, sym, ap, subst, ◌∙◌, arith, inl, inr}
use Rattle.std.proofs.lemmas.Bool.{eqb-true, eqb-false, ne_eqb}
use Rattle.std.proofs.lemmas.List.{nil_from_length, length-append, append-nil, take_at, drop_at}
use Rattle.osc_coap.specs.declared.format_error.Fault.{Fault}
use Rattle.osc_coap.specs.Reading.{Taken, option_at, Walk, before, step, walk_for, walk, options_in, IsSpelling, AreOptions}
use Rattle.osc_coap.proofs.Bytes.{bytes_back}
use Rattle.osc_coap.proofs.Parts.{chosen, option_sound, option_again, fault_sound, fault_again, begins_longer, begins_shorter, begins_length, begins_unmarked}
use Rattle.osc_coap.specs.OptionSpelling.{Entry, AreBytes, Spells, last_number}
use Rattle.osc_coap.proofs.Pieces.{Begins, spells_first, spells_more}
use Rattle.osc_coap.specs.Fault.{IsFaulty, HasItemFault}
use Rattle.osc_coap.specs.Ends.{IsMarked, EndsOptions}

-- why a walk that has come to number d ends here
abbrev pub EndsAt : ℕ → List ℕ → Option Fault → Type 0
EndsAt d [] None = Unit {0}
EndsAt d [] (Some f) = ⊥
EndsAt d (b ∷ bytes) None = b ≡ 255
EndsAt d (b ∷ bytes) (Some f) = (b ≢ 255) × IsFaulty d f (b ∷ bytes)

-- an option that is read leaves fewer bytes
pub option_shorter : (d : ℕ) (bytes : List ℕ) (t : Taken) → option_at d bytes ≡ Ok t → length t.rest < length bytes
option_shorter d bytes t e = begins_length d (t.number, t.value) t.rest bytes (option_sound d bytes t e)

-- a test chosen by itself
same_cond : (b : Bool) → cond b true false ≡ b
same_cond true = refl
same_cond false = refl

-- walks that go on alike are the same
step_same : (r : Result Taken Fault) (bytes : List ℕ) (f g : ℕ → List ℕ → Walk) → ((t : Taken) → r ≡ Ok t → f t.number t.rest ≡ g t.number t.rest) → step bytes f r ≡ step bytes g r
step_same (Err e) bytes f g h = refl
step_same (Ok t) bytes f g h = ap (before (t.number, t.value)) (h t refl)

-- any bound that is large enough gives the same
pub enough : (n m d : ℕ) (bytes : List ℕ) → length bytes ≤ n → length bytes ≤ m → walk_for n d bytes ≡ walk_for m d bytes
unfolding walk_for
enough zero zero d bytes p q = refl
enough zero (suc m) d [] p q = refl
enough zero (suc m) d (b ∷ bytes) p q = absurd (omega arith)
enough (suc n) zero d [] p q = refl
enough (suc n) zero d (b ∷ bytes) p q = absurd (omega arith)
enough (suc n) (suc m) d [] p q = refl
enough (suc n) (suc m) d (b ∷ bytes) p q =
    let same = step_same (option_at d (b ∷ bytes)) (b ∷ bytes) (walk_for n) (walk_for m) (λ t e. let s = option_shorter d (b ∷ bytes) t e in enough n m t.number t.rest (omega arith) (omega arith)) in
    rw same refl

-- a walk goes on behind an option
pub walk_option : (d b : ℕ) (bytes : List ℕ) (t : Taken) → option_at d (b ∷ bytes) ≡ Ok t → walk d (b ∷ bytes) ≡ before (t.number, t.value) (walk t.number t.rest)
unfolding walk walk_for
walk_option d b bytes t e =
    let found = option_sound d (b ∷ bytes) t e in
    let s = option_shorter d (b ∷ bytes) t e in
    let unmarked : eqb b 255 ≡ false = ne_eqb _ _ (begins_unmarked d _ _ b bytes found) in
    let same = enough (length bytes) (length t.rest) t.number t.rest (omega arith) (omega arith) in
    rw (unmarked, e, same) refl

-- a walk ends at a fault
pub walk_fault : (d b : ℕ) (bytes : List ℕ) (f : Fault) → b ≢ 255 → option_at d (b ∷ bytes) ≡ Err f → walk d (b ∷ bytes) ≡ record { options = []; rest = b ∷ bytes; fault = Some f }
unfolding walk walk_for
walk_fault d b bytes f marker e =
    let unmarked : eqb b 255 ≡ false = ne_eqb _ _ marker in
    rw (unmarked, e) refl

-- a walk ends at the marker
pub walk_marker : (d b : ℕ) (bytes : List ℕ) → b ≡ 255 → walk d (b ∷ bytes) ≡ record { options = []; rest = b ∷ bytes; fault = None }
unfolding walk walk_for
walk_marker d b bytes e = rw e refl

-- a walk ends with the bytes
pub walk_nothing : (d : ℕ) (bytes : List ℕ) → length bytes ≡ 0 → walk d bytes ≡ record { options = []; rest = []; fault = None }
unfolding walk walk_for
walk_nothing d bytes e = rw (nil_from_length bytes e) refl

-- ---- for the iterator

-- no bytes are no options
pub options_ended : (d : ℕ) (bytes : List ℕ) → length bytes ≡ 0 → options_in d bytes ≡ []
options_ended d bytes e = ap (λ (w : Walk). w.options) (walk_nothing d bytes e)

-- behind the first of options stand options
pub spelled_rest : (d : ℕ) (bytes : List ℕ) (t : Taken) → AreOptions d bytes → option_at d bytes ≡ Ok t → AreOptions t.number t.rest
spelled_rest d [] t h e = absurd (option_sound d [] t e)
spelled_rest d (b ∷ bytes) t h e =
    let first = begins_shorter d (t.number, t.value) [] t.rest (b ∷ bytes) (option_sound d (b ∷ bytes) t e) in
    record {
      are_bytes = bytes_back first.0 t.rest (subst AreBytes first.2 h.are_bytes);
      spelling = ap (λ (w : Walk). w.rest) (sym (walk_option d b bytes t e)) ∙ h.spelling;
    }

-- the options are the first one and those behind it
pub options_more : (d : ℕ) (bytes : List ℕ) (t : Taken) → option_at d bytes ≡ Ok t → options_in d bytes ≡ (t.number, t.value) ∷ options_in t.number t.rest
options_more d [] t e = absurd (option_sound d [] t e)
options_more d (b ∷ bytes) t e = ap (λ (w : Walk). w.options) (walk_option d b bytes t e)

-- no option of a spelling has a fault
pub spelled_fails : (d : ℕ) (bytes : List ℕ) (f : Fault) → IsSpelling d bytes → length bytes ≢ 0 → option_at d bytes ≡ Err f → ⊥
spelled_fails d [] f h n e = n refl
spelled_fails d (b ∷ bytes) f h n e =
    elim (chosen (eqb b 255) true false (eqb b 255) (same_cond (eqb b 255))) [
      | inl g ↦ let bad : b ∷ bytes ≡ [] = ap (λ (w : Walk). w.rest) (sym (walk_marker d b bytes (eqb-true _ _ g.0))) ∙ h in cc
      | inr g ↦ let bad : b ∷ bytes ≡ [] = ap (λ (w : Walk). w.rest) (sym (walk_fault d b bytes f (eqb-false _ _ g.0) e)) ∙ h in cc
    ]

-- ---- the walk is of the grammar

-- the bytes are what the walk found, spelled, and what ends it
pub record Walked (d : ℕ) (bytes : List ℕ) (w : Walk) : Type 0 where
  pub text : List ℕ
  pub spells : Spells d w.options text
  pub whole : bytes ≡ text ++ w.rest
  pub ends : EndsAt (last_number d w.options) w.rest w.fault

-- so it is behind one item more
walk_item : (n : ℕ) (ih : (d : ℕ) (bytes : List ℕ) → length bytes ≤ n → Walked d bytes (walk d bytes)) (d b : ℕ) (bytes : List ℕ) → length (b ∷ bytes) ≤ suc n → b ≢ 255 → (r : Result Taken Fault) → option_at d (b ∷ bytes) ≡ r → Walked d (b ∷ bytes) (walk d (b ∷ bytes))
walk_item n ih d b bytes le marker (Err f) e =
    rw (walk_fault d b bytes f marker e) (record { text = []; spells = refl; whole = refl; ends = (marker, fault_sound d b bytes f marker e) })
walk_item n ih d b bytes le marker (Ok t) e =
    let found = option_sound d (b ∷ bytes) t e in
    let s = option_shorter d (b ∷ bytes) t e in
    let others = ih t.number t.rest (omega arith) in
    let first = begins_shorter d (t.number, t.value) others.text (walk t.number t.rest).rest (b ∷ bytes) (subst (λ (y : List ℕ). Begins d (t.number, t.value) y (b ∷ bytes)) others.whole found) in
    rw (walk_option d b bytes t e) (record { text = first.0; spells = spells_more d (t.number, t.value) (walk t.number t.rest).options first.0 others.text first.1 others.spells; whole = first.2; ends = others.ends })

-- so it is of each walk
pub walk_sound : (n d : ℕ) (bytes : List ℕ) → length bytes ≤ n → Walked d bytes (walk d bytes)
walk_sound n d [] le = rw (walk_nothing d [] refl) (record { text = []; spells = refl; whole = refl; ends = tt })
walk_sound zero d (b ∷ bytes) le = absurd (omega arith)
walk_sound (suc n) d (b ∷ bytes) le =
    elim (chosen (eqb b 255) true false (eqb b 255) (same_cond (eqb b 255))) [
      | inl g ↦ rw (walk_marker d b bytes (eqb-true _ _ g.0)) (record { text = []; spells = refl; whole = refl; ends = eqb-true _ _ g.0 })
      | inr g ↦ walk_item n (walk_sound n) d b bytes le (eqb-false _ _ g.0) (option_at d (b ∷ bytes)) refl
    ]

-- what is spelled is walked over
pub walk_again : (d : ℕ) (entries : List Entry) (text rest : List ℕ) (fault : Option Fault) → Spells d entries text → EndsAt (last_number d entries) rest fault → walk d (text ++ rest) ≡ record { options = entries; rest = rest; fault = fault }
walk_again d [] text [] None s e = rw s (walk_nothing d [] refl)
walk_again d [] text [] (Some f) s e = absurd e
walk_again d [] text (b ∷ rest) None s e = rw s (walk_marker d b rest e)
walk_again d [] text (b ∷ rest) (Some f) s e = rw s (walk_fault d b rest f e.0 (fault_again d b rest f e.0 e.1))
walk_again d (entry ∷ entries) [] rest fault s e = absurd (spells_first d entry entries [] s).1
walk_again d (entry ∷ entries) (b ∷ text) rest fault s e =
    let first = spells_first d entry entries (b ∷ text) s in
    let found = begins_longer d entry first.0 rest (b ∷ text) first.1 in
    let read = option_again d entry (first.0 ++ rest) ((b ∷ text) ++ rest) found in
    rw (walk_option d b (text ++ rest) (record { number = entry.0; value = entry.1; rest = first.0 ++ rest }) read) (rw (walk_again entry.0 entries first.0 rest fault first.2 e) refl)

-- ---- for the loop over the options

-- the walk from number d over rest goes on as the whole walk does
pub record Continues (bytes : List ℕ) (d : ℕ) (rest : List ℕ) : Type 0 where
  pub shorter : length rest ≤ length bytes
  pub same_rest : (walk d rest).rest ≡ (walk 0 bytes).rest
  pub same_fault : (walk d rest).fault ≡ (walk 0 bytes).fault

-- one option more leaves the end where it is
pub continues_more : (bytes : List ℕ) (d : ℕ) (rest : List ℕ) (t : Taken) → Continues bytes d rest → option_at d rest ≡ Ok t → Continues bytes t.number t.rest
continues_more bytes d [] t h e = absurd (option_sound d [] t e)
continues_more bytes d (b ∷ rest) t h e =
    let w = walk_option d b rest t e in
    let s = option_shorter d (b ∷ rest) t e in
    let p = h.shorter in
    record {
      shorter = omega arith;
      same_rest = ap (λ (x : Walk). x.rest) (sym w) ∙ h.same_rest;
      same_fault = ap (λ (x : Walk). x.fault) (sym w) ∙ h.same_fault;
    }

-- the walk ends at rest
pub record Ended (bytes : List ℕ) (rest : List ℕ) (fault : Option Fault) : Type 0 where
  pub text : List ℕ
  pub spells : Spells 0 (options_in 0 bytes) text
  pub whole : bytes ≡ text ++ rest
  pub ends : EndsAt (last_number 0 (options_in 0 bytes)) rest fault

-- where the rest ends, all ends
pub continues_ends : (bytes : List ℕ) (d : ℕ) (rest : List ℕ) (fault : Option Fault) → Continues bytes d rest → walk d rest ≡ record { options = []; rest = rest; fault = fault } → Ended bytes rest fault
continues_ends bytes d rest fault h e =
    let w = walk_sound (length bytes) 0 bytes (omega arith) in
    let r : (walk 0 bytes).rest ≡ rest = sym h.same_rest ∙ ap (λ (x : Walk). x.rest) e in
    let f : (walk 0 bytes).fault ≡ fault = sym h.same_fault ∙ ap (λ (x : Walk). x.fault) e in
    record {
      text = w.text;
      spells = w.spells;
      whole = w.whole ∙ ap (λ (y : List ℕ). w.text ++ y) r;
      ends = subst (λ (y : Option Fault). EndsAt (last_number 0 (options_in 0 bytes)) rest y) f (subst (λ (y : List ℕ). EndsAt (last_number 0 (options_in 0 bytes)) y (walk 0 bytes).fault) r w.ends);
    }

-- the fault of the rest is one of the whole, at its place
pub faulty_place : (bytes : List ℕ) (d : ℕ) (rest : List ℕ) (f : Fault) → Continues bytes d rest → length rest ≢ 0 → get_or rest 0 0 ≢ 255 → option_at d rest ≡ Err f → HasItemFault bytes f (length bytes - length rest)
faulty_place bytes d [] f h n m e = absurd (n refl)
faulty_place bytes d (b ∷ rest) f h n m e =
    let w = continues_ends bytes d (b ∷ rest) (Some f) h (walk_fault d b rest f m e) in
    record {
      options = options_in 0 bytes;
      spelled = w.text;
      rest = b ∷ rest;
      spells = w.spells;
      whole = w.whole;
      place_is = omega (arith, ap length w.whole, length-append w.text (b ∷ rest));
      faulty = w.ends.1;
    }

-- what is spelled has no fault
pub spelled_alone : (entries : List Entry) (text : List ℕ) → Spells 0 entries text → walk 0 text ≡ record { options = entries; rest = []; fault = None }
spelled_alone entries text s = ap (walk 0) (sym (append-nil text)) ∙ walk_again 0 entries text [] None s tt

-- a walk without fault ends at the marker or the end
marked_from : (d : ℕ) (rest : List ℕ) → EndsAt d rest None → IsMarked rest
marked_from d [] h = tt
marked_from d (b ∷ rest) h = h

-- a walk without fault ends the options
pub ended_options : (bytes rest : List ℕ) → Ended bytes rest None → EndsOptions bytes (length bytes - length rest)
ended_options bytes rest h =
    let n : length bytes - length rest ≡ length h.text = omega (arith, ap length h.whole, length-append h.text rest) in
    let front : take (length bytes - length rest) bytes ≡ h.text = ap (take (length bytes - length rest)) h.whole ∙ take_at h.text rest _ (sym n) in
    let back : drop (length bytes - length rest) bytes ≡ rest = ap (drop (length bytes - length rest)) h.whole ∙ drop_at h.text rest _ (sym n) in
    let alone = spelled_alone (options_in 0 bytes) h.text h.spells in
    let same : options_in 0 h.text ≡ options_in 0 bytes = ap (λ (x : Walk). x.options) alone in
    record {
      within = omega arith;
      spelling = rw front (ap (λ (x : Walk). x.rest) alone);
      spells = rw front (rw same h.spells);
      marked = rw back (marked_from _ rest h.ends);
    }

-- the options end at a marker
pub marker_ends : (bytes : List ℕ) (d : ℕ) (rest : List ℕ) → Continues bytes d rest → length rest ≢ 0 → get_or rest 0 0 ≡ 255 → EndsOptions bytes (length bytes - length rest)
marker_ends bytes d [] h n m = absurd (n refl)
marker_ends bytes d (b ∷ rest) h n m = ended_options bytes (b ∷ rest) (continues_ends bytes d (b ∷ rest) None h (walk_marker d b rest m))

-- the options end with the bytes
pub all_ends : (bytes : List ℕ) (d : ℕ) (rest : List ℕ) → Continues bytes d rest → length rest ≡ 0 → EndsOptions bytes (length bytes)
all_ends bytes d rest h e =
    let nothing = nil_from_length rest e in
    let ended = ended_options bytes rest (continues_ends bytes d rest None h (walk_nothing d rest e ∙ ap (λ (y : List ℕ). record { options = []; rest = y; fault = None }) (sym nothing))) in
    let n : length bytes - length rest ≡ length bytes = omega arith in
    subst (EndsOptions bytes) n ended
