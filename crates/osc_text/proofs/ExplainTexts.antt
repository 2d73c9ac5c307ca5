-- What `explain` prints: a line for each OSCORE option, and the one text of a datagram.
use Rattle.std.proofs.Common.{◌≡◌, ℕ, ◌<◌, ◌==◌, Bool, true, false, List, [], ◌∷◌, ◌++◌, length, get_or, refl, sym, ◌∙◌, ◌⊎◌, inl, inr, subst, Option, Result, Ok, Err}
use Rattle.std.specs.Prelude.{if◌then◌else◌}
use Rattle.std.proofs.lemmas.List.{drop_at, take_at}
use Rattle.std.proofs.lemmas.List.Elements.{All-drop, All-from_get_or, All-tail, All-take}
use Rattle.osc_coap.specs.Datagram.{Parts, IsDatagram, head}
use Rattle.osc_coap.specs.Fault.{HasFault}
use Rattle.osc_coap.specs.Laws.{BytesAreDatagramOrFaulty}
use Rattle.osc_coap.specs.OptionNumbers.{oscore}
use Rattle.osc_coap.specs.Search.{values_at}
use Rattle.osc_coap.specs.OptionSpelling.{AreBytes, Entry, IsOption, Spells}
use Rattle.osc_coap.specs.Text.{error_text}
use Rattle.osc_coap.specs.declared.format_error.Fault.{Fault as FormatFault}
use Rattle.osc_coap.specs.declared.format_error.FormatError.{FormatError}
use Rattle.osc_context.specs.Laws.{ValueOrRefusal}
use Rattle.osc_text.specs.Explanation.{ExplainText, MessageText, ValueLine, ValueLines, message_lines}
use Rattle.osc_text.specs.Explanation.ExplainText.{explained, refused}
use Rattle.osc_text.specs.Explanation.ValueLine.{says, faulty}
use Rattle.osc_text.specs.Lines.{oscore_line, oscore_fault_line, refused_line}
use Rattle.osc_text.specs.Written.{Stops, Writes}
use Rattle.osc_text.specs.declared.fault.Fault.{Fault}
use Rattle.osc_text.proofs.Appending.{SoFar, so_far_more, so_far_error}

-- ---- the line of a value

-- ---- the lines of values

-- what writes the line of a value writes the lines of that value alone
pub writes_alone : (value : List ℕ) (old new : Option (List ℕ)) (r : Result (Unit {0}) Fault) → ((line : List ℕ) → ValueLine value line → Writes old new (line ∷ []) r) → (lines : List (List ℕ)) → ValueLines (value ∷ []) lines → Writes old new lines r
writes_alone value old new r one [] h = absurd h
writes_alone value old new r one (line ∷ []) h = one line h.0
writes_alone value old new r one (line ∷ other ∷ lines) h = absurd h.1

-- lines of some values, parted by whether the first is an OSCORE option's
parted : (is_oscore : Bool) (value : List ℕ) (left : List (List ℕ)) (lines : List (List ℕ)) → ValueLines (if is_oscore then value ∷ left else left) lines → (own : List (List ℕ)) × (rest : List (List ℕ)) × ValueLines (if is_oscore then value ∷ [] else []) own × ValueLines left rest × (lines ≡ own ++ rest)
parted false value left lines h = ([], lines, tt, h, refl)
parted true value left [] h = absurd h
parted true value left (line ∷ lines) h = (line ∷ [], lines, (h.0, tt), h.1, refl)

-- the lines of some options are those of the first and those of the rest
pub lines_parted : (entry : Entry) (entries : List Entry) (lines : List (List ℕ)) → ValueLines (values_at oscore (entry ∷ entries)) lines → (own : List (List ℕ)) × (rest : List (List ℕ)) × ValueLines (values_at oscore (entry ∷ [])) own × ValueLines (values_at oscore entries) rest × (lines ≡ own ++ rest)
lines_parted entry entries lines h = parted (entry.0 == oscore) entry.1 (values_at oscore entries) lines h

-- ---- writing one option after another

-- of the lines of all options those of the options left are still to be written
abbrev pub Continues : Option (List ℕ) → Option (List ℕ) → List Entry → List Entry → Type 0
Continues old now all left = (lines : List (List ℕ)) → ValueLines (values_at oscore all) lines → (rest : List (List ℕ)) × SoFar old now lines rest × ValueLines (values_at oscore left) rest

-- an option's lines are written, whatever they are
abbrev pub WritesOwn : Option (List ℕ) → Option (List ℕ) → Entry → Result (Unit {0}) Fault → Type 0
WritesOwn now new entry r = (own : List (List ℕ)) → ValueLines (values_at oscore (entry ∷ [])) own → Writes now new own r

-- one option more is written
pub continues_more : (old now new : Option (List ℕ)) (all left : List Entry) (entry : Entry) → Continues old now all (entry ∷ left) → WritesOwn now new entry (Ok tt) → Continues old new all left
continues_more old now new all left entry so_far own lines h =
    let before = so_far lines h in
    let parts = lines_parted entry left before.0 before.2 in
    let reached = subst (SoFar old now lines) parts.4 before.1 in
    (parts.1, so_far_more old now new lines (parts.0) (parts.1) reached (own (parts.0) parts.2), parts.3)

-- an option's line could not be written
pub continues_error : (old now new : Option (List ℕ)) (all left : List Entry) (entry : Entry) (e : Fault) → Continues old now all (entry ∷ left) → WritesOwn now new entry (Err e) → (lines : List (List ℕ)) → ValueLines (values_at oscore all) lines → Stops old new lines e
continues_error old now new all left entry e so_far own lines h =
    let before = so_far lines h in
    let parts = lines_parted entry left before.0 before.2 in
    let reached = subst (SoFar old now lines) parts.4 before.1 in
    so_far_error old now new lines (parts.0) (parts.1) e reached (own (parts.0) parts.2)

-- ---- each datagram has a text

-- bytes in front of others, and bytes behind others
bytes_front : (xs ys : List ℕ) → AreBytes (xs ++ ys) → AreBytes xs
bytes_front xs ys h = subst AreBytes (take_at xs ys (length xs) refl) (All-take (λ b. b < 256) (length xs) (xs ++ ys) h)

bytes_back : (xs ys : List ℕ) → AreBytes (xs ++ ys) → AreBytes ys
bytes_back xs ys h = subst AreBytes (drop_at xs ys (length xs) refl) (All-drop (λ b. b < 256) (length xs) (xs ++ ys) h)

-- the value of an option of bytes is bytes
value_bytes : (delta : ℕ) (value option : List ℕ) → IsOption delta value option → AreBytes option → AreBytes value
value_bytes delta value option is_option h =
    bytes_back is_option.length_bytes value (bytes_back is_option.delta_bytes _ (All-tail (λ b. b < 256) _ _ (subst AreBytes is_option.whole h)))

-- bytes have a line as an OSCORE option's value
each_value : ValueOrRefusal → (value : List ℕ) → AreBytes value → (line : List ℕ) × ValueLine value line
each_value law value bytes = elim (law value bytes) [
  | inl it ↦ (oscore_line (it.0), says (it.0) it.1 refl)
  | inr it ↦ (oscore_fault_line (it.0), faulty (it.0) it.1 refl)
]

-- a line for the first option, if it is an OSCORE option, and the lines of the rest
joined : (is_oscore : Bool) (value : List ℕ) (left : List (List ℕ)) (line : List ℕ) (lines : List (List ℕ)) → ValueLine value line → ValueLines left lines → (all : List (List ℕ)) × ValueLines (if is_oscore then value ∷ left else left) all
joined false value left line lines own rest = (lines, rest)
joined true value left line lines own rest = (line ∷ lines, (own, rest))

-- the options of bytes have a line for each OSCORE option
each_option : ValueOrRefusal → (d : ℕ) (entries : List Entry) (text : List ℕ) → AreBytes text → Spells d entries text → (lines : List (List ℕ)) × ValueLines (values_at oscore entries) lines
each_option law d [] text bytes spells = ([], tt)
each_option law d (entry ∷ entries) text bytes spells =
    let tail = spells.2 in
    let starts = spells.3 in
    let parted = subst AreBytes starts.2 bytes in
    let rest = each_option law entry.0 entries tail (bytes_back (starts.0) tail parted) spells.4 in
    let own = each_value law entry.1 (value_bytes _ entry.1 (starts.0) starts.1 (bytes_front (starts.0) tail parted)) in
    joined (entry.0 == oscore) entry.1 (values_at oscore entries) (own.0) (rest.0) own.1 rest.1

-- the text of a datagram
pub each_datagram : BytesAreDatagramOrFaulty → ValueOrRefusal → (d : List ℕ) → ((i : ℕ) → get_or d i 0 < 256) → (lines : List (List ℕ)) × (status : ℕ) × ExplainText d lines status
each_datagram each law d fits =
    let bytes : AreBytes d = All-from_get_or (λ b. b < 256) d 0 (λ i lt. fits i) in
    elim (each d bytes) [
      | inl it ↦
          let spelled = bytes_front it.1.spelled _ (bytes_back (it.0).token _ (bytes_back (head (it.0)) _ (subst AreBytes it.1.whole bytes))) in
          let own = each_option law 0 (it.0).options it.1.spelled spelled it.1.spells in
          (message_lines (it.0) ++ own.0, 0, explained (it.0) it.1 (own.0, own.1, refl) refl)
      | inr it ↦
          let e : FormatError = record { fault = it.0; place = it.1 } in
          (refused_line (error_text e) ∷ [], 2, refused e it.2 refl refl)
    ]

-- a text comes with status 0 or 2
pub explain_status : (d : List ℕ) (lines : List (List ℕ)) (n : ℕ) → ExplainText d lines n → (n ≡ 0) ⊎ (n ≡ 2)
explain_status d lines n (explained p is_p text status) = inl status
explain_status d lines n (refused e fault text status) = inr status

-- what a datagram that was read prints
pub message_text : (d : List ℕ) (p : Parts) (lines : List (List ℕ)) (n : ℕ) → ((q : Parts) → IsDatagram q d → p ≡ q) → ((f : FormatFault) (place : ℕ) → HasFault d f place → ⊥) → ExplainText d lines n → MessageText p lines × (n ≡ 0)
message_text d p lines n one none (explained q is_q text status) = (subst (λ (r : Parts). MessageText r lines) (sym (one q is_q)) text, status)
message_text d p lines n one none (refused e fault text status) = absurd (none e.fault e.place fault)

-- what a datagram that was refused prints
pub refusal_text : (d : List ℕ) (e : FormatError) (lines : List (List ℕ)) (n : ℕ) → ((q : Parts) → IsDatagram q d → ⊥) → ((f : FormatFault) (place : ℕ) → HasFault d f place → (e.fault ≡ f) × (e.place ≡ place)) → ExplainText d lines n → (lines ≡ refused_line (error_text e) ∷ []) × (n ≡ 2)
refusal_text d e lines n none one (explained q is_q text status) = absurd (none q is_q)
refusal_text d e lines n none one (refused f fault text status) =
    let same = one f.fault f.place fault in
    (text ∙ sym (rw (same.0, same.1) refl), status)
