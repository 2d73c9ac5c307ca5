-- The options of one side, and what a plain message says inside.
use Rattle.std.proofs.Common.{◌≡◌, ℕ, ◌+◌, ◌||◌, Bool, true, false, List, [], ◌∷◌, length, refl, sym, ap, ◌∙◌, if◌then◌else◌}
use Rattle.osc_coap.specs.Class.{class, inner_options, is_inner}
use Rattle.osc_coap.specs.Datagram.{Parts}
use Rattle.osc_coap.specs.Inner.{InnerParts, inner_length}
use Rattle.osc_coap.specs.OptionSpelling.{Entry, marked, spelling_length}
use Rattle.osc_coap.specs.Search.{has_number}
use Rattle.osc_protect.specs.OptionSets.{counts_as_observe, is_behind, is_in_front, is_outside, sought_behind}
use Rattle.osc_protect.specs.Protection.{emptied}
use Rattle.osc_protect.specs.Sealed.{front_options, inside, options_behind, options_outside}
use Rattle.osc_protect.specs.Split.{Behind, Inside, Outside, Side, entry_on, options_on, said}

-- an option without its value, or as it is
abbrev pub without_value : Bool → Entry → Entry
without_value b entry = if b then (entry.0, []) else entry

-- it keeps its number
pub number_kept : (b : Bool) (entry : Entry) → (without_value b entry).0 ≡ entry.0
number_kept true entry = refl
number_kept false entry = refl

-- on either side
pub number_on : (side : Side) (entry : Entry) → (entry_on side entry).0 ≡ entry.0
number_on (Outside sought) entry = refl
number_on Behind entry = refl
number_on (Inside sought) entry = number_kept (counts_as_observe sought entry) entry

-- so the same numbers are there
pub numbers_kept : (q : ℕ → Bool) (sought : Bool) (entries : List Entry) → has_number q (emptied sought entries) ≡ has_number q entries
numbers_kept q sought [] = refl
numbers_kept q sought (entry ∷ entries) =
    ap (λ (n : ℕ). q n || has_number q (emptied (sought_behind sought entry) entries)) (number_kept (counts_as_observe sought entry) entry)
    ∙ ap (λ (b : Bool). q entry.0 || b) (numbers_kept q (sought_behind sought entry) entries)

-- the options outside stand there as they are
pub outside_options : (sought : Bool) (entries : List Entry) → options_on (Outside sought) entries ≡ options_outside sought entries
outside_options sought [] = refl
outside_options sought (entry ∷ entries) = ap (λ (es : List Entry). if is_outside sought entry then entry ∷ es else es) (outside_options (sought_behind sought entry) entries)

-- where no Observe is sought, they are those that stand there anyway
pub unsought_outside : (entries : List Entry) → options_outside false entries ≡ front_options entries
unsought_outside [] = refl
unsought_outside (entry ∷ entries) = ap (λ (es : List Entry). if is_in_front entry.0 then entry ∷ es else es) (unsought_outside entries)

-- so do those behind the OSCORE option
pub behind_options : (entries : List Entry) → options_on Behind entries ≡ options_behind entries
behind_options [] = refl
behind_options (entry ∷ entries) = ap (λ (es : List Entry). if is_behind entry.0 then entry ∷ es else es) (behind_options entries)

pub behind_read : (p : Parts) (os : List Entry) → os ≡ p.options → options_on Behind os ≡ options_behind p.options
behind_read p os e = ap (options_on Behind) e ∙ behind_options p.options

-- of a message that was read
pub outside_read : (sought : Bool) (p : Parts) (os : List Entry) → os ≡ p.options → options_on (Outside sought) os ≡ options_outside sought p.options
outside_read sought p os e = ap (options_on (Outside sought)) e ∙ outside_options sought p.options

-- so do those inside, of a message that isn't a notification
plain_options : (entries : List Entry) → options_on (Inside false) entries ≡ inner_options entries
plain_options [] = refl
plain_options (entry ∷ entries) = ap (λ (es : List Entry). if is_inner (class entry.0) then entry ∷ es else es) (plain_options entries)

-- and of a notification, with an empty Observe
notified_options : (sought : Bool) (entries : List Entry) → options_on (Inside sought) entries ≡ inner_options (emptied sought entries)
notified_options sought [] = refl
notified_options sought (entry ∷ entries) =
    let counts = counts_as_observe sought entry in
    let rest : List Entry = inner_options (emptied (sought_behind sought entry) entries) in
    ap (λ (es : List Entry). if is_inner (class entry.0) then without_value counts entry ∷ es else es) (notified_options (sought_behind sought entry) entries)
    ∙ ap (λ (n : ℕ). if is_inner (class n) then without_value counts entry ∷ rest else rest) (sym (number_kept counts entry))

-- a plaintext of a message with these options
abbrev pub inner_with : Parts → List Entry → InnerParts
inner_with p entries = record { code = p.code; options = entries; payload = p.payload }

-- what goes inside
pub inside_said : (notifies : Bool) (p : Parts) → inside (said notifies p) ≡ inner_with p (options_on (Inside notifies) p.options)
inside_said true p = ap (inner_with p) (sym (notified_options true p.options))
inside_said false p = ap (inner_with p) (sym (plain_options p.options))

pub inside_read : (notifies : Bool) (p : Parts) (os : List Entry) (pay : List ℕ) → os ≡ p.options → pay ≡ p.payload
    → ◌≡◌ {A = InnerParts} (record { code = p.code; options = options_on (Inside notifies) os; payload = pay }) (inside (said notifies p))
inside_read notifies p os pay e k = rw (e, k) (sym (inside_said notifies p))

-- how long it is
pub inside_length : (notifies : Bool) (p : Parts) → inner_length (inside (said notifies p)) ≡ 1 + spelling_length 0 (options_on (Inside notifies) p.options) + length (marked p.payload)
inside_length notifies p = ap inner_length (inside_said notifies p)
