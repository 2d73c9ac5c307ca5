-- To be believed: how an option is protected (RFC 8613, 4.1; RFC 8768; RFC 9175; RFC 9177; RFC 9668).
use Rattle.std.specs.Prelude.{ℕ, Bool, true, false, ◌==◌, if◌then◌else◌, List, [], ◌∷◌, filter}
use Rattle.osc_coap.specs.declared.class.Class.{Class}
use Rattle.osc_coap.specs.declared.class.Class.TheVariants.{E, U, Both}
use Rattle.osc_coap.specs.OptionSpelling.{Entry}

-- If-Match to Request-Tag, with their classes (RFC 8613, 4.1; RFC 8768, 3; RFC 9175, 2.2.1 and 3.2.1; RFC 9177, 4.1; RFC 9668, 3.1)
abbrev pub class_rows : List (ℕ × Class)
class_rows = (1, E) ∷ (3, U) ∷ (4, E) ∷ (5, E) ∷ (6, Both) ∷ (7, U) ∷ (8, E) ∷ (9, U) ∷ (11, E) ∷ (12, E) ∷ (14, Both) ∷ (15, E) ∷ (16, U) ∷ (17, E) ∷ (19, Both) ∷ (20, E) ∷ (21, U) ∷ (23, Both) ∷ (27, Both) ∷ (28, Both) ∷ (31, Both) ∷ (35, U) ∷ (39, U) ∷ (60, Both) ∷ (252, Both) ∷ (258, Both) ∷ (292, Both) ∷ []

-- the class of a number by these rows, or E if no row has it (RFC 8613, 4.1)
abbrev pub class_by : List (ℕ × Class) → ℕ → Class
class_by [] number = E
class_by (row ∷ rows) number = if number == row.0 then row.1 else class_by rows number

-- the class of an option by its number (RFC 8613, 4.1)
abbrev pub class : ℕ → Class
class number = class_by class_rows number

-- options of this class are written outside, and stay readable (RFC 8613, 4.1.2)
abbrev pub is_outer : Class → Bool
is_outer U = true
is_outer other = false

-- options of this class are written inside; own rule: so are those of both classes (RFC 8613, 4.1.1)
abbrev pub is_inner : Class → Bool
is_inner U = false
is_inner other = true

-- the options that go into the plaintext, in order (RFC 8613, 5.3)
abbrev pub inner_options : List Entry → List Entry
inner_options entries = filter (λ entry. is_inner (class entry.0)) entries

-- the options that stay outside, in order (RFC 8613, 4.1.2)
abbrev pub outer_options : List Entry → List Entry
outer_options entries = filter (λ entry. is_outer (class entry.0)) entries
