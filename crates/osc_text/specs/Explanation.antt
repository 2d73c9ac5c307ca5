-- To be believed: what `explain` prints (RFC 7252, 3; RFC 8613, 6.1; own rule: the lines). d is a datagram, p its
-- parts, value the bytes of an OSCORE option and v what they say.
use Rattle.std.specs.Prelude.{◌≡◌, ℕ, List, [], ◌∷◌, ◌++◌, map, codes}
use Rattle.osc_coap.specs.Datagram.{Parts, IsDatagram}
use Rattle.osc_coap.specs.Fault.{HasFault}
use Rattle.osc_coap.specs.OptionNumbers.{oscore}
use Rattle.osc_coap.specs.Search.{values_at}
use Rattle.osc_coap.specs.Text.{error_text}
use Rattle.osc_coap.specs.declared.format_error.FormatError.{FormatError}
use Rattle.osc_context.specs.OptionRefusal.{IsFirstValueRefusal}
use Rattle.osc_context.specs.OscoreValue.{OscoreParts, IsOscoreValue}
use Rattle.osc_context.specs.declared.option_error.OptionError.{OptionError}
use Rattle.osc_text.specs.Lines.{head_lines, bytes_line, option_line, oscore_line, oscore_fault_line, refused_line}

-- the line for an OSCORE option's value: what it says, or the first reason to refuse it (RFC 8613, 6.1)
pub data ValueLine (value : List ℕ) (line : List ℕ) : Type 0 where
  says : (v : OscoreParts) → IsOscoreValue v value → line ≡ oscore_line v → ValueLine value line
  faulty : (e : OptionError) → IsFirstValueRefusal value e → line ≡ oscore_fault_line e → ValueLine value line

-- one line for each of these values, in their order (own rule)
abbrev pub ValueLines : List (List ℕ) → List (List ℕ) → Type 0
ValueLines [] [] = Unit {0}
ValueLines [] (line ∷ lines) = ⊥
ValueLines (value ∷ values) [] = ⊥
ValueLines (value ∷ values) (line ∷ lines) = ValueLine value line × ValueLines values lines

-- the lines of the head, all options and the payload (own rule)
abbrev pub message_lines : Parts → List (List ℕ)
message_lines p = head_lines p.kind p.message_id p.token p.code ++ (map option_line p.options ++ (bytes_line (codes "payload") p.payload ∷ []))

-- the lines of a message, and after them one line for each OSCORE option (RFC 8613, 2)
abbrev pub MessageText : Parts → List (List ℕ) → Type 0
MessageText p lines = (said : List (List ℕ)) × ValueLines (values_at oscore p.options) said × (lines ≡ message_lines p ++ said)

-- what `explain` prints for a datagram, and the status: 2 for a refusal (RFC 7252, 3)
pub data ExplainText (d : List ℕ) (lines : List (List ℕ)) (status : ℕ) : Type 0 where
  explained : (p : Parts) → IsDatagram p d → MessageText p lines → status ≡ 0 → ExplainText d lines status
  refused : (e : FormatError) → HasFault d e.fault e.place → lines ≡ refused_line (error_text e) ∷ [] → status ≡ 2 → ExplainText d lines status
