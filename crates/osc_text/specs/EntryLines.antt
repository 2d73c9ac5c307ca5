-- To be believed: what the printed entries of a server's log and of a client's log have in common (own rule: the words).
use Rattle.std.specs.Prelude.{ℕ, List, [], ◌∷◌, ◌++◌, codes}
use Rattle.std.specs.Fmt.{decimal}
use Rattle.osc_coap.specs.Inner.{InnerParts}
use Rattle.osc_coap.specs.OptionSpelling.{Entry}
use Rattle.osc_coap.specs.Text.{fault_name}
use Rattle.osc_coap.specs.declared.format_error.Fault.{Fault}
use Rattle.osc_text.specs.Lines.{bytes_text, code_text}

-- the line of an entry: its text and a newline (own rule)
abbrev pub entry_line : List ℕ → List ℕ
entry_line text = text ++ codes "\n"

-- a fault and its place (own rule)
abbrev pub fault_text : Fault → ℕ → List ℕ
fault_text fault place = fault_name fault ++ (codes " " ++ decimal place)

-- an option: its number and its value (own rule)
abbrev pub option_text : Entry → List ℕ
option_text entry = decimal entry.0 ++ (codes ":" ++ bytes_text entry.1)

-- the options after the first, with a comma before each (own rule)
abbrev pub more_options_text : List Entry → List ℕ
more_options_text [] = []
more_options_text (entry ∷ entries) = codes "," ++ (option_text entry ++ more_options_text entries)

-- options joined by commas, or a dash if there are none (own rule)
abbrev pub options_text : List Entry → List ℕ
options_text [] = codes "-"
options_text (entry ∷ entries) = option_text entry ++ more_options_text entries

-- what a delivery says: code, options and payload (own rule)
abbrev pub message_text : InnerParts → List ℕ
message_text m = code_text m.code ++ (codes " " ++ (options_text m.options ++ (codes " " ++ bytes_text m.payload)))

-- the line of a refusal with this text (own rule)
abbrev pub not_done_line : List ℕ → List ℕ
not_done_line text = entry_line (codes "refused: " ++ text)

-- the line for a plain message that has a fault (own rule)
abbrev pub bad_plain_line : Fault → ℕ → List ℕ
bad_plain_line fault place = entry_line (codes "bad-plain " ++ fault_text fault place)

-- the line of a restart (own rule)
abbrev pub restarted_line : List ℕ
restarted_line = entry_line (codes "restarted")

-- the line of another context in the place of an end's (own rule)
abbrev pub replaced_line : List ℕ
replaced_line = entry_line (codes "replaced")
