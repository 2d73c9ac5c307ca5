-- To be believed: how values print (own rule: a name, one space, the value, a newline). name and text are lists of characters, bytes are
-- any bytes.
use Rattle.std.specs.Prelude.{ℕ, ◌/◌, ◌%◌, List, [], ◌∷◌, ◌++◌, Option, Some, None, option_map, codes}
use Rattle.std.specs.Fmt.{decimal}
use Rattle.std.specs.Int.{to_be_bytes, w16}
use Rattle.hex.specs.Hex.{encode_lower}
use Rattle.osc_coap.specs.declared.message.Kind.{Kind}
use Rattle.osc_coap.specs.declared.message.Kind.TheVariants.{Con, Non, Ack, Rst}
use Rattle.osc_coap.specs.OptionSpelling.{Entry}
use Rattle.osc_context.specs.OptionRefusal.{option_error_text}
use Rattle.osc_context.specs.OscoreValue.{OscoreParts}
use Rattle.osc_context.specs.PartialIv.{partial_iv_of}
use Rattle.osc_context.specs.declared.option_error.OptionError.{OptionError}

-- bytes in lower-case hex, or a dash if there are none (own rule)
abbrev pub bytes_text : List ℕ → List ℕ
bytes_text [] = codes "-"
bytes_text (b ∷ bytes) = encode_lower (b ∷ bytes)

-- the name of a message's Type (RFC 7252, 4)
abbrev pub kind_text : Kind → List ℕ
kind_text Con = codes "CON"
kind_text Non = codes "NON"
kind_text Ack = codes "ACK"
kind_text Rst = codes "RST"

-- a code as its class, a dot and two digits of detail (RFC 7252, 3)
abbrev pub code_text : ℕ → List ℕ
code_text code = decimal (code / 32) ++ (codes "." ++ (decimal (code % 32 / 10) ++ decimal (code % 32 % 10)))

-- a number in decimal, or a dash if there is none (own rule)
abbrev pub number_text : Option ℕ → List ℕ
number_text None = codes "-"
number_text (Some n) = decimal n

-- the line with a name and a text (own rule)
abbrev pub text_line : List ℕ → List ℕ → List ℕ
text_line name text = name ++ (codes " " ++ (text ++ codes "\n"))

-- the line with bytes only (own rule)
abbrev pub hex_line : List ℕ → List ℕ
hex_line bytes = bytes_text bytes ++ codes "\n"

-- the line with a name and bytes (own rule)
abbrev pub bytes_line : List ℕ → List ℕ → List ℕ
bytes_line name bytes = text_line name (bytes_text bytes)

-- the line with a message's Type (own rule)
abbrev pub kind_line : Kind → List ℕ
kind_line kind = text_line (codes "kind") (kind_text kind)

-- the line with a Message ID: its two bytes, high byte first (own rule)
abbrev pub message_id_line : ℕ → List ℕ
message_id_line n = bytes_line (codes "mid") (to_be_bytes w16 n)

-- the line with a code (own rule)
abbrev pub code_line : ℕ → List ℕ
code_line code = text_line (codes "code") (code_text code)

-- the lines with a message's Type, Message ID, token and code (own rule)
abbrev pub head_lines : Kind → ℕ → List ℕ → ℕ → List (List ℕ)
head_lines kind message_id token code = kind_line kind ∷ message_id_line message_id ∷ bytes_line (codes "token") token ∷ code_line code ∷ []

-- the line with a message's number, or with a dash if it has none (own rule)
abbrev pub number_line : Option ℕ → List ℕ
number_line n = text_line (codes "number") (number_text n)

-- the line with a name and bytes, or no line if the part is absent (own rule)
abbrev pub part_lines : List ℕ → Option (List ℕ) → List (List ℕ)
part_lines name None = []
part_lines name (Some bytes) = bytes_line name bytes ∷ []

-- the line with an option: its number and its value (own rule)
abbrev pub option_line : Entry → List ℕ
option_line entry = text_line (codes "option") (decimal entry.0 ++ (codes " " ++ bytes_text entry.1))

-- bytes in hex, a dash for no bytes, or `none` if the part is absent (own rule)
abbrev pub optional_text : Option (List ℕ) → List ℕ
optional_text None = codes "none"
optional_text (Some bytes) = bytes_text bytes

-- the line with what a value of the OSCORE option says: Partial IV, kid context and kid (own rule)
abbrev pub oscore_line : OscoreParts → List ℕ
oscore_line v = text_line (codes "oscore") (codes "piv " ++ (optional_text (option_map partial_iv_of v.piv) ++ (codes " context " ++ (optional_text v.kid_context ++ (codes " kid " ++ optional_text v.kid)))))

-- the line for a refused value of the OSCORE option: the name of the reason (own rule)
abbrev pub oscore_fault_line : OptionError → List ℕ
oscore_fault_line e = text_line (codes "oscore") (codes "fault " ++ option_error_text e)

-- the line for a refusal: its text, which is its name and, for a format fault, also the place (own rule)
abbrev pub refused_line : List ℕ → List ℕ
refused_line text = text_line (codes "refused:") text
