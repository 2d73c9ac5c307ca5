-- How the code is seen: what messages, plaintexts and iterators say, in the words of the standard.
use Rattle.std.specs.Prelude.{ℕ, List}
use Rattle.std.specs.Borrow.{Bor}
use Rattle.osc_coap.specs.declared.message.Message.{Message}
use Rattle.osc_coap.specs.declared.inner.Inner.{Inner}
use Rattle.osc_coap.specs.declared.options.Options.{Options}
use Rattle.osc_coap.specs.OptionSpelling.{Entry}
use Rattle.osc_coap.specs.Datagram.{Parts}
use Rattle.osc_coap.specs.Inner.{InnerParts}
use Rattle.osc_coap.specs.Reading.{options_in}

-- what a message that was read says, with its options as a list (how the code is seen)
abbrev pub parts_of : Message → Parts
parts_of m = record { kind = m.kind; code = m.code; message_id = m.message_id; token = m.token.items; options = options_in 0 m.options.now; payload = m.payload.now }

-- what a plaintext that was read says, with its options as a list (how the code is seen)
abbrev pub inner_parts_of : Inner → InnerParts
inner_parts_of m = record { code = m.code; options = options_in 0 m.options.now; payload = m.payload.now }

-- the options that an iterator still has to give, in order (how the code is seen)
abbrev pub options_left : Options → List Entry
options_left s = options_in s.number s.rest.now

-- the number of the option that an iterator gave last, or 0 at first (how the code is seen)
abbrev pub number_before : Options → ℕ
number_before s = s.number

-- an option that an iterator gives: its number, and its value's bytes (how the code is seen)
abbrev pub seen_option : ℕ × Bor (List ℕ) → Entry
seen_option x = (x.0, x.1.now)
