-- To be believed: what a CoAP datagram is (RFC 7252, 3). p is what a message says, and bytes is the datagram.
use Rattle.std.specs.Prelude.{◌≡◌, ℕ, ◌+◌, ◌*◌, ◌/◌, ◌%◌, ◌≤◌, List, [], ◌∷◌, ◌++◌, length}
use Rattle.osc_coap.specs.declared.message.Kind.{Kind}
use Rattle.osc_coap.specs.declared.message.Kind.TheVariants.{Con, Non, Ack, Rst}
use Rattle.osc_coap.specs.OptionSpelling.{Entry, AreBytes, Spells, marked, spelling_length}

-- what a message says: its head's fields, token, options and payload (RFC 7252, 3)
pub record Parts : Type 0 where
  pub kind : Kind
  pub code : ℕ
  pub message_id : ℕ
  pub token : List ℕ
  pub options : List Entry
  pub payload : List ℕ

-- the number that the two Type bits of a head hold for a message's Type (RFC 7252, 3)
abbrev pub kind_number : Kind → ℕ
kind_number Con = 0
kind_number Non = 1
kind_number Ack = 2
kind_number Rst = 3

-- version 1, Type and token length in one byte; the code; the Message ID, high byte first (RFC 7252, 3)
abbrev pub head : Parts → List ℕ
head p = (64 + 16 * kind_number p.kind + length p.token) ∷ p.code ∷ (p.message_id / 256) ∷ (p.message_id % 256) ∷ []

-- the bytes are a message with these parts; own rule: at most 65,535 bytes (RFC 7252, 3 and 4.1)
pub record IsDatagram (p : Parts) (bytes : List ℕ) : Type 0 where
  pub are_bytes : AreBytes bytes
  pub fits : length bytes ≤ 65535
  pub token : length p.token ≤ 8
  pub spelled : List ℕ
  pub spells : Spells 0 p.options spelled
  pub whole : bytes ≡ head p ++ (p.token ++ (spelled ++ marked p.payload))
  pub empty : p.code ≡ 0 → length bytes ≡ 4

-- how many bytes the datagram with these parts has (RFC 7252, 3)
abbrev pub datagram_length : Parts → ℕ
datagram_length p = 4 + length p.token + spelling_length 0 p.options + length (marked p.payload)
