-- For the proofs: what the values of private functions say, apart from where their bytes lie.
use Rattle.std.specs.Prelude.{◌≡◌, ℕ, ◌+◌, ◌*◌, ◌/◌, ◌%◌, List, slice_index}
use Rattle.std.specs.Borrow.{Bor}
use Rattle.osc_coap.specs.declared.option_header.Pieces.{Pieces}
use Rattle.osc_coap.specs.declared.options.Item.{Item}
use Rattle.osc_coap.specs.declared.head.Head.{Head}
use Rattle.osc_coap.specs.Datagram.{kind_number}
use Rattle.osc_coap.specs.Fault.{HasWholeHead, code_of, token_length_of}
use Rattle.osc_coap.specs.Reading.{Pieced, Taken}

-- a number, and the bytes that a reference points to (how the code is seen)
abbrev pub seen_number : ℕ × Bor (List ℕ) → ℕ × List ℕ
seen_number x = (x.0, x.1.now)

-- an option's delta, its value, and what follows it (how the code is seen)
abbrev pub seen_pieces : Pieces → Pieced
seen_pieces c = record { delta = c.delta; value = c.value.now; rest = c.rest.now }

-- an option, and what follows it (how the code is seen)
abbrev pub seen_item : Item → Taken
seen_item t = record { number = t.number; value = t.value.now; rest = t.rest.now }

-- the head is whole, and has the fields that are in the first four bytes (how the code is seen)
pub record ReadsHead (h : Head) (bytes : List ℕ) : Type 0 where
  pub fine : HasWholeHead bytes
  pub kind : kind_number h.kind ≡ slice_index bytes 0 / 16 % 4
  pub code : h.code ≡ code_of bytes
  pub message_id : h.message_id ≡ 256 * slice_index bytes 2 + slice_index bytes 3
  pub token_length : h.token_len ≡ token_length_of bytes
