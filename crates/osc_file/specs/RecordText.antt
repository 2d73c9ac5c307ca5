-- To be believed: the text of a record (own rule). r is a record.
use Rattle.std.specs.Prelude.{◌≡◌, ℕ, ◌<◌, ◌^◌, List, [], ◌∷◌, ◌++◌, length, take}
use Rattle.std.specs.Fmt.{decimal}
use Rattle.hex.specs.Hex.{IsBytes, encode_lower}
use Rattle.sha2.specs.Sha256.{sha256}
use Rattle.osc_file.specs.declared.record.Record.{Record}

-- its numbers are below 2 ^ 64, and its fingerprint is 8 bytes (own rule)
pub record Fits (r : Record) : Type 0 where
  pub generation : r.generation < 2 ^ 64
  pub sender : r.numbers.sender < 2 ^ 64
  pub received : r.numbers.received < 2 ^ 64
  pub fingerprint_length : length r.owner.fingerprint ≡ 8
  pub fingerprint_bytes : IsBytes r.owner.fingerprint
  pub device : r.owner.device < 2 ^ 64
  pub inode : r.owner.inode < 2 ^ 64

-- the fields, with a space between them: generation, both numbers, and whose they are (own rule)
unfoldable pub fields_of : Record → List ℕ
fields_of r =
    decimal r.generation ++ 32 ∷ (decimal r.numbers.sender ++ 32 ∷ (decimal r.numbers.received ++ 32 ∷ (encode_lower r.owner.fingerprint ++ 32
    ∷ (decimal r.owner.device ++ 32 ∷ decimal r.owner.inode))))

-- the checksum of a text: the first 8 bytes of its SHA-256, in hex (own rule)
unfoldable pub checksum_of : List ℕ → List ℕ
checksum_of text = encode_lower (take 8 (sha256 text))

-- the one line that is the record: its fields, a space, their checksum, a newline (own rule)
unfoldable pub line_of : Record → List ℕ
line_of r = fields_of r ++ 32 ∷ (checksum_of (fields_of r) ++ 10 ∷ [])
