-- To be believed: the substitution box of FIPS 197, section 5.1.1, an affine map over the bits of the inverse. b is a
-- byte.
use Rattle.std.specs.Prelude.{ℕ, zero, suc, ◌+◌, ◌*◌, ◌%◌, ◌^◌}
use Rattle.std.specs.Int.{bit_at}
use Rattle.osc_aes.specs.Field.{inverse}

-- bit i of the affine map: b_i + b_(i+4) + b_(i+5) + b_(i+6) + b_(i+7) + c_i, with c = 63 (FIPS 197, 5.1.1)
abbrev pub affine_bit : ℕ → ℕ → ℕ
affine_bit b i =
    (bit_at b i + bit_at b ((i + 4) % 8) + bit_at b ((i + 5) % 8) + bit_at b ((i + 6) % 8)
    + bit_at b ((i + 7) % 8) + bit_at 0x63 i) % 2

-- the number whose n lowest bits are f 0, f 1, .. (FIPS 197, 3.2)
abbrev pub from_bits : ℕ → (ℕ → ℕ) → ℕ
from_bits zero f = 0
from_bits (suc n) f = from_bits n f + f n * 2 ^ n

-- the byte that the substitution box maps a byte to (FIPS 197, 5.1.1)
unfoldable pub substitute : ℕ → ℕ
substitute b = from_bits 8 (affine_bit (inverse b))
