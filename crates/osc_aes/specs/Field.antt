-- To be believed: the field of 256 elements of FIPS 197, section 4. An element is a number below 256; its bit i is the
-- coefficient of x^i. a and b are elements, and n counts bits or factors.
use Rattle.std.specs.Prelude.{◌≡◌, ℕ, zero, suc, ◌+◌, ◌*◌, ◌<◌, ◌^◌, bit_xor}
use Rattle.std.specs.Int.{bit_at}

-- the polynomial x^8 + x^4 + x^3 + x + 1, by which products are reduced (FIPS 197, 4.2)
abbrev pub modulus : ℕ
modulus = 0x11B

-- the product of two polynomials over bits, with only the n lowest terms of b (FIPS 197, 4.2)
abbrev pub polynomial_product : ℕ → ℕ → ℕ → ℕ
polynomial_product zero a b = 0
polynomial_product (suc n) a b = bit_xor (polynomial_product n a b) (a * 2 ^ n * bit_at b n)

-- the remainder of a polynomial below x^(8 + n) modulo the modulus (FIPS 197, 4.2)
abbrev pub polynomial_remainder : ℕ → ℕ → ℕ
polynomial_remainder zero a = a
polynomial_remainder (suc n) a = polynomial_remainder n (bit_xor a (modulus * 2 ^ n * bit_at a (8 + n)))

-- the product of two elements (FIPS 197, 4.2)
unfoldable pub mul : ℕ → ℕ → ℕ
mul a b = polynomial_remainder 7 (polynomial_product 8 a b)

-- an element to the power n (FIPS 197, 5.2)
unfoldable pub power : ℕ → ℕ → ℕ
power a zero = 1
power a (suc n) = mul a (power a n)

-- the product a^2 * a^4 * .. * a^(2^n) of squares of an element (FIPS 197, 4.2)
unfoldable pub product_of_squares : ℕ → ℕ → ℕ
product_of_squares zero a = 1
product_of_squares (suc n) a = mul (mul a a) (product_of_squares n (mul a a))

-- the inverse of an element, computed as a^254, so that the inverse of 0 is 0 (FIPS 197, 5.1.1)
unfoldable pub inverse : ℕ → ℕ
inverse a = product_of_squares 7 a

-- every element except 0 times its inverse is 1 (FIPS 197, 4.2)
abbrev pub ElementsHaveInverses : Type 0
ElementsHaveInverses = (a : ℕ) → 0 < a → a < 256 → mul a (inverse a) ≡ 1
