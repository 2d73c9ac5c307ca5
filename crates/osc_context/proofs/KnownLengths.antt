-- How long nonces and additional data are.
use Rattle.std.proofs.Common.{◌≡◌, ℕ, ◌+◌, ◌<◌, ◌≤◌, List, [], ◌++◌, length, refl, arith, length-append}
use Rattle.std.proofs.lemmas.Grind.{common_steps}
use Rattle.osc_context.specs.Cbor.{cbor_bytes}
use Rattle.osc_context.specs.PartialIv.{partial_iv_of}
use Rattle.osc_context.specs.Nonce.{nonce_of}
use Rattle.osc_context.specs.AdditionalData.{external_aad_of, additional_data_of}
use Rattle.osc_context.proofs.PartialIvs.{iv_len}

-- a nonce has 13 bytes
pub length-nonce_of : (iv id : List ℕ) (n : ℕ) → length (nonce_of iv id n) ≡ 13
unfolding nonce_of
length-nonce_of iv id n = refl

-- a short byte string takes one byte more
length-cbor_bytes : (bytes : List ℕ) → length bytes < 24 → length (cbor_bytes bytes) ≡ 1 + length bytes
length-cbor_bytes bytes lt = grind (arith, common_steps)

-- the inner array has 11 to 19 bytes with a short kid
pub length-external_aad_of : (kid : List ℕ) (n : ℕ) → length kid ≤ 7 → length (external_aad_of kid n) ≡ 6 + (1 + length kid) + length (partial_iv_of n)
length-external_aad_of kid n le =
    let short = iv_len n in
    let few : length kid < 24 = omega arith in
    let piv : length (partial_iv_of n) < 24 = omega (arith, short.1) in
    omega (arith, length-cbor_bytes kid few, length-cbor_bytes (partial_iv_of n) piv, length-append (cbor_bytes kid) (cbor_bytes (partial_iv_of n) ++ (cbor_bytes [] ++ [])), length-append (cbor_bytes (partial_iv_of n)) (cbor_bytes [] ++ []))

-- the outer array has at most 31 bytes with a short kid
pub length-additional_data_of : (kid : List ℕ) (n : ℕ) → length kid ≤ 7 → (0 < length (additional_data_of kid n)) × (length (additional_data_of kid n) ≤ 31)
unfolding additional_data_of
length-additional_data_of kid n le =
    let short = iv_len n in
    let inner = length-external_aad_of kid n le in
    let few : length (external_aad_of kid n) < 24 = omega (arith, inner, short.1) in
    let outer = length-cbor_bytes (external_aad_of kid n) few in
    (omega arith, omega (arith, inner, outer, short.1, length-append (cbor_bytes (external_aad_of kid n)) []))
