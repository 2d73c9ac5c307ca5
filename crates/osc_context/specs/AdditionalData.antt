-- To be believed: the additional data of a request and of its response (RFC 8613, 5.4). There are two arrays: the
-- external_aad is inside, as a byte string, and the COSE structure of Encrypt0 is outside (RFC 8152, 5.3). kid and the
-- number n are those of the request.
use Rattle.std.specs.Prelude.{ℕ, List, [], ◌∷◌, codes}
use Rattle.osc_context.specs.Algorithm.{algorithm}
use Rattle.osc_context.specs.Cbor.{cbor_bytes, cbor_text, cbor_number, cbor_array}
use Rattle.osc_context.specs.PartialIv.{partial_iv_of}

-- the inner array: version, algorithms, kid, Partial IV, no class I options (RFC 8613, 5.4)
abbrev pub external_aad_of : List ℕ → ℕ → List ℕ
external_aad_of kid n =
    cbor_array (cbor_number 1 ∷ cbor_array (cbor_number algorithm ∷ []) ∷ cbor_bytes kid ∷ cbor_bytes (partial_iv_of n) ∷ cbor_bytes [] ∷ [])

-- the outer array: Encrypt0, an empty protected header, the external_aad as a byte string (RFC 8613, 5.4)
unfoldable pub additional_data_of : List ℕ → ℕ → List ℕ
additional_data_of kid n = cbor_array (cbor_text (codes "Encrypt0") ∷ cbor_bytes [] ∷ cbor_bytes (external_aad_of kid n) ∷ [])
