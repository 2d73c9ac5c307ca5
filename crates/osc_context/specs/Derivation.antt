-- To be believed: keys and the Common IV (RFC 8613, 3.2.1). secret and salt are the Master Secret and the Master Salt,
-- id_context is the ID Context if there is one, id is an identifier, type is a text, and len is a number of bytes.
use Rattle.std.specs.Prelude.{ℕ, List, [], ◌∷◌, Option, Some, None, codes}
use Rattle.osc_hkdf.specs.Hkdf.{expand_of, extract_of}
use Rattle.osc_context.specs.Algorithm.{algorithm, key_length, nonce_length}
use Rattle.osc_context.specs.Cbor.{cbor_bytes, cbor_text, cbor_number, cbor_nil, cbor_array}
use Rattle.osc_context.specs.Features.{no_features}
use Rattle.osc_context.specs.SecurityContext.{SecurityContext}

-- the ID Context as a byte string, or nil if there is none (RFC 8613, 3.2.1)
abbrev pub cbor_id_context : Option (List ℕ) → List ℕ
cbor_id_context None = cbor_nil
cbor_id_context (Some bytes) = cbor_bytes bytes

-- the info: the array of identifier, ID Context, algorithm, type and length (RFC 8613, 3.2.1)
unfoldable pub info_of : List ℕ → Option (List ℕ) → List ℕ → ℕ → List ℕ
info_of id id_context type len =
    cbor_array (cbor_bytes id ∷ cbor_id_context id_context ∷ cbor_number algorithm ∷ cbor_text type ∷ cbor_number len ∷ [])

-- the key of the end with this identifier: the output of HKDF for its info, with salt and secret (RFC 8613, 3.2.1)
unfoldable pub key_of : List ℕ → List ℕ → Option (List ℕ) → List ℕ → List ℕ
key_of secret salt id_context id = expand_of (extract_of salt secret) (info_of id id_context (codes "Key") key_length) key_length

-- the Common IV, which is derived with an empty identifier (RFC 8613, 3.2.1)
unfoldable pub common_iv_of : List ℕ → List ℕ → Option (List ℕ) → List ℕ
common_iv_of secret salt id_context = expand_of (extract_of salt secret) (info_of [] id_context (codes "IV") nonce_length) nonce_length

-- the context of a client and a server with these identifiers (RFC 8613, 3.2)
abbrev pub context_of : List ℕ → List ℕ → Option (List ℕ) → List ℕ → List ℕ → SecurityContext
context_of secret salt id_context client server = record {
  client = client;
  client_key = key_of secret salt id_context client;
  server = server;
  server_key = key_of secret salt id_context server;
  common_iv = common_iv_of secret salt id_context;
  id_context = id_context;
  features = no_features;
}
