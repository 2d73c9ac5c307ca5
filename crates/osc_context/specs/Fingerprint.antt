-- To be believed: what tells one sending end from another (own rule). key is its Sender Key, id is its Sender ID.
use Rattle.std.specs.Prelude.{ℕ, List, ◌++◌, take, codes}
use Rattle.osc_hkdf.specs.Hmac.{hmac}

-- the first 8 bytes of the code, under the key, of a fixed text and the identifier (own rule)
unfoldable pub fingerprint_of : List ℕ → List ℕ → List ℕ
fingerprint_of key id = take 8 (hmac key (codes "OSCORE numbers" ++ id))
