-- The cipher of a message, made from an end's identifier and key.
use Rattle.std.proofs.Common.{◌≡◌, ◌+◌, ℕ, List, Option, length, refl}
use Rattle.osc_ccm.specs.Laws.{ProtectionLength}
use Rattle.osc_protect.specs.ContextCipher.{key_under}
use Rattle.osc_context.specs.AdditionalData.{additional_data_of}
use Rattle.osc_context.specs.Nonce.{nonce_of}
use Rattle.osc_context.specs.SecurityContext.{SecurityContext}
use Rattle.osc_protect.specs.Protection.{request_cipher, response_cipher, response_nonce}
use Rattle.osc_protect.specs.Views.{cipher_of}
use Rattle.osc_protect.specs.declared.aead.Aead.{Aead}

pub is_request_cipher : (s : SecurityContext) (a : Aead) (iv kid : List ℕ) (n : ℕ) (m : List ℕ) → kid ≡ s.client → key_under a.cipher ≡ s.client_key → iv ≡ s.common_iv
    → a.nonce ≡ nonce_of iv kid n → a.additional_data.items ≡ additional_data_of kid n → cipher_of a m ≡ request_cipher s n m
unfolding cipher_of request_cipher
is_request_cipher s a iv kid n m client key common nonce additional = rw (nonce, additional, client, key, common) refl

pub is_response_cipher : (s : SecurityContext) (a : Aead) (iv client server : List ℕ) (n : ℕ) (own : Option ℕ) (m : List ℕ) → server ≡ s.server → key_under a.cipher ≡ s.server_key → iv ≡ s.common_iv → client ≡ s.client
    → a.nonce ≡ response_nonce iv client server n own → a.additional_data.items ≡ additional_data_of client n → cipher_of a m ≡ response_cipher s n own m
unfolding cipher_of response_cipher
is_response_cipher s a iv client server n own m end key common other nonce additional = rw (nonce, additional, end, key, common, other) refl

-- what protects a request is longer than its plaintext by a tag
pub request_cipher_long : ProtectionLength → (s : SecurityContext) (n : ℕ) (m : List ℕ) → length (request_cipher s n m) ≡ length m + 8
unfolding request_cipher
request_cipher_long long s n m = long _ _ _ m
