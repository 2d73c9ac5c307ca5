-- To be believed: what the cipher of a message takes besides the plaintext, and what that input fixes (RFC 8613, 5): a contract of laws.rt.
-- s and t are security contexts, n, j and k are numbers of requests, a and b are whether requests register an observation, i is a
-- response's own Partial IV, own and other are such a number or none, m and l are messages, d and e are datagrams.
use Rattle.std.specs.Prelude.{◌≡◌, ◌≢◌, ◌<◌, ◌^◌, ℕ, Bool, List, Option, Some, None, IfSome}
use Rattle.osc_coap.specs.Inner.{InnerParts}
use Rattle.osc_context.specs.SecurityContext.{SecurityContext, IsUsable}
use Rattle.osc_context.specs.Nonce.{nonce_of}
use Rattle.osc_context.specs.AdditionalData.{additional_data_of}
use Rattle.osc_ccm.specs.Ccm.{ccm}
use Rattle.osc_protect.specs.Protection.{Protects, request_cipher, requests, response_cipher, response_nonce, responses_to}

-- what the cipher of a message takes besides the plaintext (RFC 8613, 5)
pub record CipherInput : Type 0 where
  pub key : List ℕ
  pub nonce : List ℕ
  pub additional_data : List ℕ

-- the input that seals request n: the client's key and nonce, the request's additional data (RFC 8613, 5, 5.2 and 5.4)
abbrev pub request_seal : SecurityContext → ℕ → CipherInput
request_seal s n = record { key = s.client_key; nonce = nonce_of s.common_iv s.client n; additional_data = additional_data_of s.client n }

-- the input that seals a response to request n: the server's key, the response's nonce, the request's additional data (RFC 8613, 5, 5.2 and 5.4)
abbrev pub response_seal : SecurityContext → ℕ → Option ℕ → CipherInput
response_seal s n own = record { key = s.server_key; nonce = response_nonce s.common_iv s.client s.server n own; additional_data = additional_data_of s.client n }

-- the ciphertext and tag that protect a plaintext under this input (RFC 8613, 5)
abbrev pub ccm_of : CipherInput → List ℕ → List ℕ
ccm_of input plaintext = ccm input.key input.nonce input.additional_data plaintext

-- for requests: the cipher uses this input, the input belongs to one number, and one payload under it protects one message (RFC 8613, 5)
pub record OneRequestInput : Type 0 where
  pub cipher : (s : SecurityContext) (n : ℕ) (plaintext : List ℕ) → request_cipher s n plaintext ≡ ccm_of (request_seal s n) plaintext
  pub number : (s : SecurityContext) (n k : ℕ) → IsUsable s → n < 2 ^ 40 → k < 2 ^ 40 → request_seal s n ≡ request_seal s k → n ≡ k
  pub message : (s t : SecurityContext) (n k : ℕ) (m l : InnerParts) (d e : List ℕ) (x : Protects (requests s) n m d) (y : Protects (requests t) k l e)
      → request_seal s n ≡ request_seal t k → x.outer.payload ≡ y.outer.payload → m ≡ l

-- the same for responses, notifications or not: the input belongs to the request's number and to one Partial IV or none; no Partial IV of a response gives the nonce of a request
-- (RFC 8613, 5 and 5.2)
pub record OneResponseInput : Type 0 where
  pub cipher : (s : SecurityContext) (n : ℕ) (own : Option ℕ) (plaintext : List ℕ) → response_cipher s n own plaintext ≡ ccm_of (response_seal s n own) plaintext
  pub numbers : (s : SecurityContext) (n k : ℕ) (own other : Option ℕ) → IsUsable s → n < 2 ^ 40 → k < 2 ^ 40 → IfSome own (λ i. i < 2 ^ 40) → IfSome other (λ i. i < 2 ^ 40)
      → response_seal s n own ≡ response_seal s k other → (n ≡ k) × (own ≡ other)
  pub nonces_differ : (s : SecurityContext) (n j i : ℕ) → IsUsable s → j < 2 ^ 40 → i < 2 ^ 40
      → response_nonce s.common_iv s.client s.server n (Some i) ≢ response_nonce s.common_iv s.client s.server j None
  pub message : (s t : SecurityContext) (a b : Bool) (n k : ℕ) (own other : Option ℕ) (m l : InnerParts) (d e : List ℕ) (x : Protects (responses_to s a n) own m d) (y : Protects (responses_to t b k) other l e)
      → response_seal s n own ≡ response_seal t k other → x.outer.payload ≡ y.outer.payload → m ≡ l
