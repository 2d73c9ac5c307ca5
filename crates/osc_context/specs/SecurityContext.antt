-- To be believed: a security context, as its two ends share it (RFC 8613, 3.1).
use Rattle.std.specs.Prelude.{◌≡◌, ◌≢◌, ℕ, ◌≤◌, List, Option, length}
use Rattle.osc_context.specs.declared.features.Features.{Features}
use Rattle.osc_context.specs.Algorithm.{key_length, nonce_length}

-- the identifier and key of the client, which makes requests, and of the server; the Common IV; the ID Context, if there is one (RFC 8613, 3.1)
pub record SecurityContext : Type 0 where
  pub client : List ℕ
  pub client_key : List ℕ
  pub server : List ℕ
  pub server_key : List ℕ
  pub common_iv : List ℕ
  pub id_context : Option (List ℕ)
  pub features : Features

-- the identifiers fit in a nonce and differ, and the keys and the Common IV have the algorithm's lengths (RFC 8613, 3.3)
pub record IsUsable (c : SecurityContext) : Type 0 where
  pub client_fits : length c.client ≤ 7
  pub server_fits : length c.server ≤ 7
  pub differ : c.client ≢ c.server
  pub client_key_length : length c.client_key ≡ key_length
  pub server_key_length : length c.server_key ≡ key_length
  pub common_iv_length : length c.common_iv ≡ nonce_length

-- requests with this kid, and with this kid context or none, are for this context (RFC 8613, 8.2, step 2; own rule: a kid context if and only if there is an ID Context)
abbrev pub AnswersTo : SecurityContext → List ℕ → Option (List ℕ) → Type 0
AnswersTo c kid kid_context = (c.client ≡ kid) × (c.id_context ≡ kid_context)
