-- For the proofs: which end of a security context an end is (RFC 8613, 3.1). s is a security context.
use Rattle.std.specs.Prelude.{◌≡◌}
use Rattle.osc_protect.specs.ContextCipher.{key_under}
use Rattle.osc_context.specs.SecurityContext.{SecurityContext}
use Rattle.osc_protect.specs.declared.ends.End.{End}

-- the end is the client: it has the client's identifier and key (RFC 8613, 3.1)
abbrev pub IsClientOf : SecurityContext → End → Type 0
IsClientOf s end = (end.kid.now ≡ s.client) × (key_under end.cipher ≡ s.client_key)

-- the end is the server: it has the server's identifier and key (RFC 8613, 3.1)
abbrev pub IsServerOf : SecurityContext → End → Type 0
IsServerOf s end = (end.kid.now ≡ s.server) × (key_under end.cipher ≡ s.server_key)
