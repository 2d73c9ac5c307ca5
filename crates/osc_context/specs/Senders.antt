-- To be believed: servers that send under one key (RFC 8613, 3.1).
use Rattle.std.specs.Prelude.{◌≡◌}
use Rattle.osc_context.specs.SecurityContext.{SecurityContext}

-- two contexts, each seen by its server, have the same Sender Key (RFC 8613, 3.1)
abbrev pub HaveSameSender : SecurityContext → SecurityContext → Type 0
HaveSameSender s t = s.server_key ≡ t.server_key
