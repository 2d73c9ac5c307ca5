-- To be believed: a security context that one device uses in both roles (RFC 8613, 3.1): what it seals in the one role doesn't open in the other. s is the context
-- as the device asks under it, n and k are numbers of requests, own is a Partial IV of a response, or none.
use Rattle.std.specs.Prelude.{◌≡◌, ◌≢◌, ℕ, ◌<◌, ◌^◌, Option}
use Rattle.osc_context.specs.SecurityContext.{SecurityContext, IsUsable}
use Rattle.osc_context.specs.Views.{as_client, as_server}
use Rattle.osc_context.specs.declared.context.Context.{Context}
use Rattle.osc_protect.specs.CipherLaws.{request_seal, response_seal}

-- the context with the roles exchanged: who asks in the one answers in the other (RFC 8613, 3.1)
abbrev pub turned : SecurityContext → SecurityContext
turned s = record {
  client = s.server;
  client_key = s.server_key;
  server = s.client;
  server_key = s.client_key;
  common_iv = s.common_iv;
  id_context = s.id_context;
  features = s.features;
}

-- a device's context as a server is that as a client with the roles exchanged. What seals a request of the device is never what seals a response that it gives, whatever
-- the numbers: the additional data of a request has the identifier of the device, that of a response the other's (RFC 8613, 3.1 and 5.4)
pub record RolesApart : Type 0 where
  pub turned_is : (c : Context) → turned (as_client c) ≡ as_server c
  pub apart : (s : SecurityContext) (n k : ℕ) (own : Option ℕ) → IsUsable s → n < 2 ^ 40 → k < 2 ^ 40 → request_seal s n ≢ response_seal (turned s) k own
