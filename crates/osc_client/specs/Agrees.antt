-- How the code is seen: when a client is as its history says.
use Rattle.std.specs.Prelude.{◌≡◌, ◌≢◌, ◌^◌, ℕ, List, AllPairs, Option, Some, None, map}
use Rattle.osc_context.specs.SecurityContext.{SecurityContext}
use Rattle.osc_context.specs.Views.{as_client, number_of}
use Rattle.osc_context.specs.declared.partial_iv.Piv.{Piv}
use Rattle.osc_protect.specs.Views.{context_of}
use Rattle.osc_client.specs.declared.apart.Apart.{Apart}
use Rattle.osc_client.specs.declared.client.Client.{Client}
use Rattle.osc_client.specs.declared.client_state.ClientState.{ClientState}
use Rattle.osc_client.specs.ClientHistory as client
use Rattle.osc_client.specs.Views.{asked_of}

-- what a client is made of, as numbers and lists: the pending requests are those in its table (how the code is seen)
pub record ClientParts : Type 0 where
  pub context : SecurityContext
  pub life_ms : ℕ
  pub clock : ℕ
  pub next : ℕ
  pub apart : Option Apart
  pub pending : List client.Asked

-- what a client is made of whose pending requests are these, wherever they lie (how the code is seen)
abbrev pub parts_over : ClientState → List client.Asked → ClientParts
parts_over c requests = record { context = as_client (context_of c.context); life_ms = c.life_ms; clock = c.clock; next = c.next; apart = c.apart; pending = requests }

-- what this client is made of (how the code is seen)
abbrev pub client_parts : {N : ℕ} → Client N → ClientParts
client_parts c = parts_over c.state (map asked_of c.pending.items)

-- the number with which a client continues, or the limit if none is left (RFC 8613, 7.2.1)
abbrev pub next_of : Option Piv → ℕ
next_of None = 2 ^ 40
next_of (Some next) = number_of next

-- no two of these requests have the same token (RFC 7252, 5.3.1)
abbrev pub TokensDiffer : List client.Asked → Type 0
TokensDiffer requests = AllPairs (λ r q. r.token ≢ q.token) requests

-- no two requests in the client's table have the same token (RFC 7252, 5.3.1)
abbrev pub HasTokensApart : {N : ℕ} → Client N → Type 0
HasTokensApart c = TokensDiffer (client_parts c).pending

-- what a client is made of is as its history says (RFC 8613, 3.1)
pub record PartsAgree (c : ClientParts) (h : client.History) : Type 0 where
  pub context_is : c.context ≡ client.context h
  pub life_is : c.life_ms ≡ client.life_ms h
  pub clock_is : c.clock ≡ client.clock h
  pub next_is : c.next ≡ client.next h
  pub apart_is : c.apart ≡ client.apart h
  pub table : c.pending ≡ client.pending h
  pub differ : TokensDiffer (client.pending h)

-- the client is as its history says (RFC 8613, 3.1)
pub record ClientAgrees {N : ℕ} (c : Client N) (h : client.History) : Type 0 where
  pub says : PartsAgree (client_parts c) h
