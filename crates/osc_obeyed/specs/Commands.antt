-- To be believed: commands that are sealed anew, over all that happens at both ends (RFC 7252, 4.5 and 5.5.2; RFC 8613, 7.4). w is the world before an event, s the
-- security context, n is how many pending requests the client has room for, i and j are numbers of requests; command says which command a request is for, if any.
use Rattle.std.specs.Prelude.{◌≡◌, ◌⊎◌, ℕ, Option, Some}
use Rattle.osc_context.specs.SecurityContext.{SecurityContext}
use Rattle.osc_protect.specs.Protection.{as_notified}
use Rattle.osc_protect.specs.Sealed.{inside}
use Rattle.osc_client.specs.ClientHistory as client
use Rattle.osc_life.specs.ServerHistory as server
use Rattle.osc_kept.specs.Premises.{AtEach, IsLawful}
use Rattle.osc_kept.specs.World.{World, Event, Begin, Then, AtClient, AtServer, Has, Request, Response, client_history, delivered, heard, sent}
use Rattle.osc_fresh.specs.Wishing.{SaysUnobeyed}

-- the server says so of request i, by a ticket of it (own rule)
abbrev pub TellsUnobeyed : Event → ℕ → Type 0
TellsUnobeyed (AtServer (server.Reply t own mid p room) (server.Replied bytes)) i = (t.number ≡ i) × SaysUnobeyed (inside p)
TellsUnobeyed (AtServer (server.Notify t p room) (server.Replied bytes)) i = (t.number ≡ i) × SaysUnobeyed (inside (as_notified p))
TellsUnobeyed event i = ⊥

-- the server said so (own rule)
abbrev pub ToldUnobeyed : World → ℕ → Type 0
ToldUnobeyed Begin i = ⊥
ToldUnobeyed (Then w event) i = TellsUnobeyed event i ⊎ ToldUnobeyed w i

-- request i may have been obeyed: it was delivered, and the server never said that it wasn't obeyed; so who says it of a request doesn't obey that (own rule)
pub record MayBeObeyed (w : World) (i : ℕ) : Type 0 where
  pub was_delivered : Has i (delivered w)
  pub kept : ToldUnobeyed w i → ⊥

-- the client heard of request i that it wasn't obeyed (own rule)
abbrev pub HeardUnobeyed : World → ℕ → Type 0
HeardUnobeyed w i = (x : Response) × Has x (heard w) × (x.number ≡ i) × SaysUnobeyed x.message

-- the client seals a command anew only where it heard of each earlier request for it that it wasn't obeyed; whoever makes the plain requests sees to it (own rule)
abbrev pub SealsAnewUnobeyed : (ℕ → Option ℕ) → SecurityContext → World → Event → Type 0
SealsAnewUnobeyed command s w (AtClient (client.Request now p room) (client.Sent bytes)) =
    (k : client.History) (r : Request) (c : ℕ) → client_history s w ≡ Some k → Has r (sent s w) → command r.number ≡ Some c → command (client.next k) ≡ Some c → HeardUnobeyed w r.number
SealsAnewUnobeyed command s w event = Unit {0}

-- then one request for a command at most may have been obeyed, over all lives of both ends; and that was delivered once, as both ends deliver each request (RFC 8613, 7.4)
abbrev pub OneCommand : Type 0
OneCommand = (command : ℕ → Option ℕ) (n : ℕ) (s : SecurityContext) (w : World) → IsLawful n s w → AtEach (SealsAnewUnobeyed command s) w → (c i j : ℕ) → command i ≡ Some c → command j ≡ Some c
    → MayBeObeyed w i → MayBeObeyed w j → i ≡ j
