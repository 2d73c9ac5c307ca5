-- To be believed: which requests were sealed after a challenge, over all that happens at both ends (RFC 8613, 7.3; RFC 9175, 2.3 and A, method 3). w is the world
-- before an event, v an earlier one, s the security context, n is how many pending requests the client has room for, value is an Echo value.
use Rattle.std.specs.Prelude.{◌≡◌, ◌⊎◌, ℕ, List, Some}
use Rattle.osc_coap.specs.Interpreted.{interpreted}
use Rattle.osc_coap.specs.OptionNumbers as options
use Rattle.osc_context.specs.SecurityContext.{SecurityContext}
use Rattle.osc_life.specs.ServerHistory as server
use Rattle.osc_kept.specs.EchoNumbers.{IsLawfulByNumbers, sealed_echo}
use Rattle.osc_kept.specs.Premises.{AtEach}
use Rattle.osc_kept.specs.World.{World, Event, Begin, Then, AtServer, Has, sent}

-- the server seals a reply with this Echo value (RFC 9175, 2.3)
abbrev pub AsksWith : Event → List ℕ → Type 0
AsksWith (AtServer (server.Reply t own mid p room) (server.Replied bytes)) value = sealed_echo p ≡ Some value
AsksWith event value = ⊥

-- it did so right after v (own rule)
abbrev pub AskedAfter : World → List ℕ → World → Type 0
AskedAfter v value Begin = ⊥
AskedAfter v value (Then w event) = ((v ≡ w) × AsksWith event value) ⊎ AskedAfter v value w

-- a request that is delivered was sealed by the client; if it carries an Echo value, this was after each reply that gave that value, in whatever life (RFC 8613, 7.3)
abbrev pub DeliversSealedSince : SecurityContext → World → Event → Type 0
DeliversSealedSince s w (AtServer (server.Datagram now echo mid d) (server.Took (server.Deliver received ticket) reply)) =
    Has (record { number = ticket.number; message = received.message }) (sent s w)
    × ((v : World) (value : List ℕ) → interpreted options.echo received.message.options ≡ Some value → AskedAfter v value w
    → Has (record { number = ticket.number; message = received.message }) (sent s v) → ⊥)
DeliversSealedSince s w event = Unit {0}

-- so it is in each world in which Echo values are made of numbers: a request that carries the value of a reply is no older than that reply (RFC 8613, 7.3; RFC 9175, 2.3)
abbrev pub FreshOnDemand : Type 0
FreshOnDemand = (n : ℕ) (s : SecurityContext) (w : World) → IsLawfulByNumbers n s w → AtEach (DeliversSealedSince s) w
