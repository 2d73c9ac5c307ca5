-- To be believed: Echo values that are made of Sender Sequence Numbers, over all that happens at both ends (RFC 9175, 2.3 and A, method 3; RFC 8613, B.1.1).
-- w is the world before the event, s the security context, n is how many pending requests the client has room for.
use Rattle.std.specs.Prelude.{◌≡◌, ◌⊎◌, ℕ, ◌≤◌, ◌^◌, List, Option, Some, None, max, true}
use Rattle.std.specs.Option.{option_map}
use Rattle.osc_coap.specs.Datagram.{Parts}
use Rattle.osc_coap.specs.Interpreted.{interpreted}
use Rattle.osc_coap.specs.OptionNumbers as options
use Rattle.osc_context.specs.SecurityContext.{SecurityContext, IsUsable}
use Rattle.osc_protect.specs.Protection.{as_notified}
use Rattle.osc_protect.specs.Sealed.{inside}
use Rattle.osc_client.specs.ClientHistory as client
use Rattle.osc_life.specs.Life.{Life, in_force, next_own}
use Rattle.osc_life.specs.ServerHistory as server
use Rattle.osc_endpoint.specs.ServerAnswer.{ServerAnswer}
use Rattle.osc_kept_ends.specs.EchoNumber.{echo_of}
use Rattle.osc_kept.specs.Claims.{BothEnds}
use Rattle.osc_kept.specs.GoingOn.{GoesOn}
use Rattle.osc_kept.specs.InWorld.{IsUnseen}
use Rattle.osc_kept.specs.Premises.{Answers, AtEach, BeginsAbove, StartsAboveDelivered, IsLawful, NobodyForges}
use Rattle.osc_kept.specs.World.{World, Event, Server, AtClient, AtServer, Has, Response, heard, server_history, server_life}
use Rattle.osc_kept_ends.specs.Numbering.{Own}

-- the Echo value in a message as it is sealed (RFC 7252, 5.4.3; RFC 9175, 2.2.1)
abbrev pub sealed_echo : Parts → Option (List ℕ)
sealed_echo p = interpreted options.echo (inside p).options

-- ---- what sees to it that Echo values are new, in place of a random source

-- a challenge that gives a new value makes it of the Sender Sequence Number with which it is sealed; `take_counted` sees to it (RFC 9175, A, method 3)
abbrev pub MakesEcho : SecurityContext → World → Event → Type 0
MakesEcho s w (AtServer (server.Datagram now echo mid d) (server.Took (server.Challenge i n given issued) reply)) =
    (h : server.History) (of : Life) → server_history s w ≡ Some h → server.life h i ≡ Some of → in_force of (max (server.clock h) now) ≡ None → given ≡ echo_of (next_own of)
MakesEcho s w event = Unit {0}

-- a request carries no Echo value but one that the client heard before; whoever makes the plain requests sees to it (RFC 9175, 2.3)
abbrev pub EchoesHeard : World → Event → Type 0
EchoesHeard w (AtClient (client.Request now p room) (client.Sent bytes)) =
    (value : List ℕ) → sealed_echo p ≡ Some value → (x : Response) × Has x (heard w) × (interpreted options.echo x.message.options ≡ Some value)
EchoesHeard w event = Unit {0}

-- a reply has no Echo value, or that of the Sender Sequence Number with which it is sealed, and a notification has none; whoever makes the plain responses sees to
-- it (RFC 9175, 2.3 and A, method 3)
abbrev pub EchoesItsNumber : SecurityContext → World → Event → Type 0
EchoesItsNumber s w (AtServer (server.Reply t own mid p room) (server.Replied bytes)) =
    (sealed_echo p ≡ None) ⊎ ((own ≡ true) × ((of : Life) → server_life s w ≡ Some of → sealed_echo p ≡ Some (echo_of (next_own of))))
EchoesItsNumber s w (AtServer (server.Notify t p room) (server.Replied bytes)) = sealed_echo (as_notified p) ≡ None
EchoesItsNumber s w event = Unit {0}

-- all three, at each event (own rule)
pub record EchoesAreNumbers (s : SecurityContext) (w : World) : Type 0 where
  pub makes : AtEach (MakesEcho s) w
  pub echoes : AtEach EchoesHeard w
  pub replies : AtEach (EchoesItsNumber s) w

-- ---- what holds then

-- the premises of two ends, with these three in place of new Echo values (own rule)
pub record IsLawfulByNumbers (n : ℕ) (s : SecurityContext) (w : World) : Type 0 where
  pub usable : IsUsable s
  pub answers : AtEach (Answers n s) w
  pub sealed : AtEach (NobodyForges s) w
  pub numbered : EchoesAreNumbers s w
  pub above : AtEach (BeginsAbove s) w
  pub fresh : AtEach StartsAboveDelivered w

-- a world that meets them meets the premises of two ends, so all of it is as claimed, and nobody draws a random Echo value (RFC 9175, A, method 3)
abbrev pub EchoByNumbers : Type 0
EchoByNumbers = (n : ℕ) (s : SecurityContext) (w : World) → IsLawfulByNumbers n s w → IsLawful n s w × BothEnds s w

-- no request that was sealed so far carries the value of the server's next Sender Sequence Number, as `ServerTrusts` wants it (RFC 9175, 2.3)
abbrev pub NumberIsUnseen : Type 0
NumberIsUnseen = (n : ℕ) (s : SecurityContext) (w : World) (h : server.History) (next : ℕ) → IsLawfulByNumbers n s w → server_history s w ≡ Some h
    → option_map next_own (server.life h 0) ≡ Some next → next ≤ 2 ^ 40 → IsUnseen s w (echo_of next)

-- a server that takes a datagram with the value of its next Sender Sequence Number goes on in such a world (RFC 9175, A, method 3)
abbrev pub CountedGoesOn : Type 0
CountedGoesOn = (n : ℕ) (s : SecurityContext) (w v : World) (h : server.History) (now next mid : ℕ) (d : List ℕ) (entry : server.Entry) (old new : Own) → AtEach (Answers n s) w
    → EchoesAreNumbers s w → server_history s w ≡ Some h → option_map next_own (server.life h 0) ≡ Some next → ServerAnswer h (server.Datagram now (echo_of next) mid d) entry
    → GoesOn Server s w (AtServer (server.Datagram now (echo_of next) mid d) entry) v old new → EchoesAreNumbers s v
