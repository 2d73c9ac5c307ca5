-- To be believed: two devices that both ask and answer under one context, and make their Echo values of their Sender Sequence Numbers (RFC 8613, 3.1, 7.2.1 and
-- B.1; RFC 9175, A, method 3). s is the context as the near device asks under it, w what happened so far, n how many pending requests a client has room for.
use Rattle.std.specs.Prelude.{◌≡◌, ℕ, Option, Some}
use Rattle.osc_context.specs.SecurityContext.{SecurityContext, IsUsable}
use Rattle.osc_kept.specs.EchoNumbers.{EchoesAreNumbers}
use Rattle.osc_kept.specs.Premises.{Answers, AtEach, NobodyForges, StartsAboveDelivered}
use Rattle.osc_kept.specs.World.{World}
use Rattle.osc_obeyed.specs.Commands.{MayBeObeyed, SealsAnewUnobeyed}
use Rattle.osc_obeyed.specs.Freshness.{DeliversSealedSince}
use Rattle.osc_peers.specs.Peers.{PeerEvent, Forth, Back, Peers, Nothing, More, ArePeers, BothPeers, SourcesAreKept, back, forth}
use Rattle.osc_peers.specs.Roles.{turned}

-- an exchange in which both ends answer by their tables, what opens was sealed in it by the other device, Echo values are made of numbers, and a server starts
-- fresh only while nothing was delivered, or open above all that was (RFC 8613, 7.4, 8 and B.1; RFC 9175, A, method 3)
pub record IsCounted (n : ℕ) (s : SecurityContext) (w : World) : Type 0 where
  pub answers : AtEach (Answers n s) w
  pub sealed : AtEach (NobodyForges s) w
  pub numbered : EchoesAreNumbers s w
  pub fresh : AtEach StartsAboveDelivered w

-- both exchanges are such, and the numbers of each device come from its one source (RFC 8613, 3.1, 7.2.1 and B.1.1)
pub record AreCounted (n : ℕ) (s : SecurityContext) (w : Peers) : Type 0 where
  pub usable : IsUsable s
  pub forth_is : IsCounted n s (forth w)
  pub back_is : IsCounted n (turned s) (back w)
  pub kept : SourcesAreKept s w

-- such devices meet the premises of `two_peers`, so what that says holds of them, and no random source is needed (RFC 8613, 3.1 and 5.2; RFC 9175, A, method 3)
abbrev pub PeersByNumbers : Type 0
PeersByNumbers = (n : ℕ) (s : SecurityContext) (w : Peers) → AreCounted n s w → ArePeers n s w × BothPeers s w

-- in both exchanges of such devices a request that carries the value of a reply was sealed after that reply (RFC 8613, 7.3; RFC 9175, 2.3)
abbrev pub PeersAreFresh : Type 0
PeersAreFresh = (n : ℕ) (s : SecurityContext) (w : Peers) → AreCounted n s w → AtEach (DeliversSealedSince s) (forth w) × AtEach (DeliversSealedSince (turned s)) (back w)

-- and a command of the far device that is sealed anew only where it wasn't obeyed is obeyed by the near device once at most (RFC 7252, 4.5; RFC 8613, 7.4)
abbrev pub PeersObeyOnce : Type 0
PeersObeyOnce = (command : ℕ → Option ℕ) (n : ℕ) (s : SecurityContext) (w : Peers) → AreCounted n s w → AtEach (SealsAnewUnobeyed command (turned s)) (back w) → (c i j : ℕ)
    → command i ≡ Some c → command j ≡ Some c → MayBeObeyed (back w) i → MayBeObeyed (back w) j → i ≡ j

-- ---- the far device

-- the event as the far device sees it, which is then the near one (own rule)
abbrev pub turned_event : PeerEvent → PeerEvent
turned_event (Forth event) = Back event
turned_event (Back event) = Forth event

-- the list as the far device sees it (own rule)
abbrev pub turned_list : Peers → Peers
turned_list Nothing = Nothing
turned_list (More w event) = More (turned_list w) (turned_event event)

-- what is said of the near device is said of the far one as well: the list as that sees it meets the premises too (RFC 8613, 3.1)
abbrev pub PeersAreAlike : Type 0
PeersAreAlike = (n : ℕ) (s : SecurityContext) (w : Peers) → AreCounted n s w → AreCounted n (turned s) (turned_list w)
