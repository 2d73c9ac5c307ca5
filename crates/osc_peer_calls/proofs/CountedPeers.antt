-- Devices that make their Echo values of their numbers meet the premises on two devices, and are alike.
use Rattle.std.proofs.Common.{◌≡◌, ℕ, sym, ap, subst, refl}
use Rattle.osc_context.specs.SecurityContext.{SecurityContext}
use Rattle.osc_kept_ends.specs.Numbering.{Allowed, after}
use Rattle.osc_kept.specs.EchoNumbers.{EchoByNumbers, IsLawfulByNumbers}
use Rattle.osc_kept.specs.Premises.{IsLawful}
use Rattle.osc_kept.specs.World.{World, Client, Server, Then, effect}
use Rattle.osc_obeyed.specs.Commands.{OneCommand}
use Rattle.osc_obeyed.specs.Freshness.{FreshOnDemand}
use Rattle.osc_peers.specs.Peers.{PeerEvent, Forth, Back, Peers, Nothing, More, ArePeers, IsExchange, SourcesAreKept, TwoPeers, back, far_effect, far_numbers, forth, near_effect, near_numbers}
use Rattle.osc_peers.specs.Roles.{turned}
use Rattle.osc_peers.proofs.Peering.{back_begins, forth_begins, usable_turned}
use Rattle.osc_peer_calls.specs.Counting.{AreCounted, IsCounted, PeersAreAlike, PeersAreFresh, PeersByNumbers, PeersObeyOnce, turned_event, turned_list}

-- ---- by numbers

exchange : (n : ℕ) (s : SecurityContext) (w : World) → IsLawful n s w → IsExchange n s w
exchange n s w i = record { answers = i.answers; unseen = i.unseen; fresh = i.fresh }

pub forth_numbered : (n : ℕ) (s : SecurityContext) (w : Peers) → AreCounted n s w → IsLawfulByNumbers n s (forth w)
forth_numbered n s w i =
    let x = i.forth_is in
    record { usable = i.usable; answers = x.answers; sealed = x.sealed; numbered = x.numbered; above = forth_begins n s w x.answers i.kept; fresh = x.fresh }

pub back_numbered : (n : ℕ) (s : SecurityContext) (w : Peers) → AreCounted n s w → IsLawfulByNumbers n (turned s) (back w)
back_numbered n s w i =
    let x = i.back_is in
    record { usable = usable_turned s i.usable; answers = x.answers; sealed = x.sealed; numbered = x.numbered; above = back_begins n s w x.answers i.kept; fresh = x.fresh }

pub peers_by_numbers : TwoPeers → EchoByNumbers → PeersByNumbers
peers_by_numbers two echo n s w i =
    let peers : ArePeers n s w = record {
      usable = i.usable;
      forth_is = exchange n s (forth w) (echo n s (forth w) (forth_numbered n s w i)).0;
      back_is = exchange n (turned s) (back w) (echo n (turned s) (back w) (back_numbered n s w i)).0;
      forth_sealed = i.forth_is.sealed;
      back_sealed = i.back_is.sealed;
      kept = i.kept;
    } in
    (peers, two n s w peers)

pub peers_are_fresh : FreshOnDemand → PeersAreFresh
peers_are_fresh fresh n s w i = (fresh n s (forth w) (forth_numbered n s w i), fresh n (turned s) (back w) (back_numbered n s w i))

pub peers_obey_once : EchoByNumbers → OneCommand → PeersObeyOnce
peers_obey_once echo one command n s w i = one command n (turned s) (back w) (echo n (turned s) (back w) (back_numbered n s w i)).0

-- ---- as the far device sees the list

forth_turned : (w : Peers) → forth (turned_list w) ≡ back w
forth_turned Nothing = refl
forth_turned (More w (Forth event)) = forth_turned w
forth_turned (More w (Back event)) = ap (λ u. Then u event) (forth_turned w)

back_turned : (w : Peers) → back (turned_list w) ≡ forth w
back_turned Nothing = refl
back_turned (More w (Forth event)) = ap (λ u. Then u event) (back_turned w)
back_turned (More w (Back event)) = back_turned w

near_turned : (s : SecurityContext) (w : Peers) (event : PeerEvent) → near_effect (turned s) (turned_list w) (turned_event event) ≡ far_effect s w event
near_turned s w (Forth event) = ap (λ u. effect Server s u event) (back_turned w)
near_turned s w (Back event) = ap (λ u. effect Client (turned s) u event) (forth_turned w)

far_turned : (s : SecurityContext) (w : Peers) (event : PeerEvent) → far_effect (turned s) (turned_list w) (turned_event event) ≡ near_effect s w event
far_turned s w (Forth event) = ap (λ u. effect Client s u event) (back_turned w)
far_turned s w (Back event) = ap (λ u. effect Server (turned s) u event) (forth_turned w)

near_source : (s : SecurityContext) (w : Peers) → near_numbers (turned s) (turned_list w) ≡ far_numbers s w
near_source s Nothing = refl
near_source s (More w event) = subst (λ e. after e (near_numbers (turned s) (turned_list w)) ≡ after (far_effect s w event) (far_numbers s w)) (sym (near_turned s w event))
    (ap (λ o. after (far_effect s w event) o) (near_source s w))

far_source : (s : SecurityContext) (w : Peers) → far_numbers (turned s) (turned_list w) ≡ near_numbers s w
far_source s Nothing = refl
far_source s (More w event) = subst (λ e. after e (far_numbers (turned s) (turned_list w)) ≡ after (near_effect s w event) (near_numbers s w)) (sym (far_turned s w event))
    (ap (λ o. after (near_effect s w event) o) (far_source s w))

sources_turned : (s : SecurityContext) (w : Peers) → SourcesAreKept s w → SourcesAreKept (turned s) (turned_list w)
sources_turned s Nothing k = tt
sources_turned s (More w event) k = (
  sources_turned s w k.0,
  subst (λ e. Allowed e (near_numbers (turned s) (turned_list w))) (sym (near_turned s w event)) (subst (λ o. Allowed (far_effect s w event) o) (sym (near_source s w)) k.2),
  subst (λ e. Allowed e (far_numbers (turned s) (turned_list w))) (sym (far_turned s w event)) (subst (λ o. Allowed (near_effect s w event) o) (sym (far_source s w)) k.1),
)

pub peers_are_alike : PeersAreAlike
peers_are_alike n s w i = record {
  usable = usable_turned s i.usable;
  forth_is = subst (IsCounted n (turned s)) (sym (forth_turned w)) i.back_is;
  back_is = subst (IsCounted n s) (sym (back_turned w)) i.forth_is;
  kept = sources_turned s w i.kept;
}
