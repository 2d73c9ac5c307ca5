-- No text crosses from one role into the other. asking is the exchange in which a datagram arrives, answering the other one.
use Rattle.std.proofs.Common.{◌≡◌, ℕ, sym, Option, Some, List, inl, inr}
use Rattle.std.specs.Prelude.{Contains, max}
use Rattle.osc_coap.specs.Inner.{InnerParts}
use Rattle.osc_context.specs.SecurityContext.{SecurityContext, IsUsable}
use Rattle.osc_protect.specs.CipherLaws.{request_seal, response_seal}
use Rattle.osc_protect.specs.Protection.{Protects, ProtectsRequest}
use Rattle.osc_client.specs.ClientAnswer.{awaited}
use Rattle.osc_client.specs.ClientHistory as client
use Rattle.osc_life.specs.ServerHistory as server
use Rattle.osc_kept.specs.Premises.{AtEach, IsLawful, NobodyForges, SealedByClient, SealedByServer}
use Rattle.osc_kept.specs.World.{World, Event, Then, AtClient, AtServer, client_history}
use Rattle.osc_kept.proofs.Fitting.{LawsBelow}
use Rattle.osc_kept.proofs.Owned.{pending_sent}
use Rattle.osc_peers.specs.Peers.{Forth, Back, Peers, Nothing, More, AreHonestPeers, ArePeers, HonestPeers, IsExchange, OfEither, RequestsOfEither, ResponsesOfEither, SealedInEither, TwoPeers, back, forth}
use Rattle.osc_peers.specs.Roles.{RolesApart, turned}
use Rattle.osc_peers.proofs.Peering.{answered_small, asked_small, back_lawful, forth_lawful, sent_small, usable_turned}

requests : LawsBelow → RolesApart → (n : ℕ) (s : SecurityContext) (asking answering : World) (d : List ℕ) → IsUsable s → IsLawful n (turned s) answering
    → RequestsOfEither s asking answering d → (k : ℕ) (m : InnerParts) (p : ProtectsRequest s k m d) → SealedByClient s asking (request_seal s k) p.outer.payload
requests laws roles n s asking answering d u j either k m p = elim (either k m p) [
  | inl x ↦ x
  | inr x ↦ absurd (roles.apart s k x.response.number x.response.own u (laws.in_range _ _ p.reads) (answered_small laws n (turned s) answering x.response j x.was_answered) (sym x.input_is))
]

responses : LawsBelow → RolesApart → (n : ℕ) (s : SecurityContext) (asking answering : World) (h : client.History) (moment : ℕ) (d : List ℕ) → IsUsable s → IsLawful n s asking
    → IsLawful n (turned s) answering → client_history s asking ≡ Some h → ResponsesOfEither s asking answering (client.pending_at h moment) d
    → (r : client.Asked) (own : Option ℕ) (m : InnerParts) → Contains (client.pending_at h moment) r → (p : Protects (awaited s r) own m d)
    → SealedByServer s asking (response_seal s r.number own) p.outer.payload
responses laws roles n s asking answering h moment d u i j f either r own m pending p = elim (either r own m pending p) [
  | inl x ↦ x
  | inr x ↦ absurd (roles.apart (turned s) x.request.number r.number own (usable_turned s u) (asked_small n (turned s) answering x.request j x.was_sent)
      (sent_small n s asking r.number i (pending_sent n s asking h moment r i.answers f pending)) x.input_is)
]

none_forged : LawsBelow → RolesApart → (n : ℕ) (s : SecurityContext) (asking answering : World) (event : Event) → IsUsable s → IsLawful n s asking → IsLawful n (turned s) answering
    → OfEither s asking answering event → NobodyForges s asking event
none_forged laws roles n s asking answering (AtServer (server.Datagram now echo mid d) entry) u i j either = requests laws roles n s asking answering d u j either
none_forged laws roles n s asking answering (AtClient (client.Datagram now d) entry) u i j either =
    λ h f. responses laws roles n s asking answering h (max (client.clock h) now) d u i j f (either h f)
none_forged laws roles n s asking answering event u i j either = tt

-- ---- the premises before the last event

earlier : (n : ℕ) (s : SecurityContext) (w : World) (event : Event) → IsExchange n s (Then w event) → IsExchange n s w
earlier n s w event i = record { answers = i.answers.0; unseen = i.unseen.0; fresh = i.fresh.0 }

earlier_forth : (n : ℕ) (s : SecurityContext) (w : Peers) (event : Event) → AreHonestPeers n s (More w (Forth event)) → AreHonestPeers n s w
earlier_forth n s w event p = record { usable = p.usable; forth_is = earlier n s (forth w) event p.forth_is; back_is = p.back_is; sealed = p.sealed.0; kept = p.kept.0 }

earlier_back : (n : ℕ) (s : SecurityContext) (w : Peers) (event : Event) → AreHonestPeers n s (More w (Back event)) → AreHonestPeers n s w
earlier_back n s w event p = record { usable = p.usable; forth_is = p.forth_is; back_is = earlier n (turned s) (back w) event p.back_is; sealed = p.sealed.0; kept = p.kept.0 }

-- ---- all that opens was sealed in its own role

abbrev Sealed : SecurityContext → Peers → Type 0
Sealed s w = AtEach (NobodyForges s) (forth w) × AtEach (NobodyForges (turned s)) (back w)

forth_at : (n : ℕ) (s : SecurityContext) (w : Peers) → AreHonestPeers n s w → Sealed s w → IsLawful n s (forth w)
forth_at n s w p x = forth_lawful n s w p.usable p.forth_is x.0 p.kept

back_at : (n : ℕ) (s : SecurityContext) (w : Peers) → AreHonestPeers n s w → Sealed s w → IsLawful n (turned s) (back w)
back_at n s w p x = back_lawful n s w p.usable p.back_is x.1 p.kept

all_sealed : LawsBelow → RolesApart → (n : ℕ) (s : SecurityContext) (w : Peers) → AreHonestPeers n s w → Sealed s w
all_sealed laws roles n s Nothing p = (tt, tt)
all_sealed laws roles n s (More w (Forth event)) p =
    let q = earlier_forth n s w event p in
    let x : Sealed s w = all_sealed laws roles n s w q in
    ((x.0, none_forged laws roles n s (forth w) (back w) event p.usable (forth_at n s w q x) (back_at n s w q x) p.sealed.1), x.1)
all_sealed laws roles n s (More w (Back event)) p =
    let q = earlier_back n s w event p in
    let x : Sealed s w = all_sealed laws roles n s w q in
    (x.0, (x.1, none_forged laws roles n (turned s) (back w) (forth w) event (usable_turned s p.usable) (back_at n s w q x) (forth_at n s w q x) p.sealed.1))

pub honest_peers : TwoPeers → LawsBelow → RolesApart → HonestPeers
honest_peers two laws roles n s w p =
    let x : Sealed s w = all_sealed laws roles n s w p in
    two n s w (record { usable = p.usable; forth_is = p.forth_is; back_is = p.back_is; forth_sealed = x.0; back_sealed = x.1; kept = p.kept })

-- ---- what was sealed in its own role was sealed in either

of_either : (s : SecurityContext) (asking answering : World) (event : Event) → NobodyForges s asking event → OfEither s asking answering event
of_either s asking answering (AtServer (server.Datagram now echo mid d) entry) f = λ n m p. inl (f n m p)
of_either s asking answering (AtClient (client.Datagram now d) entry) f = λ h e r own m among p. inl (f h e r own m among p)
of_either s asking answering event f = tt

sealed_in_either : (s : SecurityContext) (w : Peers) → AtEach (NobodyForges s) (forth w) → AtEach (NobodyForges (turned s)) (back w) → SealedInEither s w
sealed_in_either s Nothing a b = tt
sealed_in_either s (More w (Forth event)) a b = (sealed_in_either s w a.0 b, of_either s (forth w) (back w) event a.1)
sealed_in_either s (More w (Back event)) a b = (sealed_in_either s w a b.0, of_either (turned s) (back w) (forth w) event b.1)

pub are_honest : (n : ℕ) (s : SecurityContext) (w : Peers) → ArePeers n s w → AreHonestPeers n s w
are_honest n s w p =
    record { usable = p.usable; forth_is = p.forth_is; back_is = p.back_is; sealed = sealed_in_either s w p.forth_sealed p.back_sealed; kept = p.kept }
