-- The context of a peer's histories is that of its bytes: where this takes no part in Observe, that doesn't. p are the bytes, o its numbers, h is the history of its
-- server.
use Rattle.std.proofs.Common.{◌≡◌, ◌∙◌, ◌∷◌, [], ap, sym, suc, zero, refl, subst, ℕ, false, Option, Some, None}
use Rattle.std.specs.Prelude.{slice_get}
use Rattle.std.specs.Option.{option_map}
use Rattle.osc_context.specs.SecurityContext.{SecurityContext}
use Rattle.osc_endpoint.specs.Agrees.{PlaceAgrees}
use Rattle.osc_life.specs.Life.{Life}
use Rattle.osc_laws.specs.Plainness.{EndsArePlain, WithoutObserve}
use Rattle.osc_laws.proofs.ExchangeLives.{some_is}
use Rattle.osc_life.specs.ServerHistory as served
use Rattle.osc_life.specs.declared.slot.Slot.{Slot}
use Rattle.osc_context_handle.specs.ContextBytes.{server_in}
use Rattle.osc_handle.specs.TableBytes.{IsPlaceIn}
use Rattle.osc_handle.specs.declared.slot_handle.SlotHandle.{SlotHandle}
use Rattle.osc_kept_ends.specs.Numbering.{Own}
use Rattle.osc_peer_handle.specs.PeerBytes.{ServesBehind, served_at}
use Rattle.osc_peer_handle.specs.PeerLaws.{PeersArePlain}
use Rattle.osc_peer_handle.specs.declared.peer_handle.PeerHandle.{PeerHandle}

place_plain : (b : Option SlotHandle) (p : Option (Option Slot)) (l : Option Life) (of : Life) → IsPlaceIn b p → PlaceAgrees p l → l ≡ Some of
    → ((context : SecurityContext) → option_map (λ (x : SlotHandle). server_in x.context) b ≡ Some context → context.features.observe ≡ false) → of.context.features.observe ≡ false
place_plain (Some b) (Some (Some s)) (Some l) of place agrees is off =
    let same : server_in b.context ≡ of.context = sym place.context ∙ agrees.context ∙ ap (λ (x : Life). x.context) (some_is is) in
    subst (λ (x : SecurityContext). x.features.observe ≡ false) same (off (server_in b.context) refl)
place_plain (Some b) (Some (Some s)) None of place agrees is off = absurd agrees
place_plain (Some b) (Some None) l of place agrees is off = absurd place
place_plain (Some b) None l of place agrees is off = absurd place
place_plain None (Some p) l of place agrees is off = absurd place
place_plain None None (Some l) of place agrees is off = absurd agrees
place_plain None None None of place agrees is off = let none : None ≡ Some of = is in cc

one_plain : (b : SlotHandle) (i : ℕ) (context : SecurityContext) → (server_in b.context).features.observe ≡ false
    → option_map (λ (x : SlotHandle). server_in x.context) (slice_get (b ∷ []) i) ≡ Some context → context.features.observe ≡ false
one_plain b zero context off is = subst (λ (x : SecurityContext). x.features.observe ≡ false) (some_is is) off
one_plain b (suc i) context off is = let none : None ≡ Some context = is in cc

without : (p : PeerHandle) (o : Own) (h : served.History) → ServesBehind p o h → (server_in p.server.server.slot.context).features.observe ≡ false → WithoutObserve h
without p o h w off i of life =
    let b = (served_at w.reached p.server.server).slot in
    place_plain (slice_get (b ∷ []) i) (slice_get w.serves.slots i) (served.life h i) of (w.serves.table.at i) (w.serves.agrees.places.at i) life (λ context is. one_plain b i context off is)

pub peers_plain : EndsArePlain → PeersArePlain
peers_plain ends = record {
  serving = λ p o h w off. ends.server h (without p o h w off);
  asking = λ p requests room o a w off. ends.client room a w.answers (subst (λ (x : SecurityContext). x.features.observe ≡ false) w.context_is off);
}
