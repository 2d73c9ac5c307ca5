-- The contexts of a table, wherever it lies.
use Rattle.std.proofs.Common.{◌≡◌, ◌∙◌, sym, ap, refl, ℕ, List, Option, Some, None, IfSome}
use Rattle.std.specs.Prelude.{slice_get, unwrap_or}
use Rattle.std.proofs.lemmas.Option.{none-some}
use Rattle.osc_context.specs.SecurityContext.{SecurityContext}
use Rattle.osc_context.specs.Views.{as_server}
use Rattle.osc_protect.specs.Views.{context_of}
use Rattle.osc_life.specs.declared.slot.Slot.{Slot}
use Rattle.osc_endpoint.specs.Table.{FindsAt, context_in, context_of_place}
use Rattle.osc_life.specs.Judging.{LooksUp}

-- the context of a place is that of the slot there
pub place_of : (o : Option (Option Slot)) (c : SecurityContext) → context_of_place o ≡ Some c → (s : Slot) × (o ≡ Some (Some s)) × (as_server (context_of s.context) ≡ c)
place_of None c e = absurd (none-some c e)
place_of (Some None) c e = absurd (none-some c e)
place_of (Some (Some s)) c e = (s, refl, ap (λ (o : Option SecurityContext). unwrap_or o c) e)

-- what was found is a place of the table
pub found_place : (contexts : ℕ → Option SecurityContext) (slots : List (Option Slot)) (i : ℕ) (kid : List ℕ) (kid_context : Option (List ℕ))
    → FindsAt contexts i kid kid_context → contexts i ≡ context_in slots i → (p : Option Slot) × (slice_get slots i ≡ Some p) × LooksUp p kid kid_context
found_place contexts slots i kid kid_context found held =
    let (s, at, same) = place_of (slice_get slots i) found.context (sym held ∙ found.there) in (
      Some s,
      at,
      (
        ap (λ (c : SecurityContext). c.client) same ∙ found.answers.0,
        ap (λ (c : SecurityContext). c.id_context) same ∙ found.answers.1,
      ),
    )

-- a place of the table is found
pub place_found : (contexts : ℕ → Option SecurityContext) (slots : List (Option Slot)) (i : ℕ) (kid : List ℕ) (kid_context : Option (List ℕ)) (p : Option Slot)
    → slice_get slots i ≡ Some p → LooksUp p kid kid_context → contexts i ≡ context_in slots i → FindsAt contexts i kid kid_context
place_found contexts slots i kid kid_context None at looks held = absurd looks
place_found contexts slots i kid kid_context (Some s) at looks held =
    record {
      context = as_server (context_of s.context);
      there = held ∙ ap context_of_place at;
      answers = looks;
    }

-- what is found in a table is found by its contexts
pub finds : (slots : List (Option Slot)) (kid : List ℕ) (kid_context : Option (List ℕ)) (found : Option ℕ)
    → IfSome found (λ i. (s : Option Slot) × (slice_get slots i ≡ Some s) × LooksUp s kid kid_context) → IfSome found (λ i. FindsAt (context_in slots) i kid kid_context)
finds slots kid kid_context None h = h
finds slots kid kid_context (Some i) h = place_found (context_in slots) slots i kid kid_context h.0 h.1 h.2 refl
