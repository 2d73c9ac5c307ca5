-- Which request a message asks for.
use Rattle.std.proofs.Common.{◌≡◌, ◌∙◌, ℕ, List, [], ◌∷◌, None, Option, Some, ap, sym}
use Rattle.std.specs.Prelude.{IfNone}
use Rattle.osc_coap.specs.Datagram.{Parts}
use Rattle.osc_protect.specs.Laws.{OneRequestHead}
use Rattle.osc_replies.specs.Asked.{IsOf}
use Rattle.osc_replies.specs.Memory.{Asks, Kept}

-- what is equal inside Some
pub some_is : (n m : ℕ) → Some n ≡ Some m → n ≡ m
some_is n m is = cc

-- what is alone in a list
pub first_is : (a b : List ℕ) → a ∷ [] ≡ b ∷ [] → a ≡ b
first_is a b is = cc

-- a message asks for one request alone
pub one_asked : OneRequestHead → (p : Parts) (k : Kept) (n : ℕ) (option text : List ℕ) → Asks p k.number k.option k.text → Asks p n option text → IsOf k n option text
one_asked one p k n option text a b =
    let head = one.shown p a.head b.head a.shows b.shows in
    (some_is k.number n (sym a.numbered ∙ ap (λ h. h.parts.piv) head ∙ b.numbered), first_is k.option option (sym a.single ∙ b.single), sym a.sealed ∙ b.sealed)

-- it asks for what is kept of that request
pub asks_kept : (p : Parts) (k : Kept) (n : ℕ) (option text : List ℕ) → IsOf k n option text → Asks p n option text → Asks p k.number k.option k.text
asks_kept p k n option text is asks =
    record {
      head = asks.head;
      shows = asks.shows;
      numbered = asks.numbered ∙ ap Some (sym is.0);
      single = asks.single ∙ ap (λ (z : List ℕ). z ∷ []) (sym is.1);
      sealed = asks.sealed ∙ sym is.2;
    }

-- what follows where there is nothing
pub none_by : {T A B : Type 0} (r : Option T) → (A → B) → IfNone r A → IfNone r B
none_by None f h = f h
none_by (Some x) f h = h
