-- What a message shows without a key is one head, or one reason why there is none.
use Rattle.std.proofs.Common.{◌≡◌, ℕ, List, [], ap, sym, ◌∙◌, Option, Some, Result, Ok, Err, IfOk, IfErr, IsOkAnd, IsErrOf}
use Rattle.std.specs.Option.{unwrap_or}
use Rattle.osc_coap.specs.Datagram.{Parts}
use Rattle.osc_context.specs.OscoreValue.{OscoreParts}
use Rattle.osc_protect.specs.Usage.{value_of_request}
use Rattle.osc_protect.specs.Head.{Head, ShowsHead, ShowsNoHead}
use Rattle.osc_protect.specs.Laws.{NamesOneClient, OneHead}
use Rattle.osc_protect.specs.declared.usage.Usage.{Usage}
use Rattle.osc_protect.specs.declared.head_error.NoHead.{NoHead}

module _ {X : Type 0} (view : X → Head) (u : Usage) (laws : OneHead u) (p : Parts) where
  -- what is read is the head that is shown
  pub shown_accepts : (r : Result X NoHead) → IfOk r (λ x. ShowsHead u p (view x)) → IfErr r (λ e. ShowsNoHead u p e) → (h : Head) → ShowsHead u p h → IsOkAnd r (λ x. view x ≡ h)
  shown_accepts (Ok x) y z h k = laws.shown p (view x) h y k
  shown_accepts (Err e) y z h k = laws.never_shown p h e k z

  -- the reason that is answered is the one
  pub shown_refuses : (r : Result X NoHead) → IfOk r (λ x. ShowsHead u p (view x)) → IfErr r (λ e. ShowsNoHead u p e) → (e : NoHead) → ShowsNoHead u p e → IsErrOf r e
  shown_refuses (Ok x) y z e k = absurd (laws.never_shown p (view x) e y k)
  shown_refuses (Err f) y z e k = ap Err (laws.none p f e z k)

-- two lists that are the same where they are there
same_bytes : (a b : List ℕ) → Some a ≡ Some b → a ≡ b
same_bytes a b e = ap (λ (o : Option (List ℕ)). unwrap_or o []) e

-- a head names one client and one ID Context
pub named_alike : NamesOneClient
named_alike h s t n m a b =
    let e : value_of_request n s.id_context s.client ≡ value_of_request m t.id_context t.client = sym a ∙ b in
    (same_bytes s.client t.client (ap (λ (v : OscoreParts). v.kid) e), ap (λ (v : OscoreParts). v.kid_context) e)
