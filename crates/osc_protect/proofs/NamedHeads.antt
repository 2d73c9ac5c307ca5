-- What is protected shows a head, and what follows where the head names the context.
use Rattle.std.proofs.Common.{◌≡◌, inl, inr, refl, sym, ap, subst, ◌∙◌}
use Rattle.osc_coap.specs.Datagram.{Parts}
use Rattle.osc_protect.specs.Head.{Head, HasHead}
use Rattle.osc_protect.specs.Protection.{Protection}
use Rattle.osc_protect.specs.Sealed.{inside}
use Rattle.osc_protect.specs.Refusals.{Names}
use Rattle.osc_protect.specs.Laws.{NamedRefusals, OneHead, ProtectionsShowHeads, SaysOneThing}
use Rattle.osc_protect.specs.Layers.{LayerLaws}
use Rattle.osc_protect.specs.declared.usage.Usage.{Usage}
use Rattle.osc_protect.specs.declared.head_error.HeadError.TheVariants as heads
use Rattle.osc_protect.specs.declared.unprotect_error.UnprotectError.TheVariants.{Format, NotThatKind, NoOscore, Undecodable, WrongContext, Tag, Inner}
use Rattle.osc_protect.proofs.Exact.{head_of_protection, heads_one, protection_head}
use Rattle.osc_protect.proofs.Protections.{IsSound, KeepsNumbers}
use Rattle.osc_protect.proofs.SealedOpenings.{sealed_outside, seals_protect}

-- a protection shows its head
pub heads_shown : {I : Type 0} → LayerLaws → (f : Protection I) → IsSound f → KeepsNumbers f → ProtectionsShowHeads f
heads_shown laws f sound keeps = record {
  protects = λ d i m x. (head_of_protection laws f sound i m d x, protection_head laws f sound i m d x, refl);
  sealed = λ d i p x.
      let y = seals_protect f keeps i p d x in
      let same = sealed_outside f keeps i p d x in (
        head_of_protection laws f sound i (inside (f.says p)) d y,
        protection_head laws f sound i (inside (f.says p)) d y,
        refl,
        ap (λ (q : Parts). q.kind) same,
        ap (λ (q : Parts). q.message_id) same,
        ap (λ (q : Parts). q.token) same,
      );
}

module _ {I : Type 0} (f : Protection I) (one : OneHead f.usage) where
  -- what is named is refused for what is inside alone
  pub refused_inside : NamedRefusals f
  refused_inside d h i (Format e) x a r = absurd (one.never_both d h (heads.Format e) x r)
  refused_inside d h i NotThatKind x a r = absurd (one.never_both d h heads.NotThatKind x r)
  refused_inside d h i NoOscore x a r = absurd (one.never_both d h heads.NoOscore x r)
  refused_inside d h i Undecodable x a r = absurd (one.never_both d h heads.Undecodable x r)
  refused_inside d h i WrongContext x a r = absurd (r.2 i (subst (λ (k : Head). Names f k i) (one.head d h r.0 x r.1) a))
  refused_inside d h i Tag x a r = inl refl
  refused_inside d h i Inner x a r = inr refl

-- two protections of one usage that a datagram speaks of say the same
pub says_one_thing : {I J : Type 0} → LayerLaws → (f : Protection I) (g : Protection J) → f.usage ≡ g.usage → IsSound g → SaysOneThing f g
says_one_thing laws f g usage sound d h i j m x a y =
    let other = head_of_protection laws g sound j m d y in
    let shown : HasHead g.usage d h = subst (λ (u : Usage). HasHead u d h) usage x in
    sym a ∙ ap (λ (k : Head). k.parts) (heads_one laws g.usage d h other shown (protection_head laws g sound j m d y))
