use Rattle.std.proofs.Common.{◌∷◌, [], refl, ap, subst, sym, Bool, List, ◌≡◌, ◌++◌}
use Rattle.osc_coap.specs.OptionNumbers.{observe, oscore}
use Rattle.osc_coap.specs.OptionSpelling.{Entry}
use Rattle.osc_coap.specs.Search.{values_at}
use Rattle.osc_protect.specs.Sealed.{options_behind, options_outside}
use Rattle.osc_protect.proofs.Observes.{emptied_observe, none_behind, outside_observe, unknown_kept, unknown_outside}
use Rattle.osc_protect.proofs.laws.one_observe.Goals as goal

pub returns : goal.returns
returns c = record {
  stands_outside = λ x p code value payload observed has is.
      subst (λ (b : Bool). values_at observe (options_outside b p.options ++ (oscore, value) ∷ options_behind p.options) ≡ observed ∷ []) (sym has) (outside_observe p.options ((oscore, value) ∷ options_behind p.options) observed (none_behind p.options) is);
  emptied_inside = λ p observed is. emptied_observe p.options observed is;
  unknown = λ x p code value payload none. (
    rw (unknown_outside x.observe p.options none) refl,
    ap (λ (es : List Entry). record p { options = es }) (unknown_kept p.options none),
  );
}
