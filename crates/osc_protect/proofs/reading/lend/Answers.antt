use Rattle.std.proofs.Common.{rules, ◌≡◌, ℕ, ◌+◌, List, true, false, refl, length, take, ap, sym, subst, ◌∙◌, arith, length-take}
use Rattle.osc_coap.specs.Datagram.{Parts}
use Rattle.osc_coap.specs.Inner.{InnerParts, IsInner}
use Rattle.osc_coap.specs.Search.{has_number}
use Rattle.osc_coap.specs.Views.{inner_parts_of, parts_of}
use Rattle.osc_protect.specs.OptionSets.{is_barred}
use Rattle.osc_protect.specs.Usage.{is_code_of}
use Rattle.osc_protect.proofs.reading.lend.Goals as goal

pub slice_bounds-parsed_inner-end : goal.slice_bounds-parsed_inner-end
slice_bounds-parsed_inner-end c =
    let same : c.requires.1.outer ≡ parts_of c.parsed-message.result = c.one_datagram.ensures.one _ _ _ c.requires.1.datagram c.parsed-message.ensures in
    let room : c.args.len + 8 ≡ length c.parsed-message.result.payload.now = subst (λ (p : Parts). c.args.len + 8 ≡ length p.payload) same c.requires.1.room in
    let shown : length c.payload.result.now ≡ length c.parsed-message.result.payload.now = ap length c.payload.ensures in
    omega (arith, room, shown, length-take c.args.len c.payload.result.now)

pub parsed_inner-inner-requires : goal.parsed_inner-inner-requires
parsed_inner-inner-requires c =
    let same : c.requires.1.outer ≡ parts_of c.parsed-message.result = c.one_datagram.ensures.one _ _ _ c.requires.1.datagram c.parsed-message.ensures in
    let payload : c.requires.1.outer.payload ≡ c.payload.result.now = ap (λ (p : Parts). p.payload) same ∙ sym c.payload.ensures in
    (c.requires.1.inner, subst (λ (b : List ℕ). IsInner c.requires.1.inner (take c.args.len b)) payload c.requires.1.spells, c.requires.1.long)

pub returns : goal.returns
returns c = λ x h.
    let same : h.outer ≡ parts_of c.parsed-message.result = c.one_datagram.ensures.one _ _ _ h.datagram c.parsed-message.ensures in
    let payload : h.outer.payload ≡ c.payload.result.now = ap (λ (p : Parts). p.payload) same ∙ sym c.payload.ensures in
    let spells : IsInner h.inner (take c.args.len c.payload.result.now) = subst (λ (b : List ℕ). IsInner h.inner (take c.args.len b)) payload h.spells in
    let inner : h.inner ≡ inner_parts_of c.parsed_inner-inner.result = c.one_inner.ensures.one _ _ _ spells c.parsed_inner-inner.ensures in
    let message = inner_parts_of c.parsed_inner-inner.result in
    let front : IsInner message (take c.args.len c.parsed-message.result.payload.now) = subst (λ (b : List ℕ). IsInner message (take c.args.len b)) c.payload.ensures c.parsed_inner-inner.ensures in
    record {
      outer = parts_of c.parsed-message.result;
      datagram = c.parsed-message.ensures;
      shows = search rules;
      piv = refl;
      spells = search rules;
      code = subst (λ (m : InnerParts). is_code_of c.args.usage m.code ≡ true) inner h.code;
      allowed = ap (has_number (is_barred x)) c.options-2.ensures ∙ subst (λ (m : InnerParts). has_number (is_barred x) m.options ≡ false) inner h.allowed;
    }
