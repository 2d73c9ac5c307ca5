use Rattle.std.proofs.Common.{◌≡◌, ℕ, ◌+◌, List, [], ◌++◌, length, take, drop, refl, sym, ap, subst, ◌∙◌}
use Rattle.osc_coap.specs.Datagram.{IsDatagram}
use Rattle.osc_coap.specs.Views.{parts_of}
use Rattle.osc_protect.specs.Sealed.{outside}
use Rattle.osc_protect.specs.Usage.{outer_code_of}
use Rattle.osc_protect.specs.Views.{cipher_of}
use Rattle.osc_protect.proofs.Placing.{left_behind, parted}
use Rattle.osc_protect.proofs.Protections.{outer_code_some}
use Rattle.osc_protect.proofs.sealing.seal_parts.Goals as goal

pub returns-clause-sealed : goal.returns-clause-sealed
returns-clause-sealed c =
    let p = parts_of c.args.plain.now in
    let x = c.args.family.features in
    let code = outer_code_of c.args.family.usage x p.options in
    let value = c.args.value.now in
    let front = c.write_parts-at.new.front in
    let buf = c.write_parts-at.new.buf in
    let at = c.write_parts-at.result.0 in
    let len = c.write_parts-at.result.1 in
    let same : at ≡ c.args.marker = c.write_parts-at.ensures.outer_length ∙ sym c.requires.marker in
    let long : length front ≡ at + 1 = c.write_parts-at.ensures.same_front ∙ c.split_at_mut-front.ensures.front_len ∙ ap (λ (n : ℕ). n + 1) (sym same) in
    let both = parted at front buf long in
    let written : IsDatagram (outside x p code value []) (take at front) = subst (λ (k : ℕ). IsDatagram (outside x p k value []) (take at front)) c.requires.code c.write_parts-at.ensures.outside in
    let whole : IsDatagram (outside x p code value []) (take at (front ++ buf)) = subst (λ (z : List ℕ). IsDatagram (outside x p code value []) z) (sym both.0) written in
    let sealed = c.seal_behind.ensures.sealed (outside x p code value []) whole refl (outer_code_some c.args.family.usage x p.options) in (
      take len buf,
      c.write_parts-at.ensures.inside,
      subst (λ (z : ℕ). IsDatagram (outside x p code value (cipher_of c.args.aead.now (take len buf))) (take z c.seal_behind.new.out)) (sym c.seal_behind.ensures.end)
          (subst (λ (z : List ℕ). IsDatagram (outside x p code value (cipher_of c.args.aead.now (take len z))) (take (at + 9 + len) c.seal_behind.new.out)) both.1 sealed),
    )

pub returns-clause-behind : goal.returns-clause-behind
returns-clause-behind c =
    let front = c.write_parts-at.new.front in
    let at = c.write_parts-at.result.0 in
    let same : at ≡ c.args.marker = c.write_parts-at.ensures.outer_length ∙ sym c.requires.marker in
    let long : length front ≡ at + 1 = c.write_parts-at.ensures.same_front ∙ c.split_at_mut-front.ensures.front_len ∙ ap (λ (n : ℕ). n + 1) (sym same) in
    let len = c.write_parts-at.result.1 in
    let part = c.write_parts-at.ensures.behind ∙ ap (drop len) (c.split_at_mut-front.ensures.back ∙ ap (λ (n : ℕ). drop (n + 1) c.args.out.now) (sym same)) in
    subst (λ (z : ℕ). drop z c.seal_behind.new.out ≡ drop z c.args.out.now) (sym c.seal_behind.ensures.end)
    (c.seal_behind.ensures.behind ∙ left_behind c.args.out.now front c.write_parts-at.new.buf at len long part)
