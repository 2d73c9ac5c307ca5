use Rattle.std.proofs.Common.{arith, ℕ, List, ◌≡◌, ◌∷◌, ◌++◌, ap, ap₂, ◌∙◌, length, refl}
use Rattle.osc_context.specs.Views.{number_of}
use Rattle.osc_context.specs.Nonce.{padded}
use Rattle.osc_context.specs.PartialIv.{partial_iv_of}
use Rattle.osc_context.proofs.NonceTexts.{text_put}
use Rattle.osc_context.proofs.nonces.nonce_text.Goals as goal

pub returns : goal.returns
returns c =
    let piv : c.as_slice.result.now ≡ partial_iv_of (number_of c.args.partial_iv) = c.as_slice.ensures.value ∙ c.bytes-partial_iv.ensures.value in
    text_put c.bytes-id.result.now c.as_slice.result.now _ c.put_before.new.text c.put_before-2.new.text (omega (arith, c.bytes-id.ensures.most, ap length c.bytes-id.ensures.value)) (omega arith) refl c.put_before.ensures c.put_before-2.ensures
    ∙ ap₂ (λ (id p : List ℕ). length id ∷ (padded 7 id ++ padded 5 p)) c.bytes-id.ensures.value piv
