use Rattle.std.proofs.Common.{ℕ, ◌≡◌, ◌≢◌, ◌∷◌, ◌++◌, length, arith, ap₂, ◌∙◌, sym}
use Rattle.std.proofs.lemmas.Grind.{common_steps}
use Rattle.osc_ccm.specs.Ccm.{flags_of, two_bytes}
use Rattle.osc_ccm.proofs.Macs.{begun_is, flags_none, flags_some}
use Rattle.osc_ccm.proofs.tag.begin.Goals as goal
use Rattle.osc_ccm.proofs.tag.begin.Goals.{then-is_empty, else-is_empty}

pub returns-clause-state : goal.returns-clause-state
returns-clause-state g c = λ m long.
    let flags : c.if-is_empty.flags ≡ flags_of c.args.aad.now = elim c.if-is_empty.branch [
      | then-is_empty w ↦
          let empty : length c.args.aad.now ≡ 0 = grind (arith, common_steps) in
          w.flags-is ∙ sym (flags_none c.args.aad.now empty)
      | else-is_empty w ↦
          let some : length c.args.aad.now ≢ 0 = grind (arith, common_steps) in
          w.flags-is ∙ sym (flags_some c.args.aad.now (omega (arith, some)))
    ] in
    begun_is (g.C.BlockCipher.cipher_key c.args.cipher.now) c.args.nonce.now c.args.aad.now m c.numbered_block-first.result _ _
    (omega arith)
    (c.numbered_block-first.ensures
    ∙ ap₂ (λ (f n : ℕ). (f ∷ c.args.nonce.now) ++ two_bytes n) flags (omega (arith, long)))
    c.absorb_beside-stream.ensures.state c.absorb_aad.ensures
