use Rattle.std.proofs.Common.{arith, length, ◌≢◌}
use Rattle.std.proofs.lemmas.Grind.{common_steps}
use Rattle.osc_ccm.proofs.Macs.{absorbed_aad}
use Rattle.osc_ccm.proofs.tag.absorb_aad.Goals as goal

pub returns : goal.returns
returns g c =
    let nonempty : length c.args.aad.now ≢ 0 = grind (arith, common_steps) in
    absorbed_aad (g.C.BlockCipher.cipher_key c.args.cipher.now) c.args.state.now _ _ c.args.aad.now _ _
    (omega (arith, nonempty)) c.aad_block-taken.ensures.taken c.aad_block-taken.ensures.block c.absorb_block.ensures c.absorb.ensures
