use Rattle.std.proofs.Common.{arith, ◌∙◌, length-take}
use Rattle.osc_ccm.proofs.Protections.{sealed_in_place}
use Rattle.osc_ccm.proofs.sealing.seal.Goals as goal

pub returns-clause-sealed : goal.returns-clause-sealed
returns-clause-sealed g c =
    sealed_in_place c.encrypted_length.ensures (g.C.BlockCipher.cipher_key c.args.cipher.now) c.args.nonce.now c.args.aad.now c.args.buf.now
    c.seal_message-tag.new.message c.copy_from_slice.new.self c.args.len _ (omega arith) (omega arith)
    (omega (arith, length-take c.args.len c.args.buf.now)) c.seal_message-tag.ensures.message (omega arith)
    (c.copy_from_slice.ensures.after ∙ c.seal_message-tag.ensures.tag)
