use Rattle.std.proofs.Common.{◌∙◌, arith, ap, ℕ, List, bit_xor, get_or, take, drop, ◌*◌, ◌-◌}
use Rattle.osc_ccm.proofs.Streams.{encrypted_end, encrypted_more}
use Rattle.osc_ccm.proofs.key_stream.add_key_stream.Goals as goal

pub loop-i-preserved : goal.loop-i-preserved
loop-i-preserved g c =
    let n = c.min-end.result - 16 * c.loop-i.i in
    encrypted_more c.encrypted_length.ensures (g.C.BlockCipher.cipher_key c.args.cipher.now) c.args.nonce.now c.args.message.now c.loop-i.message _ c.loop-i.i _
    (omega arith) (omega arith) c.loop-i.invariant (omega arith)
    (λ k. c.xor_front.ensures k
    ∙ ap (λ (b : List ℕ). bit_xor (get_or (take n (drop (16 * c.loop-i.i) c.loop-i.message)) k 0) (get_or (take n b) k 0)) c.stream_block-block.ensures)

pub returns : goal.returns
returns g c =
    encrypted_end (g.C.BlockCipher.cipher_key c.args.cipher.now) c.args.nonce.now c.args.message.now c.loop-i.message c.loop-i.i (omega arith) c.loop-i.invariant
