use Rattle.std.proofs.Common.{◌∙◌, arith, ap, ℕ, List, bit_xor, get_or, take, drop, ◌*◌, ◌-◌, ◌<◌, length}
use borrow.Rule.Slice.PartMut.{same_len_mid}
use Rattle.osc_ccm.specs.Ccm.{mac_step, padded_block}
use Rattle.osc_ccm.proofs.Macs.{sent_tag}
use Rattle.osc_ccm.proofs.PaddedBlocks.{absorb_more}
use Rattle.osc_ccm.proofs.Streams.{encrypted_end, encrypted_more, left_is}
use Rattle.osc_ccm.proofs.message.seal_message.Goals as goal

pub loop-i-preserved : goal.loop-i-preserved
loop-i-preserved g c =
    let whole = c.encrypted_length.ensures in
    let key = g.C.BlockCipher.cipher_key c.args.cipher.now in
    let nonce = c.args.nonce.now in
    let xs = c.args.message.now in
    let i = c.loop-i.i in
    let n = c.min-end.result - 16 * i in
    let lt : 16 * i < length xs = omega arith in
    let left = left_is whole key nonce xs c.loop-i.message i lt c.loop-i.invariant.message in
    record {
      long = same_len_mid (16 * i) n c.loop-i.message c.xor_front.new.bytes (omega arith) ∙ c.loop-i.invariant.long;
      message =
          encrypted_more whole key nonce xs c.loop-i.message _ i _ (omega arith) lt c.loop-i.invariant.message (omega arith)
          (λ k. c.xor_front.ensures k
          ∙ ap (λ (b : List ℕ). bit_xor (get_or (take n (drop (16 * i) c.loop-i.message)) k 0) (get_or (take n b) k 0)) c.absorb_beside-stream.ensures.stream);
      state =
          absorb_more key c.begin.result.0 c.loop-i.state _ xs i _ (omega arith) c.loop-i.invariant.state
          (c.absorb_beside-stream.ensures.state ∙ ap (λ (l : List ℕ). mac_step key c.loop-i.state (padded_block (take n l) 0)) left);
    }

pub returns-clause-message : goal.returns-clause-message
returns-clause-message g c =
    encrypted_end (g.C.BlockCipher.cipher_key c.args.cipher.now) c.args.nonce.now c.args.message.now c.loop-i.message c.loop-i.i (omega arith) c.loop-i.invariant.message

pub returns-clause-tag : goal.returns-clause-tag
returns-clause-tag g c =
    sent_tag (g.C.BlockCipher.cipher_key c.args.cipher.now) c.args.nonce.now c.args.aad.now c.args.message.now c.begin.result.0 c.loop-i.state c.begin.result.1 c.hidden_tag.result c.loop-i.i
    (omega arith) (c.begin.ensures.state c.args.message.now (omega arith)) c.loop-i.invariant.state c.begin.ensures.stream c.hidden_tag.ensures
