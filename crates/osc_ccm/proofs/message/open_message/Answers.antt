use Rattle.std.proofs.Common.{◌≡◌, ◌∙◌, arith, ap, sym, refl, ℕ, List, bit_xor, get_or, take, drop, fold, ◌*◌, ◌-◌, ◌<◌, length}
use Rattle.std.proofs.lemmas.Slice.{take-put_mid_below}
use borrow.Rule.Slice.PartMut.{put_mid, same_len_mid}
use Rattle.osc_ccm.specs.Ccm.{mac_step, stream_block}
use Rattle.osc_ccm.proofs.Macs.{sent_tag}
use Rattle.osc_ccm.proofs.PaddedBlocks.{absorb_more, blocks_before}
use Rattle.osc_ccm.proofs.Streams.{encrypted_end, encrypted_more}
use Rattle.osc_ccm.proofs.message.open_message.Goals as goal

pub loop-i-init : goal.loop-i-init
loop-i-init g c =
    let key = g.C.BlockCipher.cipher_key c.args.cipher.now in
    record {
      long = refl;
      message = refl;
      state = refl;
      next = λ more. c.begin.ensures.stream ∙ ap (stream_block key c.args.nonce.now) (c.wanted.ensures.more more);
      last = λ all. c.begin.ensures.stream ∙ ap (stream_block key c.args.nonce.now) (c.wanted.ensures.last all);
    }

pub loop-i-preserved : goal.loop-i-preserved
loop-i-preserved g c =
    let whole = c.encrypted_length.ensures in
    let key = g.C.BlockCipher.cipher_key c.args.cipher.now in
    let nonce = c.args.nonce.now in
    let xs = c.args.message.now in
    let i = c.loop-i.i in
    let n = c.min-end.result - 16 * i in
    let lt : 16 * i < length xs = omega arith in
    let before = c.loop-i.message in
    let after = put_mid (16 * i) n before c.xor_front.new.bytes in
    let stream = c.loop-i.invariant.next (omega arith) in
    let same : take (16 * i) before ≡ take (16 * i) after = sym (take-put_mid_below (16 * i) n before c.xor_front.new.bytes (16 * i) (omega arith) (omega arith)) in
    record {
      long = same_len_mid (16 * i) n before c.xor_front.new.bytes (omega arith) ∙ c.loop-i.invariant.long;
      message =
          encrypted_more whole key nonce xs before _ i n (omega arith) lt c.loop-i.invariant.message (omega arith)
          (λ k. c.xor_front.ensures k ∙ ap (λ (b : List ℕ). bit_xor (get_or (take n (drop (16 * i) before)) k 0) (get_or (take n b) k 0)) stream);
      state =
          absorb_more key c.begin.result.0 c.loop-i.state _ after i n (omega arith)
          (c.loop-i.invariant.state ∙ ap (fold (mac_step key) c.begin.result.0) (blocks_before before after i same))
          c.absorb_beside-stream.ensures.state;
      next = λ more. c.absorb_beside-stream.ensures.stream ∙ ap (stream_block key nonce) (c.wanted-in-loop-i.ensures.more more);
      last = λ all. c.absorb_beside-stream.ensures.stream ∙ ap (stream_block key nonce) (c.wanted-in-loop-i.ensures.last all);
    }

pub returns-clause-message : goal.returns-clause-message
returns-clause-message g c =
    encrypted_end (g.C.BlockCipher.cipher_key c.args.cipher.now) c.args.nonce.now c.args.message.now c.loop-i.message c.loop-i.i (omega arith) c.loop-i.invariant.message

pub returns-clause-tag : goal.returns-clause-tag
returns-clause-tag g c =
    sent_tag (g.C.BlockCipher.cipher_key c.args.cipher.now) c.args.nonce.now c.args.aad.now c.loop-i.message c.begin.result.0 c.loop-i.state c.loop-i.stream c.hidden_tag.result c.loop-i.i
    (omega arith) (c.begin.ensures.state c.loop-i.message (omega arith)) c.loop-i.invariant.state (c.loop-i.invariant.last (omega arith)) c.hidden_tag.ensures
