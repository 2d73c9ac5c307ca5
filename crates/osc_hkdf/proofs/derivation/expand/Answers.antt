use Rattle.std.proofs.Common.{arith, refl, ◌∙◌, ◌≡◌, length, rules}
use Rattle.std.proofs.lemmas.List.{take_all}
use Rattle.osc_hkdf.specs.Hkdf.{expand_block, expand_blocks}
use Rattle.osc_hkdf.proofs.Pieces.{block_more, expand_done, expand_more}
use Rattle.osc_hkdf.proofs.derivation.expand.Goals as goal

pub loop-i-init : goal.loop-i-init
unfolding expand_block expand_blocks
loop-i-init c = record { long = search rules; fits = search rules; last = refl; done = search rules }

pub loop-i-preserved : goal.loop-i-preserved
loop-i-preserved c =
    let made = block_more c.args.prk.now c.args.info.now _ _ _ c.loop-i.i c.loop-i.invariant.last refl c.hmac_sha256-block.ensures in
    let long : length c.hmac_sha256-block.result ≡ 32 = omega arith in
    record {
      long = long;
      fits = omega arith;
      last = take_all 32 c.hmac_sha256-block.result (omega arith) ∙ made;
      done = expand_more c.args.prk.now c.args.info.now c.loop-i.out c.hmac_sha256-block.result _ c.args.out.now c.loop-i.i _
          (omega arith) (omega arith) (omega arith) c.loop-i.invariant.done made long c.copy_from_slice.ensures.after;
    }

pub returns-clause-filled : goal.returns-clause-filled
returns-clause-filled c = expand_done c.args.prk.now c.args.info.now c.loop-i.out c.loop-i.i _ (omega arith) (omega arith) c.loop-i.invariant.done
