use Rattle.std.proofs.Common.{◌≡◌, fold, map}
use Rattle.std.specs.List.{range_with_len}
use Rattle.osc_ccm.specs.Ccm.{mac_step, padded_block}
use Rattle.osc_ccm.proofs.tag.absorb.Given as goal

abbrev pub invariant-loop-i : goal.invariant-loop-i
invariant-loop-i g l =
    l.state ≡ fold (mac_step (g.C.BlockCipher.cipher_key l.cipher)) l.initial.state (map (padded_block l.bytes) (range_with_len 0 l.i))
