use Rattle.std.proofs.Common.{◌≡◌, ◌+◌, length}
use Rattle.osc_aes.specs.Aes128.{expanded_key}
use Rattle.osc_aes.specs.Lanes.{AreKeysTo, block_at}
use Rattle.osc_aes.proofs.plane_keys.round_keys.Given as goal

abbrev pub invariant-loop-round : goal.invariant-loop-round
invariant-loop-round l =
    (length l.keys ≡ 11) × (l.round_key ≡ block_at (expanded_key l.key) l.round) × AreKeysTo (l.round + 1) l.keys (expanded_key l.key)
