use Rattle.std.proofs.Common.{◌≡◌}
use Rattle.osc_aes.specs.Aes128.{after_rounds}
use Rattle.osc_aes.proofs.plain.cipher.Given as goal

abbrev pub invariant-loop-round : goal.invariant-loop-round
invariant-loop-round l = l.state ≡ after_rounds l.words l.block l.round
