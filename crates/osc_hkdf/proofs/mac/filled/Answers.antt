use Rattle.std.proofs.Common.{arith, rules}
use Rattle.osc_hkdf.proofs.Pieces.{zeros}
use Rattle.osc_hkdf.proofs.mac.filled.Goals as goal

pub loop-i-init : goal.loop-i-init
loop-i-init c = record { long = search rules; taken = λ j h. absurd (omega arith); clear = λ j h. zeros 64 j }
