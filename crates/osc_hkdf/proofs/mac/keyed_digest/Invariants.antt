use Rattle.std.proofs.Common.{◌++◌, take}
use Rattle.std.specs.List.{flat_map}
use Rattle.sha2.specs.Hashers.{Holds256}
use Rattle.osc_hkdf.proofs.mac.keyed_digest.Given as goal

abbrev pub invariant-loop-part : goal.invariant-loop-part
invariant-loop-part l = Holds256 l.hasher (l.key ++ flat_map (λ part. part.now) (take l.part-index l.parts))
