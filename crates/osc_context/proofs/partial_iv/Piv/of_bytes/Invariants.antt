use Rattle.std.proofs.Common.{◌≡◌, ◌^◌, ◌<◌, take}
use Rattle.osc_context.specs.PartialIv.{spelled_number}
use Rattle.osc_context.proofs.partial_iv.Piv.of_bytes.Given as goal

abbrev pub invariant-loop-byte : goal.invariant-loop-byte
invariant-loop-byte l = record { number : l.number ≡ spelled_number (take l.byte-index l.bytes); bound : l.number < 256 ^ l.byte-index }
