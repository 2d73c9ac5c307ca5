use Rattle.std.proofs.Common.{◌≡◌, ◌^◌, ◌<◌, take}
use Rattle.osc_context.specs.PartialIv.{spelled_number}
use Rattle.osc_blocks.proofs.uint.read_uint.Given as goal

abbrev pub invariant-loop-byte : goal.invariant-loop-byte
invariant-loop-byte l = record { number : l.number ≡ spelled_number (take l.byte-index l.bytes); bound : l.number < 256 ^ l.byte-index }
