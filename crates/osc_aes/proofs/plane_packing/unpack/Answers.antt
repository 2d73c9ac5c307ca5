use Rattle.std.proofs.Common.{arith}
use Rattle.osc_aes.proofs.WordBytes.{unpacked_block}
use Rattle.osc_aes.proofs.plane_packing.unpack.Goals as goal

pub returns-clause-first : goal.returns-clause-first
returns-clause-first c =
    unpacked_block c.args.planes c.transpose.result c.turn_back.result c.write_u32_into.new.dst 0 (omega arith) (omega arith)
    c.write_u32_into.ensures c.transpose.ensures c.turn_back.ensures

pub returns-clause-second : goal.returns-clause-second
returns-clause-second c =
    unpacked_block c.args.planes c.transpose.result c.turn_back.result c.write_u32_into-2.new.dst 1 (omega arith) (omega arith)
    c.write_u32_into-2.ensures c.transpose.ensures c.turn_back.ensures
