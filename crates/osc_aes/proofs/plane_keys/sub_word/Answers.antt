use Rattle.std.proofs.Common.{arith}
use Rattle.osc_aes.proofs.PlaneKeys.{sub_word-is}
use Rattle.osc_aes.proofs.plane_keys.sub_word.Goals as goal

pub returns : goal.returns
returns c =
    sub_word-is c.args.word c.word_in.result c.word_planes.result c.sub_bytes-planes.result (omega arith) (omega arith)
    c.word_planes.ensures c.sub_bytes-planes.ensures c.word_in.ensures
