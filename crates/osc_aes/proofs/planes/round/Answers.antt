use Rattle.osc_aes.proofs.PlaneRounds.{next_planes}
use Rattle.osc_aes.proofs.planes.round.Goals as goal

pub returns : goal.returns
returns c = λ w block n m b step e key few known.
    next_planes w b few block c.args.planes c.sub_bytes-substituted.result n known c.sub_bytes-substituted.ensures
    c.args.key c.mix_columns-mixed.result c.add_planes.result m c.args.turned step e key c.mix_columns-mixed.ensures c.add_planes.ensures
