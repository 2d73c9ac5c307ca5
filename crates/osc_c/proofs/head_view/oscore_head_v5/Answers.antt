use Rattle.osc_c.proofs.head_view.oscore_head_v5.Goals as goal

pub returns-in-Err-clause-accepts : goal.returns-in-Err-clause-accepts
returns-in-Err-clause-accepts c h head = absurd (c.in-Err.ensures.accepts h head)
