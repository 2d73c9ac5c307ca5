use Rattle.std.specs.Option.{option_copied}
use Rattle.osc_context.proofs.SameContexts.{context_is}
use Rattle.osc_context.proofs.context.Context.derive_judged.Goals as goal

pub returns-clause-client : goal.returns-clause-client
returns-clause-client c =
    let p = c.args.params in
    context_is p.secret.now p.salt.now p.sender.now p.recipient.now _ _ _ _ _ c.extract-prk.result (option_copied p.id_context) _ c.in_ok-sender.ensures.sender c.in_ok-sender.ensures.recipient c.in_ok-id_context.ensures.value c.extract-prk.ensures c.derive_key.ensures c.derive_key-2.ensures c.derive_common_iv.ensures
