use Rattle.osc_laws.specs.AnswerLaws.{SealedHeads}
use Rattle.osc_laws.proofs.SenderNonces.{server_once, waiting_once}
use Rattle.osc_laws.proofs.laws.keys_or_nonces_once.Goals as goal

pub returns : goal.returns
returns c =
    let heads : SealedHeads = record { response = c.protections_show_heads.ensures.response; notification = c.protections_show_heads.ensures.notification } in
    record {
      server = server_once heads c.nonces_once.ensures.server;
      nonces = waiting_once heads c.answered_once.ensures.nonces;
    }
