use Rattle.osc_laws.specs.AnswerLaws.{SealedHeads}
use Rattle.osc_laws.proofs.RequestNumbers.{request_nonces}
use Rattle.osc_laws.proofs.ServerNonces.{no_shared_nonce}
use Rattle.osc_laws.proofs.laws.nonces_once.Goals as goal

pub returns : goal.returns
returns c =
    let heads : SealedHeads = record { response = c.protections_show_heads.ensures.response; notification = c.protections_show_heads.ensures.notification } in
    record {
      server = no_shared_nonce c.one_nonce.ensures c.one_option_value.ensures.in_range heads c.delivered_once.ensures;
      client = request_nonces c.one_nonce.ensures c.protections_show_heads.ensures.request;
    }
