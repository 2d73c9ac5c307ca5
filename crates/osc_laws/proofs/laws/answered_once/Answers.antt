use Rattle.osc_laws.specs.AnswerLaws.{SealedHeads}
use Rattle.osc_laws.proofs.Waiting.{answers_once, waiting_life, waiting_nonces}
use Rattle.osc_laws.proofs.laws.answered_once.Goals as goal

pub returns : goal.returns
returns c =
    let heads : SealedHeads = record { response = c.protections_show_heads.ensures.response; notification = c.protections_show_heads.ensures.notification } in
    record {
      once = answers_once c.one_option_value.ensures.in_range;
      nonces = waiting_nonces c.one_nonce.ensures c.one_option_value.ensures.in_range heads;
      life = waiting_life c.one_option_value.ensures.in_range;
    }
