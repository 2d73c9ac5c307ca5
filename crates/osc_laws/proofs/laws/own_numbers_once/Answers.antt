use Rattle.osc_laws.specs.AnswerLaws.{SealedHeads}
use Rattle.osc_laws.proofs.OwnNumbers.{own_numbers}
use Rattle.osc_laws.proofs.RequestNumbers.{request_numbers}
use Rattle.osc_laws.proofs.laws.own_numbers_once.Goals as goal

pub returns : goal.returns
returns c =
    let heads : SealedHeads = record { response = c.protections_show_heads.ensures.response; notification = c.protections_show_heads.ensures.notification } in
    record {
      server = own_numbers heads;
      client = request_numbers c.protections_show_heads.ensures.request;
    }
