use Rattle.std.proofs.Common.{true, false}
use Rattle.osc_protect.specs.Protection.{notifications, requests, responses}
use Rattle.osc_protect.proofs.NamedHeads.{heads_shown}
use Rattle.osc_protect.proofs.Protections.{requests_keep, requests_sound, responses_keep, responses_sound}
use Rattle.osc_protect.proofs.laws.protections_show_heads.Goals as goal

pub returns : goal.returns
returns c =
    let laws = c.layer_laws.ensures in
    record {
      request = λ s. heads_shown laws (requests s) (requests_sound laws.one_plaintext laws.protection_length s) (requests_keep s);
      response = λ s n. heads_shown laws (responses s n) (responses_sound laws.one_plaintext laws.protection_length s false n) (responses_keep s false n);
      notification = λ s n. heads_shown laws (notifications s n) (responses_sound laws.one_plaintext laws.protection_length s true n) (responses_keep s true n);
    }
