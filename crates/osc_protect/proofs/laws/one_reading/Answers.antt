use Rattle.std.proofs.Common.{ℕ, Bool, true, false, refl}
use Rattle.osc_context.specs.SecurityContext.{SecurityContext}
use Rattle.osc_protect.specs.Protection.{notifications, requests, responses, responses_to}
use Rattle.osc_protect.proofs.Exact.{messages_law}
use Rattle.osc_protect.proofs.NamedHeads.{says_one_thing}
use Rattle.osc_protect.proofs.OpenedAlike.{opened_law}
use Rattle.osc_protect.proofs.Protections.{IsSound, requests_sound, responses_sound}
use Rattle.osc_protect.proofs.laws.one_reading.Goals as goal

pub returns : goal.returns
returns c =
    let laws = c.layer_laws.ensures in
    let request : (s : SecurityContext) → IsSound (requests s) = requests_sound laws.one_plaintext laws.protection_length in
    let response : (s : SecurityContext) (r : Bool) (n : ℕ) → IsSound (responses_to s r n) = responses_sound laws.one_plaintext laws.protection_length in
    record {
      request = record {
        named = λ s t. says_one_thing laws (requests s) (requests t) refl (request t);
        opened = λ s. opened_law laws.one (requests s) (messages_law laws (requests s) (request s));
      };
      response = record {
        named = λ s t n m. says_one_thing laws (responses s n) (responses t m) refl (response t false m);
        opened = λ s n. opened_law laws.one (responses s n) (messages_law laws (responses s n) (response s false n));
      };
      notification = record {
        named = λ s t n m. says_one_thing laws (notifications s n) (notifications t m) refl (response t true m);
        opened = λ s n. opened_law laws.one (notifications s n) (messages_law laws (notifications s n) (response s true n));
      };
    }
