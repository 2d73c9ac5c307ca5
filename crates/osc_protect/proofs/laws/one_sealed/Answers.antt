use Rattle.std.proofs.Common.{true, false}
use Rattle.osc_protect.specs.Protection.{notifications, requests, responses}
use Rattle.osc_protect.proofs.Protections.{requests_sound, responses_sound}
use Rattle.osc_protect.proofs.SealedForms.{form_law}
use Rattle.osc_protect.proofs.laws.one_sealed.Goals as goal

pub returns : goal.returns
returns c =
    let spelling = c.one_option_value.ensures.one_spelling in
    let text = c.one_text.ensures in
    let lengths = c.lengths_by_parts.ensures in
    let one = c.one_plaintext.ensures in
    let long = c.protection_length.ensures in
    record {
      request = λ s. form_law (requests s) (requests_sound one long s) spelling text.inner text.datagram lengths.datagram lengths.inner;
      response = λ s n. form_law (responses s n) (responses_sound one long s false n) spelling text.inner text.datagram lengths.datagram lengths.inner;
      notification = λ s n. form_law (notifications s n) (responses_sound one long s true n) spelling text.inner text.datagram lengths.datagram lengths.inner;
    }
