use Rattle.std.proofs.Common.{◌≡◌, ◌∙◌, sym, ap, subst, rules, true, false}
use Rattle.osc_coap.specs.Inner.{InnerParts}
use Rattle.osc_observe.specs.Observing.{is_notification, place_of}
use Rattle.osc_client.proofs.ClientDecisions.{awaits_one, continued_by, notifies_nothing, opened_is, responses_law}
use Rattle.osc_client.proofs.client_take.continued.Goals as goal

pub returns-then-not-observes : goal.returns-then-not-observes
returns-then-not-observes c = λ of s r n d own m can decrypts protects.
    awaits_one c.args.wait own m (sym c.observes.ensures ∙ (search rules))

pub returns-then-not-is_notification : goal.returns-then-not-is_notification
returns-then-not-is_notification c = λ of s r n d own m can decrypts protects.
    let (number, message) = opened_is s r n d own m c.opened-opened.result (responses_law c.one_response.ensures c.one_notification.ensures) (c.opened-opened.ensures of can s r n d decrypts) protects in
    let no : c.is_notification.result ≡ false = search rules in
    notifies_nothing c.args.wait own m
    (subst (λ (l : InnerParts). is_notification l.code l.options ≡ false) message (sym (c.is_notification.ensures ∙ ap (is_notification c.opened-opened.result.code) c.inner.ensures) ∙ no))

pub returns : goal.returns
returns c = λ of s r n d own m can decrypts protects.
    let (number, message) = opened_is s r n d own m c.opened-opened.result (responses_law c.one_response.ensures c.one_notification.ensures) (c.opened-opened.ensures of can s r n d decrypts) protects in
    let yes : c.is_notification.result ≡ true = search rules in
    let waits : c.observes.result ≡ true = search rules in
    continued_by c.args.wait own m c.place_of.result (sym c.observes.ensures ∙ waits)
    (subst (λ (l : InnerParts). is_notification l.code l.options ≡ true) message (sym (c.is_notification.ensures ∙ ap (is_notification c.opened-opened.result.code) c.inner.ensures) ∙ yes))
    (c.place_of.ensures ∙ ap place_of number)
