-- What is sealed arrives.
use Rattle.std.proofs.Common.{◌≡◌, ℕ, ◌∙◌, sym, ap, subst, refl, Bool, true, false, Option, List, ◌&&◌}
use Rattle.std.proofs.Math.Bool.{and-false}
use Rattle.osc_coap.specs.Inner.{InnerParts}
use Rattle.osc_coap.specs.Search.{has_number}
use Rattle.osc_context.specs.Features.{unobserved}
use Rattle.osc_context.specs.declared.features.Features.{Features}
use Rattle.osc_context.specs.SecurityContext.{SecurityContext}
use Rattle.osc_protect.specs.Laws.{NotificationsShowHeads, ResponsesShowHeads, SealedOpens}
use Rattle.osc_protect.specs.OptionSets.{is_unsupported}
use Rattle.osc_protect.specs.Protection.{Protects, ProtectsResponse, as_notified, responses_to}
use Rattle.osc_protect.specs.Sealed.{inside}
use Rattle.osc_laws.specs.Arriving.{WhatIsSealedArrives}
use Rattle.osc_client.specs.ClientHistory as client
use Rattle.osc_laws.proofs.Inside.{as_notification, unnotified}
use Rattle.osc_life.proofs.SealedReplies.{replied_features}

-- what is sealed as a response protects whatever the request waits for
either : (s : SecurityContext) (n : ℕ) (own : Option ℕ) (m : InnerParts) (d : List ℕ) (b : Bool) → ProtectsResponse s n own m d → Protects (responses_to s b n) own m d
either s n own m d true p = as_notification s n own m d p
either s n own m d false p = p

pub arrives : SealedOpens → ResponsesShowHeads → NotificationsShowHeads → WhatIsSealedArrives
arrives opens heads notified = record {
  request = λ h i n now of p d life seals admits. record { of = of; life_is = life; protects = (opens.request of.context n p d seals).opens; admits = admits };
  response = λ h now r own p d awaited among token seals.
      let shown = (heads (client.context h) r.number).sealed d own p seals in
      let head = shown.0 in
      let (q, datagram, shows) = shown.1 in
      let same : head.token ≡ p.token = shown.5 in
      let s = client.context h in
      record {
        to = r;
        number_is = refl;
        answers = ((q, datagram, shows.used, sym shows.token ∙ same ∙ token), among);
        awaited_is = awaited;
        protects = either s r.number own (inside p) d (client.observes r.wait) (opens.response s r.number own p d seals).opens;
        wait_is = ap (λ b. client.observes r.wait && b) (unnotified (unobserved s.features) p refl (subst (λ (x : Features). has_number (is_unsupported x) p.options ≡ false) (replied_features s r.number p) seals.supported)) ∙ and-false (client.observes r.wait);
      };
  notification = λ h now r own p d observing awaited among token seals.
      let shown = (notified (client.context h) r.number).sealed d own p seals in
      let head = shown.0 in
      let (q, datagram, shows) = shown.1 in
      let same : head.token ≡ p.token = shown.5 in
      record {
        to = r;
        number_is = refl;
        answers = ((q, datagram, shows.used, sym shows.token ∙ same ∙ token), among);
        awaited_is = awaited;
        protects = subst (λ b. Protects (responses_to (client.context h) b r.number) own (inside (as_notified p)) d) (sym observing)
            (opens.notification (client.context h) r.number own p d seals).opens;
        wait_is = refl;
      };
}
