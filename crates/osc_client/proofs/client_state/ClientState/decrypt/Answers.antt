use Rattle.std.proofs.Common.{◌∙◌, inl, sym, ap, subst, refl, rules, option_map}
use Rattle.std.proofs.lemmas.Option.{slice_get_within}
use Rattle.osc_coap.specs.Views.{parts_of}
use Rattle.osc_context.specs.Views.{as_client, number_of}
use Rattle.osc_protect.specs.Head.{ShowsNoResponseHead}
use Rattle.osc_protect.specs.Refusals.{RefusesTag}
use Rattle.osc_protect.specs.StageViews.{DecryptsResponse}
use Rattle.osc_protect.specs.Views.{context_of, registers, request_number}
use Rattle.osc_client.specs.Agrees.{parts_over}
use Rattle.osc_client.specs.ClientAnswer.{IsPassed}
use Rattle.osc_client.specs.ClientHistory.{Malformed, NotResponse, UnknownToken, Unprotected, Undecodable, BadTag, Old, context, observes}
use Rattle.osc_client.proofs.Asking.{advanced, contains_at, differ_alive, moved}
use Rattle.osc_client.proofs.ClientDecisions.{answers, in_history, not_there, opened_by, says_awaited, says_own, there}
use Rattle.osc_client.proofs.client_state.ClientState.decrypt.Goals as goal

pub decrypt_response-requires : goal.decrypt_response-requires
decrypt_response-requires g c = c.sealed-sealed.ensures (as_client (context_of c.args.self.now.context)) (registers c.request-request.result) (request_number c.request-request.result) c.args.datagram.now (parts_of c.in-Ok.message, c.in-Ok.ensures.accepted, c.in-Ok-read.ensures.head)

pub returns-in-Err-clause-refused : goal.returns-in-Err-clause-refused
returns-in-Err-clause-refused g c = λ h a.
    let b = advanced _ _ h c.args.now a refl refl refl refl c.max-self.ensures c.drop_expired.ensures.requests in
    record {
      answer = Malformed c.in-Err.error.fault c.in-Err.error.place;
      row = c.in-Err.ensures.refused;
      decides = (refl, refl);
      agrees = moved _ h c.args.now _ _ refl refl refl refl b;
    }

pub returns-then-not-is_response-clause-refused : goal.returns-then-not-is_response-clause-refused
returns-then-not-is_response-clause-refused g c = λ h a.
    let b = advanced _ _ h c.args.now a refl refl refl refl c.max-self.ensures c.drop_expired.ensures.requests in
    record {
      answer = NotResponse;
      row = (parts_of c.in-Ok.message, c.in-Ok.ensures.accepted, search rules);
      decides = tt;
      agrees = moved _ h c.args.now _ _ refl refl refl refl b;
    }

pub returns-in_default-clause-refused : goal.returns-in_default-clause-refused
returns-in_default-clause-refused g c = λ h a.
    let b = advanced _ _ h c.args.now a refl refl refl refl c.max-self.ensures c.drop_expired.ensures.requests in
    let p = parts_of c.in-Ok.message in
    record {
      answer = UnknownToken;
      row = (
        p.token,
        (p, c.in-Ok.ensures.accepted, search rules, refl),
        not_there _ h c.args.now _ p.token b c.as_slice.ensures.value c.in_default.ensures.none,
      );
      decides = tt;
      agrees = moved _ h c.args.now _ _ refl refl refl refl b;
    }

pub returns-in-Err-NoOscore-clause-refused : goal.returns-in-Err-NoOscore-clause-refused
returns-in-Err-NoOscore-clause-refused g c = λ h a.
    let b = advanced _ _ h c.args.now a refl refl refl refl c.max-self.ensures c.drop_expired.ensures.requests in
    let p = parts_of c.in-Ok.message in
    let (r, has, token, number, wait) = there _ c.in-Some.found _ p.token c.as_slice.ensures.value c.in-Some.ensures.found in
    record {
      answer = Unprotected;
      row = (
        r,
        answers _ h c.args.now c.args.datagram.now p r b c.in-Ok.ensures.accepted (search rules) token has,
        (p, c.in-Ok.ensures.accepted, subst (ShowsNoResponseHead p) c.in-Err-NoOscore.field-0-is c.in-Err-NoOscore.ensures.refused),
      );
      decides = tt;
      agrees = moved _ h c.args.now _ _ refl refl refl refl b;
    }

pub returns-in-Err-Undecodable-clause-refused : goal.returns-in-Err-Undecodable-clause-refused
returns-in-Err-Undecodable-clause-refused g c = λ h a.
    let b = advanced _ _ h c.args.now a refl refl refl refl c.max-self.ensures c.drop_expired.ensures.requests in
    let p = parts_of c.in-Ok.message in
    let (r, has, token, number, wait) = there _ c.in-Some.found _ p.token c.as_slice.ensures.value c.in-Some.ensures.found in
    record {
      answer = Undecodable;
      row = (
        r,
        answers _ h c.args.now c.args.datagram.now p r b c.in-Ok.ensures.accepted (search rules) token has,
        (p, c.in-Ok.ensures.accepted, subst (ShowsNoResponseHead p) c.in-Err-Undecodable.field-0-is c.in-Err-Undecodable.ensures.refused),
      );
      decides = tt;
      agrees = moved _ h c.args.now _ _ refl refl refl refl b;
    }

pub returns-in_default-decrypt_response-clause-refused : goal.returns-in_default-decrypt_response-clause-refused
returns-in_default-decrypt_response-clause-refused g c = λ h a.
    let b = advanced _ _ h c.args.now a refl refl refl refl c.max-self.ensures c.drop_expired.ensures.requests in
    let p = parts_of c.in-Ok.message in
    let (r, has, token, number, wait) = there _ c.in-Some.found _ p.token c.as_slice.ensures.value c.in-Some.ensures.found in
    let refused = in_history (λ f. RefusesTag f c.args.datagram.now) (as_client (context_of c.args.self.now.context)) (context h) (registers c.request-request.result) (observes r.wait)
    (request_number c.request-request.result) (number_of c.in-Some.found.number) r.number a.context_is (c.request-request.ensures.registers ∙ ap observes (sym wait))
    c.request-request.ensures.number number c.in_default-decrypt_response.ensures.refused in
    let says = says_awaited (context h) r c.args.datagram.now c.in-Ok-read.head c.in-Some.found (p, c.in-Ok.ensures.accepted, c.in-Ok-read.ensures.head) wait (c.is_passed.ensures.no (search rules)) in
    record {
      answer = BadTag;
      row = (r, answers _ h c.args.now c.args.datagram.now p r b c.in-Ok.ensures.accepted (search rules) token has, (says, refused));
      decides = tt;
      agrees = moved _ h c.args.now _ _ refl refl refl refl b;
    }

pub returns-then-is_passed-clause-refused : goal.returns-then-is_passed-clause-refused
returns-then-is_passed-clause-refused g c = λ h a.
    let b = advanced _ _ h c.args.now a refl refl refl refl c.max-self.ensures c.drop_expired.ensures.requests in
    let p = parts_of c.in-Ok.message in
    let (r, has, token, number, wait) = there _ c.in-Some.found _ p.token c.as_slice.ensures.value c.in-Some.ensures.found in
    let own = option_map number_of c.in-Ok-read.head.number in
    record {
      answer = Old;
      row = (
        r,
        answers _ h c.args.now c.args.datagram.now p r b c.in-Ok.ensures.accepted (search rules) token has,
        inl (
          own,
          says_own (context h) r c.args.datagram.now c.in-Ok-read.head (p, c.in-Ok.ensures.accepted, c.in-Ok-read.ensures.head),
          subst (λ w. IsPassed w own) (sym wait) (c.is_passed.ensures.yes (search rules)),
        ),
      );
      decides = tt;
      agrees = moved _ h c.args.now _ _ refl refl refl refl b;
    }

pub returns-clause-answers : goal.returns-clause-answers
returns-clause-answers g c = λ h a.
    let b = advanced _ _ h c.args.now a refl refl refl refl c.max-self.ensures c.drop_expired.ensures.requests in
    let p = parts_of c.in-Ok.message in
    let (r, at, named, number, wait) = c.in-Some.ensures.found in
    let has = contains_at _ c.in-Some.found.place r at in
    record {
      agrees = b;
      to = r;
      at_place = at;
      number_is = number;
      wait_is = wait;
      answers = answers _ h c.args.now c.args.datagram.now p r b c.in-Ok.ensures.accepted (search rules) (named ∙ c.as_slice.ensures.value) has;
      awaits = says_awaited (context h) r c.args.datagram.now c.in-Ok-read.head c.in-Some.found (p, c.in-Ok.ensures.accepted, c.in-Ok-read.ensures.head) wait (c.is_passed.ensures.no (search rules));
      decrypts = in_history (λ f. DecryptsResponse f c.args.datagram.now c.in-Ok-decrypt_response.decrypted c.decrypt_response.new.datagram) (as_client (context_of c.args.self.now.context)) (context h)
          (registers c.request-request.result) (observes r.wait) (request_number c.request-request.result) (number_of c.in-Some.found.number) r.number a.context_is
          (c.request-request.ensures.registers ∙ ap observes (sym wait)) c.request-request.ensures.number number c.in-Ok-decrypt_response.ensures.decrypted;
    }

pub returns-clause-opened : goal.returns-clause-opened
returns-clause-opened g c =
    let (r, has, token, number, wait) = there _ c.in-Some.found _ _ c.as_slice.ensures.value c.in-Some.ensures.found in
    opened_by (parts_over c.args.self.now (g.W.Waiting.requests c.args.pending.now)) c.max-self.result (request_number c.request-request.result) (registers c.request-request.result) c.in-Some.found _ c.args.datagram.now c.decrypt_response.new.datagram r c.in-Ok-decrypt_response.decrypted
    c.drop_expired.ensures.requests has number wait c.request-request.ensures.registers c.request-request.ensures.number c.in-Ok-decrypt_response.ensures.decrypted

pub returns-then-is_passed-clause-apart : goal.returns-then-is_passed-clause-apart
returns-then-is_passed-clause-apart g c = λ d. differ_alive _ _ _ _ c.drop_expired.ensures.requests d

pub returns-in-Err-clause-apart : goal.returns-in-Err-clause-apart
returns-in-Err-clause-apart g c = λ d. differ_alive _ _ _ _ c.drop_expired.ensures.requests d

pub returns-then-not-is_response-clause-apart : goal.returns-then-not-is_response-clause-apart
returns-then-not-is_response-clause-apart g c = λ d. differ_alive _ _ _ _ c.drop_expired.ensures.requests d

pub returns-in_default-clause-apart : goal.returns-in_default-clause-apart
returns-in_default-clause-apart g c = λ d. differ_alive _ _ _ _ c.drop_expired.ensures.requests d

pub returns-in-Err-NoOscore-clause-apart : goal.returns-in-Err-NoOscore-clause-apart
returns-in-Err-NoOscore-clause-apart g c = λ d. differ_alive _ _ _ _ c.drop_expired.ensures.requests d

pub returns-in-Err-Undecodable-clause-apart : goal.returns-in-Err-Undecodable-clause-apart
returns-in-Err-Undecodable-clause-apart g c = λ d. differ_alive _ _ _ _ c.drop_expired.ensures.requests d

pub returns-in_default-decrypt_response-clause-apart : goal.returns-in_default-decrypt_response-clause-apart
returns-in_default-decrypt_response-clause-apart g c = λ d. differ_alive _ _ _ _ c.drop_expired.ensures.requests d

pub returns-clause-apart : goal.returns-clause-apart
returns-clause-apart g c = λ d. differ_alive _ _ _ _ c.drop_expired.ensures.requests d

pub returns-clause-within : goal.returns-clause-within
returns-clause-within g c = let (r, at, named, number, wait) = c.in-Some.ensures.found in slice_get_within _ _ r at
