use Rattle.std.proofs.Common.{◌≡◌, length, take, arith, subst, sym, false, Some}
use Rattle.osc_coap.specs.Datagram.{Parts}
use Rattle.osc_coap.specs.Views.{parts_of}
use Rattle.osc_context.specs.Views.{as_server, number_of}
use Rattle.osc_protect.specs.Protection.{responses}
use Rattle.osc_protect.specs.Sealed.{SealsResponse}
use Rattle.osc_protect.specs.SealRefusals.{FitsToSeal}
use Rattle.osc_protect.specs.Views.{context_of}
use Rattle.osc_life.specs.Replies.{as_reply, challenge_message}
use Rattle.osc_life.proofs.ChallengeLengths.{challenge_fits, not_err}
use Rattle.osc_life.proofs.SealedReplies.{named_fits, sealed_as}
use Rattle.osc_life.proofs.challenge_reply.write_challenge.Goals as goal

pub unreachable-requires : goal.unreachable-requires
unreachable-requires c = c.one_datagram.ensures.never_both _ _ _ _ c.write_plain-len.ensures.written c.in_default.ensures.refused

pub unreachable-requires-in-Err : goal.unreachable-requires-in-Err
unreachable-requires-in-Err c =
    let a = c.args.asker.now in
    let p = as_reply a.kind a.message_id a.token.items c.args.mid (challenge_message c.args.echo.now) in
    let same : p ≡ parts_of c.in-Ok.message = c.one_datagram.ensures.one _ _ _ c.write_plain-len.ensures.written c.in-Ok.ensures.accepted in
    let s = as_server (context_of c.args.context.now) in
    let fits = challenge_fits s (number_of c.args.request) (number_of c.args.own) a.kind a.message_id c.args.mid a.token.items c.args.echo.now (length c.args.out.now)
    (omega (arith, c.head_len.ensures.most, c.head_len.ensures.value)) c.told-echo c.told-out (λ value reads. c.one_option_value.ensures.most _ value reads) in
    not_err c.seal_response.result c.in-Err.field-0 c.in-Err.is (c.seal_response.ensures.accepts (named_fits s c.new-request.result (number_of c.args.request) (Some (number_of c.args.own)) _ _ c.new-request.ensures.plain c.new-request.ensures.number (subst (λ (q : Parts). FitsToSeal (responses s (number_of c.args.request)) (Some (number_of c.args.own)) q (length c.args.out.now)) same fits)))

pub returns-clause-sealed : goal.returns-clause-sealed
returns-clause-sealed c =
    let a = c.args.asker.now in
    let p = as_reply a.kind a.message_id a.token.items c.args.mid (challenge_message c.args.echo.now) in
    let same : p ≡ parts_of c.in-Ok.message = c.one_datagram.ensures.one _ _ _ c.write_plain-len.ensures.written c.in-Ok.ensures.accepted in
    let bytes = take c.in-Ok-seal_response.len c.seal_response.new.out in
    let s = as_server (context_of c.args.context.now) in
    let named = sealed_as s c.new-request.result false (number_of c.args.request) (Some (number_of c.args.own)) _ bytes c.new-request.ensures.plain c.new-request.ensures.number c.in-Ok-seal_response.ensures.sealed in
    subst (λ (q : Parts). SealsResponse s (number_of c.args.request) (Some (number_of c.args.own)) q bytes) (sym same) named
