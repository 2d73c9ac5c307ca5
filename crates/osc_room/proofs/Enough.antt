-- So much room is enough: what a sealed message takes is never more.
use Rattle.std.proofs.Common.{ℕ, ◌≤◌, Bool, true, false, List, Option, Some, None, IfSome, length, arith}
use Rattle.osc_coap.specs.Laws.{DatagramHasItsLength, OptionsAscend}
use Rattle.osc_context.specs.Laws.{ValueMostLen}
use Rattle.osc_context.specs.OscoreValue.{IsOscoreValue, kid_context_bytes}
use Rattle.osc_context.specs.SecurityContext.{SecurityContext}
use Rattle.osc_protect.specs.Protection.{as_it_is, requests, responses_to}
use Rattle.osc_protect.specs.Usage.{value_of_request, value_of_response}
use Rattle.osc_protect.proofs.Supported.{sealing_supported}
use Rattle.osc_room.specs.Laws.{RequestsHaveRoom, ResponsesHaveRoom}
use Rattle.osc_room.specs.Room.{IdentifiersFit}
use Rattle.osc_room.proofs.Growth.{IsShort, sealed_growth, short_as_it_is, short_as_notified}

-- the value of a request's OSCORE option has 46 bytes at most
request_value : ValueMostLen → (s : SecurityContext) (n : ℕ) → IdentifiersFit s → (value : List ℕ) → IsOscoreValue ((requests s).parts n) value → length value ≤ 46
request_value most s n fits value reads =
    let all = most (value_of_request n s.id_context s.client) value reads in
    let kid = fits.kid in
    let kid_context = context_fits s.id_context fits.id_context in
    omega (arith, all, kid, kid_context)
  where
    context_fits : (id_context : Option (List ℕ)) → IfSome id_context (λ bytes. length bytes ≤ 32) → length (kid_context_bytes id_context) ≤ 33
    context_fits None le = omega arith
    context_fits (Some bytes) le = omega (arith, le)

pub requests_have_room : DatagramHasItsLength → OptionsAscend → ValueMostLen → RequestsHaveRoom
requests_have_room long ascend most s n p plain room fits of enough refuses =
    let value = refuses.1.0 in
    let short = request_value most s n fits value refuses.1.1 in
    let size = sealed_growth long ascend s.features as_it_is p plain value short_as_it_is of refuses.0.1 short p.kind p.message_id p.token in
    let (low, less) = refuses.1.2 in
    omega (arith, size, short, low, less, enough)

-- what any response says inside takes no more than the plain one
short_response : (registers : Bool) (s : SecurityContext) (n : ℕ) → IsShort (responses_to s registers n).says
short_response true s n = short_as_notified
short_response false s n = short_as_it_is

pub responses_have_room : DatagramHasItsLength → OptionsAscend → ValueMostLen → ResponsesHaveRoom
responses_have_room long ascend most s registers n own p kind message_id token plain room of few enough refuses =
    let f = responses_to s registers n in
    let value = refuses.1.0 in
    let short : length value ≤ 6 = let all = most (value_of_response own) value refuses.1.1 in omega (arith, all) in
    let supported = sealing_supported f.usage f.features p.code p.options refuses.0.1 in
    let size = sealed_growth long ascend f.features f.says p plain value (short_response registers s n) of supported (omega (arith, short)) kind message_id token in
    let (low, less) = refuses.1.2 in
    omega (arith, size, short, low, less, few, enough)
