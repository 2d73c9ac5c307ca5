-- How the code is seen: heads, opened messages and ciphers as numbers and lists, without saying where the bytes lie.
use Rattle.std.specs.Prelude.{ℕ, List, Option, Bool}
use Rattle.std.specs.Option.{option_map}
use Rattle.std.specs.Borrow.{Bor}
use Rattle.osc_coap.specs.Views.{options_left}
use Rattle.osc_coap.specs.Inner.{InnerParts}
use Rattle.osc_context.specs.Views.{as_client, as_server, number_of, oscore_parts_of}
use Rattle.osc_context.specs.declared.context.Context.{Context}
use Rattle.osc_protect.specs.ContextCipher.{key_under}
use Rattle.osc_ccm.specs.Ccm.{ccm}
use Rattle.osc_protect.specs.Head.{Head}
use Rattle.osc_protect.specs.Protection.{Protection, requests, responses_to}
use Rattle.osc_protect.specs.Usage.{value_of_request, value_of_response}
use Rattle.osc_protect.specs.declared.aead.Aead.{Aead}
use Rattle.osc_protect.specs.declared.keyed_context.KeyedContext.{KeyedContext}
use Rattle.osc_protect.specs.declared.oscore_head.OscoreHead.{OscoreHead}
use Rattle.osc_protect.specs.declared.request_head.RequestHead.{RequestHead}
use Rattle.osc_protect.specs.declared.response_head.ResponseHead.{ResponseHead}
use Rattle.osc_protect.specs.declared.request_ref.RequestRef.{RequestRef}
use Rattle.osc_protect.specs.declared.opened.Opened.{Opened}

-- the bytes of a part, if it is there (how the code is seen)
abbrev pub shown : Option (Bor (List ℕ)) → Option (List ℕ)
shown part = option_map (λ bytes. bytes.now) part

-- the head of a message that was read (how the code is seen)
abbrev pub head_of : OscoreHead → Head
head_of h = record { kind = h.kind; message_id = h.message_id; token = h.token.items; parts = oscore_parts_of h.option; payload = h.payload.now }

-- the head of a request that was read (how the code is seen)
abbrev pub seen_head : RequestHead → Head
seen_head h = record { kind = h.kind; message_id = h.message_id; token = h.token.items; parts = value_of_request (number_of h.number) (shown h.kid_context) h.kid.now; payload = h.payload.now }

-- the head of a response that was read (how the code is seen)
abbrev pub seen_response_head : ResponseHead → Head
seen_response_head h = record { kind = h.kind; message_id = h.message_id; token = h.token.items; parts = value_of_response (option_map number_of h.number); payload = h.payload.now }

-- the number of the named request (how the code is seen)
abbrev pub request_number : RequestRef → ℕ
request_number r = number_of r.number

-- the named request registers an observation (how the code is seen)
abbrev pub registers : RequestRef → Bool
registers r = r.registers

-- the cipher of one message, from a plaintext to what protects it (RFC 8613, 5)
unfoldable pub cipher_of : Aead → List ℕ → List ℕ
cipher_of a plaintext = ccm (key_under a.cipher) a.nonce a.additional_data.items plaintext

-- the context of a keyed context (how the code is seen)
abbrev pub context_of : KeyedContext → Context
context_of k = k.context

-- the requests that this end seals: it is their client (RFC 8613, 8.1)
abbrev pub sealed_requests : Context → Protection ℕ
sealed_requests c = requests (as_client c)

-- the requests that this end opens: the other end is their client (RFC 8613, 8.2)
abbrev pub opened_requests : Context → Protection ℕ
opened_requests c = requests (as_server c)

-- the responses that this end seals, to a request of the other end (RFC 8613, 8.3)
abbrev pub sealed_responses : Context → RequestRef → Protection (Option ℕ)
sealed_responses c r = responses_to (as_server c) (registers r) (request_number r)

-- the responses that this end opens, to a request of its own (RFC 8613, 8.4)
abbrev pub opened_responses : Context → RequestRef → Protection (Option ℕ)
opened_responses c r = responses_to (as_client c) (registers r) (request_number r)

-- the message that was opened: its code, inner options and payload (how the code is seen)
abbrev pub message_of : Opened → InnerParts
message_of o = record { code = o.code; options = options_left o.inner; payload = o.payload.now }

-- the number of an opened message, if it has one (how the code is seen)
abbrev pub opened_number : Opened → Option ℕ
opened_number o = option_map number_of o.piv
