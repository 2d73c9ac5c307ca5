-- To be believed: what tells a request from a response: its code and its Type (RFC 7252, 4.2, 4.3 and 12.1).
use Rattle.std.specs.Prelude.{ℕ, ◌/◌, ◌==◌, ◌||◌, ◌&&◌, nat_lt, Bool, false}
use Rattle.osc_coap.specs.declared.message.Kind.{Kind}
use Rattle.osc_coap.specs.declared.message.Kind.TheVariants.{Ack, Rst}

-- the code is that of a request: 0.01 to 0.31 (RFC 7252, 12.1)
abbrev pub is_request_code : ℕ → Bool
is_request_code code = nat_lt 0 code && nat_lt code 32

-- the Type and the code are those of a request, which is CON or NON (RFC 7252, 4.2 and 4.3)
abbrev pub is_request : Kind → ℕ → Bool
is_request Ack code = false
is_request Rst code = false
is_request kind code = is_request_code code

-- the code is that of a response: its class is 2, 4 or 5 (RFC 7252, 12.1)
abbrev pub is_response_code : ℕ → Bool
is_response_code code = (code / 32 == 2) || (code / 32 == 4) || (code / 32 == 5)

-- the Type and the code are those of a response, which is CON, NON or ACK (RFC 7252, 4.2 and 4.3)
abbrev pub is_response : Kind → ℕ → Bool
is_response Rst code = false
is_response kind code = is_response_code code
