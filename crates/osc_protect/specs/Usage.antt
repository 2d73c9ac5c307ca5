-- To be believed: what tells a request from a response (RFC 8613, 4.1.3.5, 4.2 and 8): Type and codes, and the parts that its OSCORE option
-- says. u is a usage, x features, entries are the options of a plain message.
use Rattle.std.specs.Prelude.{ℕ, ◌/◌, ◌==◌, ◌&&◌, Bool, List, Option, Some, None, is_none, is_some, if◌then◌else◌}
use Rattle.osc_coap.specs.declared.message.Kind.{Kind}
use Rattle.osc_coap.specs.OptionSpelling.{Entry}
use Rattle.osc_coap.specs.Interpreted.{interpreted}
use Rattle.osc_coap.specs.OptionNumbers.{observe}
use Rattle.osc_context.specs.Features.{unobserved}
use Rattle.osc_context.specs.OscoreValue.{OscoreParts}
use Rattle.osc_context.specs.declared.features.Features.{Features}
use Rattle.osc_coap.specs.Code.{is_request, is_request_code, is_response, is_response_code}
use Rattle.osc_protect.specs.declared.usage.Usage.{Usage}
use Rattle.osc_protect.specs.declared.usage.Usage.TheVariants.{Request, Response}

-- the Type and code belong to this usage (RFC 7252, 4.2 and 4.3)
abbrev pub is_used : Usage → Kind → ℕ → Bool
is_used Request kind code = is_request kind code
is_used Response kind code = is_response kind code

-- the code belongs to this usage (RFC 7252, 12.1)
abbrev pub is_code_of : Usage → ℕ → Bool
is_code_of Request code = is_request_code code
is_code_of Response code = is_response_code code

-- the features with which a message of this code is sealed: a response whose code isn't of class 2 has no Observe (RFC 7641, 4.2)
abbrev pub sealing_features : Usage → Features → ℕ → Features
sealing_features Request x code = x
sealing_features Response x code = if code / 32 == 2 then x else unobserved x

-- the outer code of a sealed message without Observe: 0.02, POST, or 2.04, Changed (RFC 8613, 4.2)
abbrev pub plain_code_of : Usage → ℕ
plain_code_of Request = 2
plain_code_of Response = 68

-- the outer code of a sealed message with Observe: 0.05, FETCH, or 2.05, Content (RFC 8613, 4.1.3.5)
abbrev pub observing_code_of : Usage → ℕ
observing_code_of Request = 5
observing_code_of Response = 69

-- the outer code of a sealed message that has these options, for a context with these features (RFC 7252, 5.4.3; RFC 8613, 4.1.3.5 and 4.2)
abbrev pub outer_code_of : Usage → Features → List Entry → ℕ
outer_code_of u x entries = if x.observe && is_some (interpreted observe entries) then observing_code_of u else plain_code_of u

-- a request has a Partial IV and a kid; own rule: a response has neither kid nor kid context (RFC 8613, 5 and 8.3)
abbrev pub is_complete : Usage → OscoreParts → Bool
is_complete Request v = is_some v.piv && is_some v.kid
is_complete Response v = is_none v.kid && is_none v.kid_context

-- what a request's OSCORE option says; own rule: it has a kid context exactly if there's an ID Context (RFC 8613, 5 and 6.1)
abbrev pub value_of_request : ℕ → Option (List ℕ) → List ℕ → OscoreParts
value_of_request number kid_context kid = record { piv = Some number; kid_context = kid_context; kid = Some kid }

-- what a response's OSCORE option says: its own Partial IV if it has one, and no more (RFC 8613, 6.1 and 8.3)
abbrev pub value_of_response : Option ℕ → OscoreParts
value_of_response own = record { piv = own; kid_context = None; kid = None }
