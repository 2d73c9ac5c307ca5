-- To be believed: the one datagram that sealing makes (RFC 8613, 8.1 and 8.3). p is what the plain message says, says what it says inside,
-- x the features that count, code the outer code, value the value of the OSCORE option, f a protection, i one of its numbers, s a security
-- context, n a request's number, own a response's own Partial IV or none, d a datagram.
use Rattle.std.specs.Prelude.{◌≡◌, ℕ, ◌+◌, Bool, List, [], ◌∷◌, ◌++◌, Option, true, false, filter, if◌then◌else◌}
use Rattle.osc_coap.specs.Class.{inner_options}
use Rattle.osc_coap.specs.OptionSpelling.{Entry}
use Rattle.osc_coap.specs.Datagram.{Parts, IsDatagram, datagram_length}
use Rattle.osc_coap.specs.Inner.{InnerParts, IsInner, inner_length}
use Rattle.osc_ccm.specs.Ccm.{tag_length}
use Rattle.osc_context.specs.OscoreValue.{IsOscoreValue}
use Rattle.osc_context.specs.SecurityContext.{SecurityContext}
use Rattle.osc_coap.specs.Search.{has_number}
use Rattle.osc_coap.specs.OptionNumbers.{oscore}
use Rattle.osc_context.specs.declared.features.Features.{Features}
use Rattle.osc_protect.specs.OptionSets.{is_behind, is_in_front, is_outside, is_unsupported, sought_behind}
use Rattle.osc_protect.specs.Usage.{is_used, outer_code_of, sealing_features}
use Rattle.osc_protect.specs.Protection.{Protection, notifications, requests, responses}

-- the part of a message that goes inside: its code, the options of class E and Both, and its payload (RFC 8613, 5.3)
abbrev pub inside : Parts → InnerParts
inside p = record { code = p.code; options = inner_options p.options; payload = p.payload }

-- the options that stand outside in front of the OSCORE option, in order (RFC 8613, 4.1.2 and 4.1.3.5)
abbrev pub options_outside : Bool → List Entry → List Entry
options_outside sought [] = []
options_outside sought (entry ∷ entries) =
    if is_outside sought entry then entry ∷ options_outside (sought_behind sought entry) entries else options_outside (sought_behind sought entry) entries

-- those that stand there whatever they say, in order (RFC 8613, 4.1.2)
abbrev pub front_options : List Entry → List Entry
front_options entries = filter (λ entry. is_in_front entry.0) entries

-- the options that stand outside behind the OSCORE option, in order (RFC 7252, 3.1; RFC 8613, 4.1.2)
abbrev pub options_behind : List Entry → List Entry
options_behind entries = filter (λ entry. is_behind entry.0) entries

-- the part outside: the head with a code of its own, the options of class U and Observe, and the OSCORE option, in order (RFC 8613, 4.1 and 4.2)
abbrev pub outside : Features → Parts → ℕ → List ℕ → List ℕ → Parts
outside x p code value payload = record { kind = p.kind; code = code; message_id = p.message_id; token = p.token; options = options_outside x.observe p.options ++ (oscore, value) ∷ options_behind p.options; payload = payload }

-- the length of the sealed message, whatever the outer code: the part outside, a marker, the plaintext and the tag (RFC 8613, 5.3)
abbrev pub sealed_length : Features → (Parts → Parts) → Parts → List ℕ → ℕ
sealed_length x says p value = datagram_length (outside x p p.code value []) + (1 + (inner_length (inside (says p)) + tag_length))

-- the datagram holds the message, with its inner part protected by a cipher (RFC 8613, 8.1 and 8.3)
abbrev pub HoldsSealed : Features → (Parts → Parts) → Parts → ℕ → List ℕ → (List ℕ → List ℕ) → List ℕ → Type 0
HoldsSealed x says p code value cipher d = (plaintext : List ℕ) × IsInner (inside (says p)) plaintext × IsDatagram (outside x p code value (cipher plaintext)) d

-- the features that say which options a message may have that is sealed: a response whose code isn't of class 2 has no Observe (RFC 7641, 4.2)
abbrev pub features_for : {I : Type 0} → Protection I → Parts → Features
features_for f p = sealing_features f.usage f.features p.code

-- the datagram is the plain message, sealed under the number i (RFC 8613, 8.1 and 8.3)
pub record IsSealed {I : Type 0} (f : Protection I) (i : I) (p : Parts) (d : List ℕ) : Type 0 where
  pub used : is_used f.usage p.kind p.code ≡ true
  pub supported : has_number (is_unsupported (features_for f p)) p.options ≡ false
  pub value : List ℕ
  pub reads : IsOscoreValue (f.parts i) value
  pub holds : HoldsSealed f.features f.says p (outer_code_of f.usage f.features p.options) value (f.cipher i) d

-- the datagram is the plain request, sealed as request n (RFC 8613, 8.1)
abbrev pub SealsRequest : SecurityContext → ℕ → Parts → List ℕ → Type 0
SealsRequest s n p d = IsSealed (requests s) n p d

-- the datagram is the plain response, sealed as a response to request n (RFC 8613, 8.3)
abbrev pub SealsResponse : SecurityContext → ℕ → Option ℕ → Parts → List ℕ → Type 0
SealsResponse s n own p d = IsSealed (responses s n) own p d

-- the datagram is the plain response, sealed as a response to request n, which registers an observation (RFC 8613, 8.3.1)
abbrev pub SealsNotification : SecurityContext → ℕ → Option ℕ → Parts → List ℕ → Type 0
SealsNotification s n own p d = IsSealed (notifications s n) own p d
