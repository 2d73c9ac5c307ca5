-- To be believed: what protects a request, and what protects a response to it (RFC 8613, 5 and 8.1 to 8.4). s is a security context, n the
-- request's number, own the response's own Partial IV or none, d a datagram, p what a plain message says; a message is its code, inner options
-- and payload. In these names, a notification is any response to a request that registers an observation (RFC 7641, 3.1).
use Rattle.std.specs.Prelude.{◌≡◌, ℕ, List, [], ◌∷◌, Option, Some, None, Bool, true, false, if◌then◌else◌}
use Rattle.osc_coap.specs.OptionSpelling.{Entry}
use Rattle.osc_coap.specs.Datagram.{Parts, IsDatagram}
use Rattle.osc_coap.specs.Inner.{InnerParts, IsInner}
use Rattle.osc_context.specs.SecurityContext.{SecurityContext}
use Rattle.osc_context.specs.Nonce.{nonce_of}
use Rattle.osc_context.specs.AdditionalData.{additional_data_of}
use Rattle.osc_context.specs.OscoreValue.{OscoreParts, IsOscoreValue}
use Rattle.osc_ccm.specs.Ccm.{ccm}
use Rattle.osc_coap.specs.Search.{values_at, has_number}
use Rattle.osc_coap.specs.OptionNumbers.{oscore}
use Rattle.osc_context.specs.Features.{unobserved}
use Rattle.osc_context.specs.declared.features.Features.{Features}
use Rattle.osc_protect.specs.OptionSets.{counts_as_observe, is_proxy, is_barred, sought_behind}
use Rattle.osc_protect.specs.Usage.{is_code_of, is_used, value_of_request, value_of_response}
use Rattle.osc_protect.specs.declared.usage.Usage.{Usage}
use Rattle.osc_protect.specs.declared.usage.Usage.TheVariants.{Request, Response}

-- the ciphertext and tag that protect a plaintext as request n (RFC 8613, 5)
unfoldable pub request_cipher : SecurityContext → ℕ → List ℕ → List ℕ
request_cipher s n plaintext = ccm s.client_key (nonce_of s.common_iv s.client n) (additional_data_of s.client n) plaintext

-- the nonce of a response: from the server and its own Partial IV, or else the nonce of the client's request (RFC 8613, 5.2)
abbrev pub response_nonce : List ℕ → List ℕ → List ℕ → ℕ → Option ℕ → List ℕ
response_nonce common_iv client server n None = nonce_of common_iv client n
response_nonce common_iv client server n (Some own) = nonce_of common_iv server own

-- the ciphertext and tag that protect a plaintext as a response to request n; the additional data is the request's (RFC 8613, 5 and 5.4)
unfoldable pub response_cipher : SecurityContext → ℕ → Option ℕ → List ℕ → List ℕ
response_cipher s n own plaintext = ccm s.server_key (response_nonce s.common_iv s.client s.server n own) (additional_data_of s.client n) plaintext

-- the message whose inner part is protected: the plain message as it is (RFC 8613, 5.3)
abbrev pub as_it_is : Parts → Parts
as_it_is p = p

-- the options; the one that counts as Observe has an empty value (RFC 8613, 4.1.3.5.2)
abbrev pub emptied : Bool → List Entry → List Entry
emptied sought [] = []
emptied sought (entry ∷ entries) = (if counts_as_observe sought entry then (entry.0, []) else entry) ∷ emptied (sought_behind sought entry) entries

-- the message whose inner part is protected, for a notification: the plain one, with an empty value in its Observe option (RFC 8613, 4.1.3.5.2)
abbrev pub as_notified : Parts → Parts
as_notified p = record p { options = emptied true p.options }

-- how messages are protected: their usage, the features that count for them, what they say inside for a plain message, and for each number the cipher and what the OSCORE option says (RFC 8613, 5 and 6)
pub record Protection (I : Type 0) : Type 0 where
  pub usage : Usage
  pub features : Features
  pub says : Parts → Parts
  pub parts : I → OscoreParts
  pub cipher : I → List ℕ → List ℕ

-- the protection of requests, each under its number (RFC 8613, 8.1)
abbrev pub requests : SecurityContext → Protection ℕ
requests s = record { usage = Request; features = s.features; says = as_it_is; parts = λ n. value_of_request n s.id_context s.client; cipher = request_cipher s }

-- the protection of responses to request n, each under its own Partial IV or none: if the request registers an observation, a response may have Observe; otherwise it may not
-- (RFC 8613, 4.1.3.5.2 and 8.3)
abbrev pub responses_to : SecurityContext → Bool → ℕ → Protection (Option ℕ)
responses_to s registers n = record {
  usage = Response;
  features = if registers then s.features else unobserved s.features;
  says = if registers then as_notified else as_it_is;
  parts = value_of_response;
  cipher = response_cipher s n;
}

-- the protection of responses to request n, which registers nothing (RFC 8613, 8.3)
abbrev pub responses : SecurityContext → ℕ → Protection (Option ℕ)
responses s n = responses_to s false n

-- the protection of responses to request n, which registers an observation: notifications, or the response that ends it (RFC 8613, 4.1.3.5.2 and 8.3.1)
abbrev pub notifications : SecurityContext → ℕ → Protection (Option ℕ)
notifications s n = responses_to s true n

-- the datagram protects the message with this protection, under the number i (RFC 8613, 8.1 and 8.3)
pub record Protects {I : Type 0} (f : Protection I) (i : I) (message : InnerParts) (d : List ℕ) : Type 0 where
  pub outer : Parts
  pub datagram : IsDatagram outer d
  pub used : is_used f.usage outer.kind outer.code ≡ true
  pub value : List ℕ
  pub single : values_at oscore outer.options ≡ value ∷ []
  pub reads : IsOscoreValue (f.parts i) value
  pub direct : has_number is_proxy outer.options ≡ false
  pub code : is_code_of f.usage message.code ≡ true
  pub allowed : has_number (is_barred f.features) message.options ≡ false
  pub plaintext : List ℕ
  pub spells : IsInner message plaintext
  pub sealed : outer.payload ≡ f.cipher i plaintext

-- the datagram protects the message as request n (RFC 8613, 8.1)
abbrev pub ProtectsRequest : SecurityContext → ℕ → InnerParts → List ℕ → Type 0
ProtectsRequest s n message d = Protects (requests s) n message d

-- the datagram protects the message as a response to request n (RFC 8613, 8.3)
abbrev pub ProtectsResponse : SecurityContext → ℕ → Option ℕ → InnerParts → List ℕ → Type 0
ProtectsResponse s n own message d = Protects (responses s n) own message d

-- the datagram protects the message as a response to request n, which registers an observation (RFC 8613, 8.3.1)
abbrev pub ProtectsNotification : SecurityContext → ℕ → Option ℕ → InnerParts → List ℕ → Type 0
ProtectsNotification s n own message d = Protects (notifications s n) own message d
