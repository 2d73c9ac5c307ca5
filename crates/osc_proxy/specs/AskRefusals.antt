-- To be believed: why a sealed request can't ask a proxy, row by row in the order in which the rows are judged (RFC 7252, 3 and 5.10; own
-- rule: the limit). bytes is the sealed request, p what it says, scheme the value of Proxy-Scheme, room the length of the buffer.
use Rattle.std.specs.Prelude.{◌≡◌, ℕ, ◌<◌, ◌≤◌, List, length, true, false}
use Rattle.osc_coap.specs.Code.{is_request}
use Rattle.osc_coap.specs.Datagram.{Parts, IsDatagram, datagram_length}
use Rattle.osc_coap.specs.Fault.{HasFault}
use Rattle.osc_coap.specs.Search.{has_number}
use Rattle.osc_proxy.specs.Asking.{asked, asks_proxy}
use Rattle.osc_proxy.specs.declared.ask_error.AskProxyError.{AskProxyError}
use Rattle.osc_proxy.specs.declared.ask_error.AskProxyError.TheVariants.{Format, NotRequest, Asked, SchemeLength, TooLong, NoRoom}

-- a scheme has 1 to 255 bytes (RFC 7252, 5.10)
abbrev pub IsSchemeLength : ℕ → Type 0
IsSchemeLength len = (1 ≤ len) × (len ≤ 255)

-- the request can ask a proxy for this scheme if there is room (RFC 7252, 5.10 and 5.10.2)
pub record CanAsk (p : Parts) (scheme : List ℕ) : Type 0 where
  pub request : is_request p.kind p.code ≡ true
  pub unasked : has_number asks_proxy p.options ≡ false
  pub scheme_length : IsSchemeLength (length scheme)

-- why what the bytes say can't ask a proxy; each row excludes the earlier ones (RFC 7252, 5.10 and 5.10.2; own rule: the limit)
abbrev pub RefusesParts : Parts → List ℕ → ℕ → AskProxyError → Type 0
RefusesParts p scheme room (Format e) = ⊥
RefusesParts p scheme room NotRequest = is_request p.kind p.code ≡ false
RefusesParts p scheme room Asked = (is_request p.kind p.code ≡ true) × (has_number asks_proxy p.options ≡ true)
RefusesParts p scheme room SchemeLength = (is_request p.kind p.code ≡ true) × (has_number asks_proxy p.options ≡ false) × ¬ IsSchemeLength (length scheme)
RefusesParts p scheme room TooLong = CanAsk p scheme × (65535 < datagram_length (asked scheme p))
RefusesParts p scheme room NoRoom = CanAsk p scheme × (datagram_length (asked scheme p) ≤ 65535) × (room < datagram_length (asked scheme p))

-- the condition of each refusal (RFC 7252, 3, 5.10 and 5.10.2; own rule: the limit)
abbrev pub RefusesToAsk : List ℕ → List ℕ → ℕ → AskProxyError → Type 0
RefusesToAsk bytes scheme room (Format e) = HasFault bytes e.fault e.place
RefusesToAsk bytes scheme room NotRequest = (p : Parts) × IsDatagram p bytes × RefusesParts p scheme room NotRequest
RefusesToAsk bytes scheme room Asked = (p : Parts) × IsDatagram p bytes × RefusesParts p scheme room Asked
RefusesToAsk bytes scheme room SchemeLength = (p : Parts) × IsDatagram p bytes × RefusesParts p scheme room SchemeLength
RefusesToAsk bytes scheme room TooLong = (p : Parts) × IsDatagram p bytes × RefusesParts p scheme room TooLong
RefusesToAsk bytes scheme room NoRoom = (p : Parts) × IsDatagram p bytes × RefusesParts p scheme room NoRoom

-- the bytes are a request that can ask a proxy for this scheme, and there is room for it (RFC 7252, 5.10 and 5.10.2)
pub record FitsToAsk (bytes scheme : List ℕ) (room : ℕ) : Type 0 where
  pub parts : Parts
  pub message : IsDatagram parts bytes
  pub can : CanAsk parts scheme
  pub fits : datagram_length (asked scheme parts) ≤ 65535
  pub has_room : datagram_length (asked scheme parts) ≤ room
