-- To be believed: why the Proxy-Uri of a request can't be split, in the order in which that is judged (RFC 7252, 5.10, 5.10.2 and 6.4; own
-- rule: the limit). p is what the request says, room the length of the buffer.
use Rattle.std.specs.Prelude.{◌≡◌, ℕ, ◌&&◌, Bool, nat_le, nat_lt, List, [], ◌∷◌, length, Option, Some, None, Result, Ok, Err, if◌then◌else◌}
use Rattle.osc_coap.specs.Code.{is_request}
use Rattle.osc_coap.specs.Datagram.{Parts, IsDatagram, datagram_length}
use Rattle.osc_coap.specs.Fault.{HasFault}
use Rattle.osc_coap.specs.OptionNumbers.{proxy_uri}
use Rattle.osc_coap.specs.Search.{has_number, values_at}
use Rattle.osc_proxy.specs.Splitting.{is_replaced, parts_fit, split}
use Rattle.osc_proxy.specs.Uri.{UriParts, arguments_of, decomposed, host_value_of, segments_of}
use Rattle.osc_proxy.specs.declared.split_error.SplitError.{SplitError}
use Rattle.osc_proxy.specs.declared.split_error.SplitError.TheVariants.{Format, NotRequest, NotOneProxyUri, Mixed, Uri, PartTooLong, TooLong, NoRoom}
use Rattle.osc_proxy.specs.declared.uri_error.UriError.{UriError}

-- the only one of some values (RFC 7252, 5.4.5)
abbrev pub only_of : List (List ℕ) → Option (List ℕ)
only_of [] = None
only_of (value ∷ []) = Some value
only_of (value ∷ other ∷ values) = None

-- the Proxy-Uri of the request, which is the only one, if no option is there of which it takes the place (RFC 7252, 5.10.2)
abbrev pub value_at : Bool → Option (List ℕ) → Bool → Result (List ℕ) SplitError
value_at request None mixed = if request then Err NotOneProxyUri else Err NotRequest
value_at request (Some value) mixed = if request then (if mixed then Err Mixed else Ok value) else Err NotRequest

-- the same by what the request says (RFC 7252, 5.10.2)
abbrev pub proxy_uri_at : Parts → Result (List ℕ) SplitError
proxy_uri_at p = value_at (is_request p.kind p.code) (only_of (values_at proxy_uri p.options)) (has_number is_replaced p.options)

-- what the URI says, or why it is none (RFC 7252, 6.4)
abbrev pub uri_at : Result UriParts UriError → Result UriParts SplitError
uri_at (Ok u) = Ok u
uri_at (Err e) = Err (Uri e)

-- each option for the URI has at most 255 bytes (RFC 7252, 5.10)
abbrev pub uri_fits : UriParts → Bool
uri_fits u = nat_le (length (host_value_of u)) 255 && (parts_fit (segments_of u.path) && parts_fit (arguments_of u.query))

-- there is room for a request of this length; own rule: the limit (RFC 7252, 3)
abbrev pub room_at : ℕ → ℕ → UriParts → Result UriParts SplitError
room_at len room u = if nat_lt 65535 len then Err TooLong else (if nat_lt room len then Err NoRoom else Ok u)

-- a URI that fits in its options, and for which there is room (RFC 7252, 5.10)
abbrev pub fitting_at : Parts → ℕ → UriParts → Result UriParts SplitError
fitting_at p room u = if uri_fits u then room_at (datagram_length (split u p)) room u else Err PartTooLong

-- one step, and then another if the first finds no fault (own rule)
abbrev pub steps : {A B : Type 0} → Result A SplitError → (A → Result B SplitError) → Result B SplitError
steps (Ok x) f = f x
steps (Err e) f = Err e

-- what the Proxy-Uri of the request says, or why it has none that can be split (RFC 7252, 5.10.2 and 6.4)
abbrev pub request_uri : Parts → Result UriParts SplitError
request_uri p = steps (proxy_uri_at p) (λ text. uri_at (decomposed text))

-- what the Proxy-Uri says by which the request is split, or why it isn't (RFC 7252, 5.10, 5.10.2 and 6.4)
abbrev pub splitting : Parts → ℕ → Result UriParts SplitError
splitting p room = steps (request_uri p) (fitting_at p room)

-- the condition of each refusal (RFC 7252, 3, 5.10, 5.10.2 and 6.4)
abbrev pub RefusesToSplit : List ℕ → ℕ → SplitError → Type 0
RefusesToSplit bytes room (Format e) = HasFault bytes e.fault e.place
RefusesToSplit bytes room NotRequest = (p : Parts) × IsDatagram p bytes × (splitting p room ≡ Err NotRequest)
RefusesToSplit bytes room NotOneProxyUri = (p : Parts) × IsDatagram p bytes × (splitting p room ≡ Err NotOneProxyUri)
RefusesToSplit bytes room Mixed = (p : Parts) × IsDatagram p bytes × (splitting p room ≡ Err Mixed)
RefusesToSplit bytes room (Uri e) = (p : Parts) × IsDatagram p bytes × (splitting p room ≡ Err (Uri e))
RefusesToSplit bytes room PartTooLong = (p : Parts) × IsDatagram p bytes × (splitting p room ≡ Err PartTooLong)
RefusesToSplit bytes room TooLong = (p : Parts) × IsDatagram p bytes × (splitting p room ≡ Err TooLong)
RefusesToSplit bytes room NoRoom = (p : Parts) × IsDatagram p bytes × (splitting p room ≡ Err NoRoom)

-- the bytes are a request that is split by this URI, and there is room for it (RFC 7252, 5.10.2 and 6.4)
pub record FitsToSplit (bytes : List ℕ) (room : ℕ) (p : Parts) (u : UriParts) : Type 0 where
  pub message : IsDatagram p bytes
  pub splits : splitting p room ≡ Ok u
