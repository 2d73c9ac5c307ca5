-- To be believed: what a protected message shows to a reader without the key (RFC 8613, 8.2 and 8.4, steps 1 and 2). d is a datagram, p the
-- parts of a message, h a head, u its usage, v the parts of an OSCORE option.
use Rattle.std.specs.Prelude.{◌≡◌, ◌≢◌, ◌≤◌, ◌⊎◌, ℕ, List, [], ◌∷◌, length, true, false}
use Rattle.osc_coap.specs.declared.message.Kind.{Kind}
use Rattle.osc_coap.specs.Datagram.{Parts, IsDatagram}
use Rattle.osc_coap.specs.Fault.{HasFault}
use Rattle.osc_context.specs.OscoreValue.{OscoreParts, IsOscoreValue}
use Rattle.osc_coap.specs.Search.{values_at, has_number}
use Rattle.osc_coap.specs.OptionNumbers.{oscore}
use Rattle.osc_protect.specs.OptionSets.{is_proxy}
use Rattle.osc_protect.specs.Usage.{is_complete, is_used}
use Rattle.osc_protect.specs.declared.usage.Usage.{Usage}
use Rattle.osc_protect.specs.declared.usage.Usage.TheVariants.{Request, Response}
use Rattle.osc_protect.specs.declared.head_error.NoHead.{NoHead}
use Rattle.osc_protect.specs.declared.head_error.NoHead.TheVariants as none
use Rattle.osc_protect.specs.declared.head_error.HeadError.{HeadError}
use Rattle.osc_protect.specs.declared.head_error.HeadError.TheVariants.{Format, NotThatKind, NoOscore, Undecodable}

-- a head: the message's own head, what its OSCORE option says, and the ciphertext (RFC 8613, 8.2 and 8.4)
pub record Head : Type 0 where
  pub kind : Kind
  pub message_id : ℕ
  pub token : List ℕ
  pub parts : OscoreParts
  pub payload : List ℕ

-- the message has this head: it has exactly one OSCORE option, a payload, and no option for proxies (RFC 8613, 8.2 and 8.4)
pub record ShowsHead (u : Usage) (p : Parts) (h : Head) : Type 0 where
  pub kind : h.kind ≡ p.kind
  pub message_id : h.message_id ≡ p.message_id
  pub token : h.token ≡ p.token
  pub payload : h.payload ≡ p.payload
  pub used : is_used u p.kind p.code ≡ true
  pub value : List ℕ
  pub single : values_at oscore p.options ≡ value ∷ []
  pub reads : IsOscoreValue h.parts value
  pub complete : is_complete u h.parts ≡ true
  pub direct : has_number is_proxy p.options ≡ false
  pub filled : p.payload ≢ []

-- the datagram is a message with this head (RFC 8613, 8.2 and 8.4)
abbrev pub HasHead : Usage → List ℕ → Head → Type 0
HasHead u d h = (p : Parts) × IsDatagram p d × ShowsHead u p h

-- there are two or more OSCORE options (RFC 8613, 2)
abbrev pub HasSeveralValues : Parts → Type 0
HasSeveralValues p = 2 ≤ length (values_at oscore p.options)

-- the value of the one OSCORE option can't be read (RFC 8613, 6.1)
abbrev pub HasUnreadableValue : Parts → Type 0
HasUnreadableValue p = (value : List ℕ) × (values_at oscore p.options ≡ value ∷ []) × ((v : OscoreParts) → IsOscoreValue v value → ⊥)

-- the one OSCORE option says too little or too much (RFC 8613, 8.2; own rule: of a response)
abbrev pub HasWrongParts : Usage → Parts → Type 0
HasWrongParts u p = (value : List ℕ) × (values_at oscore p.options ≡ value ∷ []) × (v : OscoreParts) × IsOscoreValue v value × (is_complete u v ≡ false)

-- own rule: a message is undecodable if one of these holds, or if it has no payload, or if it has an option for proxies (RFC 8613, 8.2 and 8.4)
abbrev pub IsUndecodable : Usage → Parts → Type 0
IsUndecodable u p = HasSeveralValues p ⊎ HasUnreadableValue p ⊎ HasWrongParts u p ⊎ (p.payload ≡ []) ⊎ (has_number is_proxy p.options ≡ true)

-- why a message has no head: it isn't of the usage, it has no OSCORE option, or it is undecodable (RFC 8613, 8.2 and 8.4)
abbrev pub ShowsNoHead : Usage → Parts → NoHead → Type 0
ShowsNoHead u p none.NotThatKind = is_used u p.kind p.code ≡ false
ShowsNoHead u p none.NoOscore = (is_used u p.kind p.code ≡ true) × (values_at oscore p.options ≡ [])
ShowsNoHead u p none.Undecodable = (is_used u p.kind p.code ≡ true) × (values_at oscore p.options ≢ []) × IsUndecodable u p

-- why a datagram has no head: it isn't a message, or it is a message without a head (RFC 8613, 8.2 and 8.4)
abbrev pub HasNoHead : Usage → List ℕ → HeadError → Type 0
HasNoHead u d (Format e) = HasFault d e.fault e.place
HasNoHead u d NotThatKind = (p : Parts) × IsDatagram p d × ShowsNoHead u p none.NotThatKind
HasNoHead u d NoOscore = (p : Parts) × IsDatagram p d × ShowsNoHead u p none.NoOscore
HasNoHead u d Undecodable = (p : Parts) × IsDatagram p d × ShowsNoHead u p none.Undecodable

-- the message has this head as a request (RFC 8613, 8.2)
abbrev pub ShowsRequestHead : Parts → Head → Type 0
ShowsRequestHead p h = ShowsHead Request p h

-- why a message has no head as a request (RFC 8613, 8.2)
abbrev pub ShowsNoRequestHead : Parts → NoHead → Type 0
ShowsNoRequestHead p e = ShowsNoHead Request p e

-- the datagram is a message with this head as a request (RFC 8613, 8.2)
abbrev pub HasRequestHead : List ℕ → Head → Type 0
HasRequestHead d h = HasHead Request d h

-- why a datagram has no head as a request (RFC 8613, 8.2)
abbrev pub HasNoRequestHead : List ℕ → HeadError → Type 0
HasNoRequestHead d e = HasNoHead Request d e

-- the message has this head as a response (RFC 8613, 8.4)
abbrev pub ShowsResponseHead : Parts → Head → Type 0
ShowsResponseHead p h = ShowsHead Response p h

-- why a message has no head as a response (RFC 8613, 8.4)
abbrev pub ShowsNoResponseHead : Parts → NoHead → Type 0
ShowsNoResponseHead p e = ShowsNoHead Response p e

-- the datagram is a message with this head as a response (RFC 8613, 8.4)
abbrev pub HasResponseHead : List ℕ → Head → Type 0
HasResponseHead d h = HasHead Response d h

-- why a datagram has no head as a response (RFC 8613, 8.4)
abbrev pub HasNoResponseHead : List ℕ → HeadError → Type 0
HasNoResponseHead d e = HasNoHead Response d e
