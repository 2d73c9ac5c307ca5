-- To be believed: what holds for all datagrams of requests and of responses (RFC 8613, 8): contracts of laws.rt. f and g are protections of
-- one usage, i, j and k are their numbers, u is a usage, s and t are security contexts, x is features, d a datagram, h a head, o and q are
-- opened messages.
use Rattle.std.specs.Prelude.{◌≡◌, ◌+◌, ◌<◌, ◌≤◌, ◌⊎◌, ◌^◌, ◌==◌, ◌||◌, ℕ, true, false, List, [], ◌∷◌, ◌++◌, length, Option, Some, None, IfSome}
use Rattle.osc_coap.specs.Datagram.{Parts, datagram_length}
use Rattle.osc_coap.specs.Inner.{InnerParts, inner_length}
use Rattle.osc_coap.specs.Class.{class, is_outer}
use Rattle.osc_coap.specs.Interpreted.{interpreted}
use Rattle.osc_coap.specs.OptionSpelling.{Entry}
use Rattle.osc_coap.specs.Search.{values_at}
use Rattle.osc_coap.specs.OptionNumbers.{observe, oscore}
use Rattle.osc_ccm.specs.Ccm.{tag_length}
use Rattle.osc_context.specs.Features.{no_features, unobserved}
use Rattle.osc_context.specs.SecurityContext.{SecurityContext}
use Rattle.osc_context.specs.declared.features.Features.{Features}
use Rattle.osc_protect.specs.OptionSets.{is_barred, is_block, is_in_front, is_left_out, is_outside, is_proxy, is_unsupported}
use Rattle.osc_protect.specs.Usage.{outer_code_of, plain_code_of}
use Rattle.osc_protect.specs.Head.{Head, HasHead, HasNoHead, ShowsHead, ShowsNoHead}
use Rattle.osc_protect.specs.Sealed.{IsSealed, SealsNotification, SealsRequest, SealsResponse, front_options, inside, options_behind, outside, sealed_length}
use Rattle.osc_protect.specs.Protection.{Protection, Protects, as_it_is, as_notified, notifications, requests, responses}
use Rattle.osc_protect.specs.Refusals.{Names, RefusesToOpen}
use Rattle.osc_protect.specs.SealRefusals.{RefusesToSeal}
use Rattle.osc_protect.specs.Opening.{Opens}
use Rattle.osc_protect.specs.Views.{shown, message_of, opened_number}
use Rattle.osc_protect.specs.declared.opened.Opened.{Opened}
use Rattle.osc_protect.specs.declared.usage.Usage.{Usage}
use Rattle.osc_protect.specs.declared.usage.Usage.TheVariants.{Request, Response}
use Rattle.osc_protect.specs.declared.head_error.NoHead.{NoHead}
use Rattle.osc_protect.specs.declared.head_error.HeadError.{HeadError}
use Rattle.osc_protect.specs.declared.protect_error.ProtectError.{ProtectError}
use Rattle.osc_protect.specs.declared.unprotect_error.UnprotectError.{UnprotectError}
use Rattle.osc_protect.specs.declared.unprotect_error.UnprotectError.TheVariants.{Tag, Inner}

-- a datagram or a message has at most one head, with any number in it below 2 ^ 40, and at most one refusal, never both (RFC 8613, 8.2 and 8.4)
pub record OneHead (u : Usage) : Type 0 where
  pub shown : (p : Parts) (h k : Head) → ShowsHead u p h → ShowsHead u p k → h ≡ k
  pub never_shown : (p : Parts) (h : Head) (e : NoHead) → ShowsHead u p h → ShowsNoHead u p e → ⊥
  pub none : (p : Parts) (e g : NoHead) → ShowsNoHead u p e → ShowsNoHead u p g → e ≡ g
  pub head : (d : List ℕ) (h k : Head) → HasHead u d h → HasHead u d k → h ≡ k
  pub never_both : (d : List ℕ) (h : Head) (e : HeadError) → HasHead u d h → HasNoHead u d e → ⊥
  pub refusal : (d : List ℕ) (e g : HeadError) → HasNoHead u d e → HasNoHead u d g → e ≡ g
  pub in_range : (d : List ℕ) (h : Head) → HasHead u d h → IfSome h.parts.piv (λ n. n < 2 ^ 40)

-- there is at most one head of a request (RFC 8613, 8.2)
abbrev pub OneRequestHead : Type 0
OneRequestHead = OneHead Request

-- there is at most one head of a response (RFC 8613, 8.4)
abbrev pub OneResponseHead : Type 0
OneResponseHead = OneHead Response

-- two contexts that one head names have the same client, and the same ID Context or both none (RFC 8613, 8.2)
abbrev pub NamesOneClient : Type 0
NamesOneClient = (h : Head) (s t : SecurityContext) (n m : ℕ) → Names (requests s) h n → Names (requests t) h m → (s.client ≡ t.client) × (s.id_context ≡ t.id_context)

-- a datagram protects at most one message under one number, or has at most one refusal, never both (RFC 8613, 8.2 and 8.4)
pub record OneMessage {I : Type 0} (f : Protection I) : Type 0 where
  pub number : (d : List ℕ) (i j : I) (m l : InnerParts) → Protects f i m d → Protects f j l d → i ≡ j
  pub message : (d : List ℕ) (i j : I) (m l : InnerParts) → Protects f i m d → Protects f j l d → m ≡ l
  pub never_both : (d : List ℕ) (i : I) (m : InnerParts) (e : UnprotectError) → Protects f i m d → RefusesToOpen f d e → ⊥
  pub refusal : (d : List ℕ) (e g : UnprotectError) → RefusesToOpen f d e → RefusesToOpen f d g → e ≡ g

-- a datagram protects at most one request under one number, or has at most one refusal (RFC 8613, 8.2)
abbrev pub OneRequest : Type 0
OneRequest = (s : SecurityContext) → OneMessage (requests s)

-- a datagram protects at most one response to a request, or has at most one refusal (RFC 8613, 8.4)
abbrev pub OneResponse : Type 0
OneResponse = (s : SecurityContext) (n : ℕ) → OneMessage (responses s n)

-- a datagram protects at most one response to a request that registers an observation, or has at most one refusal (RFC 8613, 8.4)
abbrev pub OneNotification : Type 0
OneNotification = (s : SecurityContext) (n : ℕ) → OneMessage (notifications s n)

-- a protected message has a head that says its number; a sealed one also keeps the plain message's Type, Message ID and token (RFC 8613, 8.1 and 8.3)
pub record ProtectionsShowHeads {I : Type 0} (f : Protection I) : Type 0 where
  pub protects : (d : List ℕ) (i : I) (m : InnerParts) → Protects f i m d → (h : Head) × HasHead f.usage d h × Names f h i
  pub sealed : (d : List ℕ) (i : I) (p : Parts) → IsSealed f i p d → (h : Head) × HasHead f.usage d h × Names f h i × (h.kind ≡ p.kind) × (h.message_id ≡ p.message_id) × (h.token ≡ p.token)

-- a protected request shows its head (RFC 8613, 8.1)
abbrev pub RequestsShowHeads : Type 0
RequestsShowHeads = (s : SecurityContext) → ProtectionsShowHeads (requests s)

-- a protected response shows its head (RFC 8613, 8.3)
abbrev pub ResponsesShowHeads : Type 0
ResponsesShowHeads = (s : SecurityContext) (n : ℕ) → ProtectionsShowHeads (responses s n)

-- a protected notification shows its head (RFC 8613, 8.3.1)
abbrev pub NotificationsShowHeads : Type 0
NotificationsShowHeads = (s : SecurityContext) (n : ℕ) → ProtectionsShowHeads (notifications s n)

-- if the head names the context, a refusal is for the tag or for the plaintext, and for nothing else (RFC 8613, 8.2 and 8.4)
abbrev pub NamedRefusals : {I : Type 0} → Protection I → Type 0
NamedRefusals {I} f = (d : List ℕ) (h : Head) (i : I) (e : UnprotectError) → HasHead f.usage d h → Names f h i → RefusesToOpen f d e → (e ≡ Tag) ⊎ (e ≡ Inner)

-- how a request whose head names the context is refused (RFC 8613, 8.2)
abbrev pub NamedRequestRefusals : Type 0
NamedRequestRefusals = (s : SecurityContext) → NamedRefusals (requests s)

-- how a response whose head says a number or none is refused (RFC 8613, 8.4)
abbrev pub NamedResponseRefusals : Type 0
NamedResponseRefusals = (s : SecurityContext) (n : ℕ) → NamedRefusals (responses s n)

-- how a notification whose head says a number or none is refused (RFC 8613, 8.4)
abbrev pub NamedNotificationRefusals : Type 0
NamedNotificationRefusals = (s : SecurityContext) (n : ℕ) → NamedRefusals (notifications s n)

-- if the head says what f says under i, and g protects the datagram under j, then f and g say the same (RFC 8613, 8.2 and 8.4)
abbrev pub SaysOneThing : {I J : Type 0} → Protection I → Protection J → Type 0
SaysOneThing {I} {J} f g = (d : List ℕ) (h : Head) (i : I) (j : J) (m : InnerParts) → HasHead f.usage d h → Names f h i → Protects g j m d → f.parts i ≡ g.parts j

-- a datagram opens as one message, with one head, one number, and one pair of Uri-Host and Uri-Port (RFC 8613, 8.2 and 8.4)
pub record OneOpened {I : Type 0} (f : Protection I) : Type 0 where
  pub kind : (d : List ℕ) (o q : Opened) → Opens f d o → Opens f d q → o.kind ≡ q.kind
  pub message_id : (d : List ℕ) (o q : Opened) → Opens f d o → Opens f d q → o.message_id ≡ q.message_id
  pub token : (d : List ℕ) (o q : Opened) → Opens f d o → Opens f d q → o.token.items ≡ q.token.items
  pub uri_host : (d : List ℕ) (o q : Opened) → Opens f d o → Opens f d q → shown o.uri_host ≡ shown q.uri_host
  pub uri_port : (d : List ℕ) (o q : Opened) → Opens f d o → Opens f d q → shown o.uri_port ≡ shown q.uri_port
  pub number : (d : List ℕ) (o q : Opened) → Opens f d o → Opens f d q → opened_number o ≡ opened_number q
  pub message : (d : List ℕ) (o q : Opened) → Opens f d o → Opens f d q → message_of o ≡ message_of q

-- for every reader, a request's OSCORE option says one thing, and the request opens as one message (RFC 8613, 8.2)
pub record OneRequestReading : Type 0 where
  pub named : (s t : SecurityContext) → SaysOneThing (requests s) (requests t)
  pub opened : (s : SecurityContext) → OneOpened (requests s)

-- for every reader, a response's OSCORE option says one thing, and the response opens as one message (RFC 8613, 8.4)
pub record OneResponseReading : Type 0 where
  pub named : (s t : SecurityContext) (n m : ℕ) → SaysOneThing (responses s n) (responses t m)
  pub opened : (s : SecurityContext) (n : ℕ) → OneOpened (responses s n)

-- for every reader, a notification's OSCORE option says one thing, and the notification opens as one message (RFC 8613, 8.4)
pub record OneNotificationReading : Type 0 where
  pub named : (s t : SecurityContext) (n m : ℕ) → SaysOneThing (notifications s n) (notifications t m)
  pub opened : (s : SecurityContext) (n : ℕ) → OneOpened (notifications s n)

-- the datagram protects the message under this number, and nothing else (RFC 8613, 8.2 and 8.4)
pub record ProtectsAlone {I : Type 0} (f : Protection I) (i : I) (m : InnerParts) (d : List ℕ) : Type 0 where
  pub opens : Protects f i m d
  pub nothing_else : (k : I) (l : InnerParts) → Protects f k l d → (k ≡ i) × (l ≡ m)

-- what one end of a context seals protects the inner part of the plain message at the other end, and nothing else; of a notification, the inner part with an empty Observe (RFC 8613, 4.1.3.5.2 and 8.1 to 8.4)
pub record SealedOpens : Type 0 where
  pub request : (s : SecurityContext) (n : ℕ) (p : Parts) (d : List ℕ) → SealsRequest s n p d → ProtectsAlone (requests s) n (inside p) d
  pub response : (s : SecurityContext) (n : ℕ) (own : Option ℕ) (p : Parts) (d : List ℕ) → SealsResponse s n own p d → ProtectsAlone (responses s n) own (inside p) d
  pub notification : (s : SecurityContext) (n : ℕ) (own : Option ℕ) (p : Parts) (d : List ℕ) → SealsNotification s n own p d → ProtectsAlone (notifications s n) own (inside (as_notified p)) d

-- a plain message has at most one sealed form under one number, or at most one refusal, never both if there is room for that form (RFC 8613, 8.1 and 8.3)
pub record OneForm {I : Type 0} (f : Protection I) : Type 0 where
  pub bytes : (i : I) (p : Parts) (d e : List ℕ) → IsSealed f i p d → IsSealed f i p e → d ≡ e
  pub never_both : (i : I) (p : Parts) (room : ℕ) (d : List ℕ) (e : ProtectError) → IsSealed f i p d → length d ≤ room → RefusesToSeal f i p room e → ⊥
  pub refusal : (i : I) (p : Parts) (room : ℕ) (e g : ProtectError) → RefusesToSeal f i p room e → RefusesToSeal f i p room g → e ≡ g

-- requests, responses and notifications have at most one sealed form (RFC 8613, 8.1 and 8.3)
pub record OneSealed : Type 0 where
  pub request : (s : SecurityContext) → OneForm (requests s)
  pub response : (s : SecurityContext) (n : ℕ) → OneForm (responses s n)
  pub notification : (s : SecurityContext) (n : ℕ) → OneForm (notifications s n)

-- the part outside of a message that has no Observe there: the head, the options of class U, and the OSCORE option (RFC 8613, 4.1 and 4.2)
abbrev pub plain_outside : Parts → ℕ → List ℕ → List ℕ → Parts
plain_outside p code value payload = record { kind = p.kind; code = code; message_id = p.message_id; token = p.token; options = front_options p.options ++ (oscore, value) ∷ options_behind p.options; payload = payload }

-- a context without features leaves out Observe and the blocks, one with blocks leaves out Observe alone, and one with Observe the blocks alone; without Observe, what stands outside is the options of class U, behind a code that tells nothing (own rule; RFC 8613, 4.1.2 and 4.2)
pub record LeavesOut : Type 0 where
  pub left_out : (n : ℕ) → is_left_out no_features n ≡ ((n == observe) || is_block n)
  pub unsupported : (n : ℕ) → is_unsupported no_features n ≡ (((n == observe) || is_block n) || is_proxy n || (n == oscore))
  pub barred : (n : ℕ) → is_barred no_features n ≡ (((n == observe) || is_block n) || is_outer (class n))
  pub with_blocks : (n : ℕ) → is_left_out (record { observe = false; blocks = true }) n ≡ (n == observe)
  pub with_observe : (n : ℕ) → is_left_out (record { observe = true; blocks = false }) n ≡ is_block n
  pub with_both : (n : ℕ) → is_left_out (record { observe = true; blocks = true }) n ≡ false
  pub without : unobserved no_features ≡ no_features
  pub outside_alone : (x : Features) (entry : Entry) → is_outside (unobserved x).observe entry ≡ is_in_front entry.0
  pub code : (u : Usage) (x : Features) (entries : List Entry) → outer_code_of u (unobserved x) entries ≡ plain_code_of u
  pub outer : (x : Features) (p : Parts) (code : ℕ) (value payload : List ℕ) → outside (unobserved x) p code value payload ≡ plain_outside p code value payload
  pub long : (x : Features) (p : Parts) (value : List ℕ) → sealed_length (unobserved x) as_it_is p value ≡ datagram_length (plain_outside p p.code value []) + (1 + (inner_length (inside p) + tag_length))

-- of the Observe options of a message the one that is interpreted stands outside, if the features have Observe, and no other one; in a notification it is so with an empty value inside; where none is interpreted, the message is sealed as one without Observe (RFC 7252, 5.4.3 and 5.4.5; RFC 8613, 4.1.3.5)
pub record OneObserve : Type 0 where
  pub stands_outside : (x : Features) (p : Parts) (code : ℕ) (value payload observed : List ℕ) → x.observe ≡ true → interpreted observe p.options ≡ Some observed
      → values_at observe (outside x p code value payload).options ≡ observed ∷ []
  pub emptied_inside : (p : Parts) (observed : List ℕ) → interpreted observe p.options ≡ Some observed → interpreted observe (as_notified p).options ≡ Some []
  pub unknown : (x : Features) (p : Parts) (code : ℕ) (value payload : List ℕ) → interpreted observe p.options ≡ None
      → (outside x p code value payload ≡ plain_outside p code value payload) × (as_notified p ≡ p)
