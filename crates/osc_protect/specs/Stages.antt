-- To be believed: what the stages of opening pass on, and what they leave (RFC 8613, 8.2 and 8.4). f is a protection, of requests or of
-- responses, u a usage, x features, i one of the protection's numbers, len and n are numbers of bytes, d, old and new are datagrams.
use Rattle.std.specs.Prelude.{◌≡◌, ◌+◌, ◌++◌, ℕ, List, length, take, drop, true, false}
use Rattle.osc_ccm.specs.Ccm.{tag_length}
use Rattle.osc_coap.specs.Datagram.{Parts, IsDatagram}
use Rattle.osc_coap.specs.Inner.{InnerParts, IsInner}
use Rattle.osc_coap.specs.Search.{has_number}
use Rattle.osc_protect.specs.Head.{Head, HasHead, ShowsHead}
use Rattle.osc_protect.specs.Protection.{Protection}
use Rattle.osc_protect.specs.Refusals.{Names}
use Rattle.osc_context.specs.declared.features.Features.{Features}
use Rattle.osc_protect.specs.OptionSets.{is_barred}
use Rattle.osc_protect.specs.Usage.{is_code_of}
use Rattle.osc_protect.specs.declared.usage.Usage.{Usage}

-- the datagram's head names the context and the number, and its payload has this length (RFC 8613, 8.2 and 8.4)
pub record HasSealed {I : Type 0} (f : Protection I) (d : List ℕ) (i : I) (len : ℕ) : Type 0 where
  pub head : Head
  pub has : HasHead f.usage d head
  pub names : Names f head i
  pub long : len ≡ length head.payload

-- a head after decrypting: its payload is the plaintext, followed by the old tag (RFC 8613, 8.2 and 8.4)
abbrev pub decrypted_head : Head → List ℕ → Head
decrypted_head h plaintext = record h { payload = plaintext ++ drop (length plaintext) h.payload }

-- the payload of the old datagram became the plaintext, followed by the old tag; all else stayed (RFC 8613, 8.2 and 8.4)
pub record Decrypts {I : Type 0} (f : Protection I) (old : List ℕ) (i : I) (len : ℕ) (new : List ℕ) : Type 0 where
  pub outer : Parts
  pub head : Head
  pub plaintext : List ℕ
  pub datagram : IsDatagram outer old
  pub shows : ShowsHead f.usage outer head
  pub names : Names f head i
  pub seals : head.payload ≡ f.cipher i plaintext
  pub left : IsDatagram (record outer { payload = plaintext ++ drop (length plaintext) outer.payload }) new
  pub has : HasHead f.usage new (decrypted_head head plaintext)
  pub long : len ≡ length plaintext

-- the head names the context, and its payload protects a plaintext, good or bad (RFC 8613, 8.2 and 8.4)
abbrev pub HoldsPlaintext : {I : Type 0} → Protection I → List ℕ → Type 0
HoldsPlaintext {I} f d = (h : Head) × HasHead f.usage d h × (i : I) × Names f h i × (plaintext : List ℕ) × (h.payload ≡ f.cipher i plaintext)

-- the datagram's payload is as long as this many bytes and a tag (RFC 8613, 8.2 and 8.4)
abbrev pub HasPayloadOf : List ℕ → ℕ → Type 0
HasPayloadOf d len = (p : Parts) × IsDatagram p d × (len + tag_length ≡ length p.payload)

-- a good plaintext of len bytes lies at the front of the payload, and its own payload has n bytes (RFC 8613, 8.2 and 8.4)
pub record HasPlaintext (u : Usage) (x : Features) (d : List ℕ) (len n : ℕ) : Type 0 where
  pub outer : Parts
  pub datagram : IsDatagram outer d
  pub room : len + tag_length ≡ length outer.payload
  pub inner : InnerParts
  pub spells : IsInner inner (take len outer.payload)
  pub long : n ≡ length inner.payload
  pub code : is_code_of u inner.code ≡ true
  pub allowed : has_number (is_barred x) inner.options ≡ false
