-- For the proofs: what the parts of sealing and of opening make (RFC 8613, 8). f is a protection, i one of its numbers, p what a message
-- says, room the length of the buffer, u a usage, x features, d a datagram, o the opened message.
use Rattle.std.specs.Prelude.{◌≡◌, ◌≢◌, ◌≤◌, ◌++◌, ℕ, List, [], Option, length, take, drop, true, false}
use Rattle.osc_coap.specs.Views.{options_left}
use Rattle.osc_coap.specs.Datagram.{Parts, IsDatagram}
use Rattle.osc_coap.specs.Inner.{IsInner}
use Rattle.osc_coap.specs.Search.{has_number}
use Rattle.osc_context.specs.OscoreValue.{IsOscoreValue}
use Rattle.osc_context.specs.declared.partial_iv.Piv.{Piv}
use Rattle.osc_context.specs.declared.features.Features.{Features}
use Rattle.osc_protect.specs.OptionSets.{is_barred}
use Rattle.osc_protect.specs.Usage.{is_code_of}
use Rattle.osc_protect.specs.Protection.{Protection}
use Rattle.osc_protect.specs.Sealed.{features_for, sealed_length}
use Rattle.osc_protect.specs.SealRefusals.{CanBeSealed}
use Rattle.osc_protect.specs.Refusals.{IsBadInner}
use Rattle.osc_protect.specs.Opening.{ShowsOuter}
use Rattle.osc_protect.specs.Views.{message_of}
use Rattle.osc_protect.specs.declared.usage.Usage.{Usage}
use Rattle.osc_protect.specs.declared.opened.Opened.{Opened}

-- a message can be sealed under the number, the result has this length, and there is room for it (how the code is seen)
abbrev pub Makes : {I : Type 0} → Protection I → I → Parts → ℕ → ℕ → Type 0
Makes f i p room len = CanBeSealed f.usage (features_for f p) p × (value : List ℕ) × IsOscoreValue (f.parts i) value × (len ≡ sealed_length f.features f.says p value) × (len ≤ 65535) × (len ≤ room)

-- the datagram is a message with a payload of this length (RFC 7252, 3)
pub record HasPayload (p : Parts) (d : List ℕ) (len : ℕ) : Type 0 where
  pub datagram : IsDatagram p d
  pub filled : p.payload ≢ []
  pub long : len ≡ length p.payload

-- in the new datagram, the message's payload became the plaintext of this length, followed by the old tag (RFC 8613, 5.3)
pub record DecryptsPayload (cipher : List ℕ → List ℕ) (p : Parts) (len : ℕ) (new : List ℕ) : Type 0 where
  pub plaintext : List ℕ
  pub seals : p.payload ≡ cipher plaintext
  pub left : IsDatagram (record p { payload = plaintext ++ drop (length plaintext) p.payload }) new
  pub long : len ≡ length plaintext

-- what was read from the plaintext of this length at the front of the payload (RFC 8613, 8.2 and 8.4)
pub record ReadsInner (u : Usage) (x : Features) (d : List ℕ) (number : Option Piv) (len : ℕ) (o : Opened) : Type 0 where
  pub outer : Parts
  pub datagram : IsDatagram outer d
  pub shows : ShowsOuter outer o
  pub piv : o.piv ≡ number
  pub spells : IsInner (message_of o) (take len outer.payload)
  pub code : is_code_of u o.code ≡ true
  pub allowed : has_number (is_barred x) (options_left o.inner) ≡ false

-- the plaintext of this length at the front of the payload is a bad one (RFC 8613, 8.2 and 8.4)
abbrev pub RefusesInner : Usage → Features → List ℕ → ℕ → Type 0
RefusesInner u x d len = (p : Parts) × IsDatagram p d × IsBadInner u x (take len p.payload)
