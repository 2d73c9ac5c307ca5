-- To be believed: why a message isn't sealed (RFC 8613, 8.1 and 8.3; own rules: which options, and the limit), row by row in the order in
-- which the rows are checked. p is what the plain message says, u its usage, x the features that count, room the length of the buffer, f a
-- protection, i one of its numbers.
use Rattle.std.specs.Prelude.{◌≡◌, ℕ, ◌<◌, ◌≤◌, ◌==◌, List, true, false}
use Rattle.osc_coap.specs.OptionSpelling.{Entry}
use Rattle.osc_coap.specs.Datagram.{Parts}
use Rattle.osc_context.specs.OscoreValue.{IsOscoreValue}
use Rattle.osc_coap.specs.Search.{has_number}
use Rattle.osc_context.specs.declared.features.Features.{Features}
use Rattle.osc_protect.specs.OptionSets.{is_unsupported}
use Rattle.osc_protect.specs.Usage.{is_used}
use Rattle.osc_protect.specs.Protection.{Protection}
use Rattle.osc_protect.specs.Sealed.{features_for, sealed_length}
use Rattle.osc_protect.specs.declared.usage.Usage.{Usage}
use Rattle.osc_protect.specs.declared.usage.Usage.TheVariants.{Request, Response}
use Rattle.osc_protect.specs.declared.protect_error.ProtectError.{ProtectError}
use Rattle.osc_protect.specs.declared.protect_error.ProtectError.TheVariants.{NotThatKind, Unsupported, TooLong, NoRoom}

-- this is the lowest number among the message's options that can't be sealed (own rule)
pub record IsLowestUnsupported (x : Features) (entries : List Entry) (n : ℕ) : Type 0 where
  pub unsupported : is_unsupported x n ≡ true
  pub among : has_number (λ k. k == n) entries ≡ true
  pub lowest : (m : ℕ) → is_unsupported x m ≡ true → has_number (λ k. k == m) entries ≡ true → n ≤ m

-- why a message can't be sealed as one of this usage, whatever the room (RFC 8613, 8.1 and 8.3)
abbrev pub RefusesPlain : Usage → Features → Parts → ProtectError → Type 0
RefusesPlain u x p NotThatKind = is_used u p.kind p.code ≡ false
RefusesPlain u x p (Unsupported n) = (is_used u p.kind p.code ≡ true) × IsLowestUnsupported x p.options n
RefusesPlain u x p TooLong = ⊥
RefusesPlain u x p NoRoom = ⊥

-- the message is one of this usage that can be sealed if there is room (RFC 8613, 8.1 and 8.3)
abbrev pub CanBeSealed : Usage → Features → Parts → Type 0
CanBeSealed u x p = (is_used u p.kind p.code ≡ true) × (has_number (is_unsupported x) p.options ≡ false)

-- the message is a request that can be sealed if there is room (RFC 8613, 8.1)
abbrev pub IsPlainRequest : Features → Parts → Type 0
IsPlainRequest x p = CanBeSealed Request x p

-- why a message can't be sealed as a request, whatever the room (RFC 8613, 8.1)
abbrev pub RefusesPlainRequest : Features → Parts → ProtectError → Type 0
RefusesPlainRequest x p e = RefusesPlain Request x p e

-- the message is a response that can be sealed if there is room (RFC 8613, 8.3)
abbrev pub IsPlainResponse : Features → Parts → Type 0
IsPlainResponse x p = CanBeSealed Response x p

-- why a message can't be sealed as a response, whatever the room (RFC 8613, 8.3)
abbrev pub RefusesPlainResponse : Features → Parts → ProtectError → Type 0
RefusesPlainResponse x p e = RefusesPlain Response x p e

-- why there is no room for a sealed message of this length (own rule)
abbrev pub RefusesSize : ℕ → ℕ → ProtectError → Type 0
RefusesSize len room NotThatKind = ⊥
RefusesSize len room (Unsupported n) = ⊥
RefusesSize len room TooLong = 65535 < len
RefusesSize len room NoRoom = (len ≤ 65535) × (room < len)

-- the same for a message that is sealed under the number (own rule)
abbrev pub RefusesRoom : {I : Type 0} → Protection I → I → Parts → ℕ → ProtectError → Type 0
RefusesRoom f i p room e = (value : List ℕ) × IsOscoreValue (f.parts i) value × RefusesSize (sealed_length f.features f.says p value) room e

-- the condition of each refusal to seal, which excludes the earlier ones (RFC 8613, 8.1 and 8.3)
abbrev pub RefusesToSeal : {I : Type 0} → Protection I → I → Parts → ℕ → ProtectError → Type 0
RefusesToSeal f i p room NotThatKind = RefusesPlain f.usage (features_for f p) p NotThatKind
RefusesToSeal f i p room (Unsupported k) = RefusesPlain f.usage (features_for f p) p (Unsupported k)
RefusesToSeal f i p room TooLong = CanBeSealed f.usage (features_for f p) p × RefusesRoom f i p room TooLong
RefusesToSeal f i p room NoRoom = CanBeSealed f.usage (features_for f p) p × RefusesRoom f i p room NoRoom

-- the message can be sealed, and there is room for it (RFC 8613, 8.1 and 8.3)
abbrev pub FitsToSeal : {I : Type 0} → Protection I → I → Parts → ℕ → Type 0
FitsToSeal f i p room = CanBeSealed f.usage (features_for f p) p
    × ((value : List ℕ) → IsOscoreValue (f.parts i) value → (sealed_length f.features f.says p value ≤ 65535) × (sealed_length f.features f.says p value ≤ room))
