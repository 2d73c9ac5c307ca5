-- To be believed: laws about contexts, derived and refused (RFC 8613, 3.2 and 3.3), about nonces (RFC 8613, 5.2), about
-- additional data (RFC 8613, 5.4), and about values of the OSCORE option and their refusals (RFC 8613, 6.1). c is a
-- context, g is what a context would be derived from, iv is a Common IV, a and b are identifiers, n and m are numbers, and
-- p and q are what values say.
use Rattle.std.specs.Prelude.{◌≡◌, ℕ, ◌^◌, ◌<◌, ◌≤◌, ◌⊎◌, List, length, IfSome}
use Rattle.std.specs.List.{All}
use Rattle.osc_context.specs.declared.option_error.OptionError.{OptionError}
use Rattle.osc_context.specs.Algorithm.{nonce_length}
use Rattle.osc_context.specs.Nonce.{nonce_of}
use Rattle.osc_context.specs.AdditionalData.{additional_data_of}
use Rattle.osc_context.specs.OscoreValue.{OscoreParts, IsOscoreValue, most_len}
use Rattle.osc_context.specs.OptionRefusal.{RefusesValue, IsFirstValueRefusal}
use Rattle.osc_context.specs.ContextRefusal.{IsFirstParamsRefusal}
use Rattle.osc_context.specs.declared.context_error.ContextError.{ContextError}
use Rattle.osc_context.specs.declared.context.Context.{Context}
use Rattle.osc_context.specs.declared.parameters.Params.{Params}
use Rattle.osc_context.specs.SecurityContext.{IsUsable}
use Rattle.osc_context.specs.Views.{as_client, as_server}

-- a context that was derived is usable, with this end as the client (RFC 8613, 3.3)
abbrev pub UsableAsClient : Type 0
UsableAsClient = (c : Context) → IsUsable (as_client c)

-- a context that was derived is usable, with this end as the server (RFC 8613, 3.3)
abbrev pub UsableAsServer : Type 0
UsableAsServer = (c : Context) → IsUsable (as_server c)

-- only one of the refusals of a context is the first (own rule)
abbrev pub OneParamsRefusal : Type 0
OneParamsRefusal = (g : Params) (e f : ContextError) → IsFirstParamsRefusal g e → IsFirstParamsRefusal g f → e ≡ f

-- with one Common IV, a nonce belongs to only one identifier and one number (RFC 8613, 5.2)
abbrev pub OneNonce : Type 0
OneNonce = (iv a b : List ℕ) (n m : ℕ) → length a ≤ 7 → length b ≤ 7 → n < 2 ^ 40 → m < 2 ^ 40
    → nonce_of iv a n ≡ nonce_of iv b m → (a ≡ b) × (n ≡ m)

-- a nonce has the algorithm's length (RFC 8613, 5.2)
abbrev pub NonceLen : Type 0
NonceLen = (iv id : List ℕ) (n : ℕ) → length (nonce_of iv id n) ≡ nonce_length

-- the additional data for a kid of up to 7 bytes has 1 to 31 bytes (RFC 8613, 5.4)
abbrev pub AdditionalDataLen : Type 0
AdditionalDataLen = (kid : List ℕ) (n : ℕ) → length kid ≤ 7
    → (0 < length (additional_data_of kid n)) × (length (additional_data_of kid n) ≤ 31)

-- additional data belongs to only one identifier and one number (RFC 8613, 5.4)
abbrev pub OneAdditionalData : Type 0
OneAdditionalData = (a b : List ℕ) (n m : ℕ) → length a ≤ 7 → length b ≤ 7 → n < 2 ^ 40 → m < 2 ^ 40
    → additional_data_of a n ≡ additional_data_of b m → (a ≡ b) × (n ≡ m)

-- what a value says has only one spelling (RFC 8613, 6.1)
abbrev pub OneSpelling : Type 0
OneSpelling = (p : OscoreParts) (bytes other : List ℕ) → IsOscoreValue p bytes → IsOscoreValue p other → bytes ≡ other

-- the bytes of a value say only one thing (RFC 8613, 6.1)
abbrev pub OneValue : Type 0
OneValue = (p q : OscoreParts) (bytes : List ℕ) → IsOscoreValue p bytes → IsOscoreValue q bytes → p ≡ q

-- the number in a value is below 2 ^ 40 (RFC 8613, 6.1)
abbrev pub ValueNumberInRange : Type 0
ValueNumberInRange = (p : OscoreParts) (bytes : List ℕ) → IsOscoreValue p bytes → IfSome p.piv (λ n. n < 2 ^ 40)

-- a value has at most 255 bytes (RFC 8613, 2)
abbrev pub ValueFits : Type 0
ValueFits = (p : OscoreParts) (bytes : List ℕ) → IsOscoreValue p bytes → length bytes ≤ 255

-- a value has at most as many bytes as its parts can take (RFC 8613, 6.1)
abbrev pub ValueMostLen : Type 0
ValueMostLen = (p : OscoreParts) (bytes : List ℕ) → IsOscoreValue p bytes → length bytes ≤ most_len p

-- no bytes are both a value and refused (RFC 8613, 6.1)
abbrev pub NeverBoth : Type 0
NeverBoth = (p : OscoreParts) (bytes : List ℕ) (e : OptionError) → IsOscoreValue p bytes → ¬ RefusesValue bytes e

-- only one of the refusals of bytes is the first (own rule)
abbrev pub OneValueRefusal : Type 0
OneValueRefusal = (bytes : List ℕ) (e f : OptionError) → IsFirstValueRefusal bytes e → IsFirstValueRefusal bytes f → e ≡ f

-- any bytes are a value or have a first refusal (RFC 8613, 6.1)
abbrev pub ValueOrRefusal : Type 0
ValueOrRefusal = (bytes : List ℕ) → All (λ b. b < 256) bytes
    → ((p : OscoreParts) × IsOscoreValue p bytes) ⊎ ((e : OptionError) × IsFirstValueRefusal bytes e)
