-- To be believed: why a datagram doesn't open (RFC 8613, 8.2 and 8.4), row by
-- row in the order in which the rows are checked. f is a protection, of requests
-- or of responses, i one of its numbers, d a datagram, h a head, e a refusal, x the features of a context.
use Rattle.std.specs.Prelude.{◌≡◌, ◌≢◌, ◌⊎◌, ℕ, List, true, false}
use Rattle.osc_coap.specs.declared.format_error.Fault.{Fault}
use Rattle.osc_coap.specs.Inner.{InnerParts, IsInner}
use Rattle.osc_coap.specs.Fault.{HasInnerFault}
use Rattle.osc_coap.specs.Search.{has_number}
use Rattle.osc_context.specs.declared.features.Features.{Features}
use Rattle.osc_protect.specs.OptionSets.{is_barred}
use Rattle.osc_protect.specs.Usage.{is_code_of}
use Rattle.osc_protect.specs.Head.{Head, HasHead, HasNoHead}
use Rattle.osc_protect.specs.Protection.{Protection}
use Rattle.osc_protect.specs.declared.usage.Usage.{Usage}
use Rattle.osc_protect.specs.declared.head_error.HeadError.TheVariants as heads
use Rattle.osc_protect.specs.declared.unprotect_error.UnprotectError.{UnprotectError}
use Rattle.osc_protect.specs.declared.unprotect_error.UnprotectError.TheVariants.{Format, NotThatKind, NoOscore, Undecodable, WrongContext, Tag, Inner}

-- the head says what this protection says under the number (RFC 8613, 8.2 and 8.4)
abbrev pub Names : {I : Type 0} → Protection I → Head → I → Type 0
Names f h i = h.parts ≡ f.parts i

-- the plaintext isn't a message, or its code isn't one of the usage, or it has a barred option (RFC 8613, 8.2 and 8.4)
abbrev pub IsBadInner : Usage → Features → List ℕ → Type 0
IsBadInner u x plaintext =
    ((fault : Fault) × (place : ℕ) × HasInnerFault plaintext fault place)
    ⊎ ((m : InnerParts) × IsInner m plaintext × ((is_code_of u m.code ≡ false) ⊎ (has_number (is_barred x) m.options ≡ true)))

-- there is no number under which this protection says what the head says: in a request, the kid or the kid context differs (RFC 8613, 8.2)
abbrev pub RefusesContext : {I : Type 0} → Protection I → List ℕ → Type 0
RefusesContext {I} f d = (h : Head) × HasHead f.usage d h × ((i : I) → Names f h i → ⊥)

-- the head names the context, and its payload protects no plaintext (RFC 8613, 8.2 and 8.4)
abbrev pub RefusesTag : {I : Type 0} → Protection I → List ℕ → Type 0
RefusesTag {I} f d = (h : Head) × HasHead f.usage d h × (i : I) × Names f h i × ((plaintext : List ℕ) → h.payload ≢ f.cipher i plaintext)

-- the head names the context, and its payload protects a bad plaintext (RFC 8613, 8.2 and 8.4)
abbrev pub RefusesPlaintext : {I : Type 0} → Protection I → List ℕ → Type 0
RefusesPlaintext {I} f d = (h : Head) × HasHead f.usage d h × (i : I) × Names f h i × (plaintext : List ℕ) × (h.payload ≡ f.cipher i plaintext) × IsBadInner f.usage f.features plaintext

-- the condition of each refusal to open, which excludes the earlier ones (RFC 8613, 8.2 and 8.4)
abbrev pub RefusesToOpen : {I : Type 0} → Protection I → List ℕ → UnprotectError → Type 0
RefusesToOpen f d (Format e) = HasNoHead f.usage d (heads.Format e)
RefusesToOpen f d NotThatKind = HasNoHead f.usage d heads.NotThatKind
RefusesToOpen f d NoOscore = HasNoHead f.usage d heads.NoOscore
RefusesToOpen f d Undecodable = HasNoHead f.usage d heads.Undecodable
RefusesToOpen f d WrongContext = RefusesContext f d
RefusesToOpen f d Tag = RefusesTag f d
RefusesToOpen f d Inner = RefusesPlaintext f d
