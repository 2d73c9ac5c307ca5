-- To be believed: what holds for all lists of options, messages, plaintexts and byte lists (RFC 7252, 3 and
-- 3.1; RFC 8613, 5.3). These are the contracts of the functions in laws.rt.
use Rattle.std.specs.Prelude.{◌≡◌, ◌≢◌, ◌-◌, ◌≤◌, ◌⊎◌, ◌++◌, ℕ, List, [], ◌∷◌, length, take, drop}
use Rattle.osc_coap.specs.declared.format_error.Fault.{Fault}
use Rattle.osc_coap.specs.declared.message.Message.{Message}
use Rattle.osc_coap.specs.declared.inner.Inner.{Inner}
use Rattle.osc_coap.specs.declared.options.Options.{Options}
use Rattle.osc_coap.specs.Views.{parts_of, inner_parts_of, options_left, number_before}
use Rattle.osc_coap.specs.OptionSpelling.{Entry, AreBytes, Spells, Ascends, spelling_length}
use Rattle.osc_coap.specs.Datagram.{Parts, IsDatagram, datagram_length}
use Rattle.osc_coap.specs.Inner.{InnerParts, IsInner, inner_length}
use Rattle.osc_coap.specs.Fault.{HasFault, HasInnerFault}

-- a byte list spells at most one list of options after a number (RFC 7252, 3.1)
abbrev pub SpellingIsOfOneList : Type 0
SpellingIsOfOneList = (d : ℕ) (xs ys : List Entry) (text : List ℕ) → Spells d xs text → Spells d ys text → xs ≡ ys

-- a list of options has at most one text after a number (RFC 7252, 3.1)
abbrev pub ListHasOneText : Type 0
ListHasOneText = (d : ℕ) (entries : List Entry) (text other : List ℕ) → AreBytes text → AreBytes other → Spells d entries text → Spells d entries other → text ≡ other

-- the parts of a message have at most one datagram (RFC 7252, 3)
abbrev pub PartsHaveOneDatagram : Type 0
PartsHaveOneDatagram = (p : Parts) (bytes other : List ℕ) → IsDatagram p bytes → IsDatagram p other → bytes ≡ other

-- the parts of a plaintext have at most one byte list (RFC 8613, 5.3)
abbrev pub PartsHaveOneInner : Type 0
PartsHaveOneInner = (p : InnerParts) (bytes other : List ℕ) → IsInner p bytes → IsInner p other → bytes ≡ other

-- a byte list is the datagram of at most one message (RFC 7252, 3)
abbrev pub DatagramIsOneMessage : Type 0
DatagramIsOneMessage = (p q : Parts) (bytes : List ℕ) → IsDatagram p bytes → IsDatagram q bytes → p ≡ q

-- a byte list has at most one first fault, at one place (RFC 7252, 3)
abbrev pub DatagramHasOneFault : Type 0
DatagramHasOneFault = (bytes : List ℕ) (f g : Fault) (place other : ℕ) → HasFault bytes f place → HasFault bytes g other → (f ≡ g) × (place ≡ other)

-- no datagram has a fault (RFC 7252, 3)
abbrev pub DatagramHasNoFault : Type 0
DatagramHasNoFault = (p : Parts) (bytes : List ℕ) (f : Fault) (place : ℕ) → IsDatagram p bytes → HasFault bytes f place → ⊥

-- each byte list is a datagram or has a fault (RFC 7252, 3)
abbrev pub BytesAreDatagramOrFaulty : Type 0
BytesAreDatagramOrFaulty = (bytes : List ℕ) → AreBytes bytes → ((p : Parts) × IsDatagram p bytes) ⊎ ((f : Fault) × (place : ℕ) × HasFault bytes f place)

-- a byte list is at most one plaintext (RFC 8613, 5.3)
abbrev pub PlaintextIsOneMessage : Type 0
PlaintextIsOneMessage = (p q : InnerParts) (bytes : List ℕ) → IsInner p bytes → IsInner q bytes → p ≡ q

-- a byte list has at most one first fault as a plaintext (RFC 8613, 5.3)
abbrev pub PlaintextHasOneFault : Type 0
PlaintextHasOneFault = (bytes : List ℕ) (f g : Fault) (place other : ℕ) → HasInnerFault bytes f place → HasInnerFault bytes g other → (f ≡ g) × (place ≡ other)

-- no plaintext has a fault (RFC 8613, 5.3)
abbrev pub PlaintextHasNoFault : Type 0
PlaintextHasNoFault = (p : InnerParts) (bytes : List ℕ) (f : Fault) (place : ℕ) → IsInner p bytes → HasInnerFault bytes f place → ⊥

-- each byte list is a plaintext or has a fault as a plaintext (RFC 8613, 5.3)
abbrev pub BytesArePlaintextOrFaulty : Type 0
BytesArePlaintextOrFaulty = (bytes : List ℕ) → AreBytes bytes → ((p : InnerParts) × IsInner p bytes) ⊎ ((f : Fault) × (place : ℕ) × HasInnerFault bytes f place)

-- a payload that isn't empty is the end of its datagram (RFC 7252, 3)
abbrev pub PayloadIsTheEnd : Type 0
PayloadIsTheEnd = (p : Parts) (bytes : List ℕ) → IsDatagram p bytes → p.payload ≢ [] → (length p.payload ≤ length bytes) × (drop (length bytes - length p.payload) bytes ≡ p.payload)

-- replacing the payload with other bytes of its length makes the message with those bytes as its payload (RFC 7252, 3)
abbrev pub PayloadCanBeReplaced : Type 0
PayloadCanBeReplaced = (p : Parts) (bytes other : List ℕ) → IsDatagram p bytes → p.payload ≢ [] → AreBytes other → length other ≡ length p.payload → IsDatagram (record p { payload = other }) (take (length bytes - length p.payload) bytes ++ other)

-- appending a marker and a payload to a message without a payload makes the message with that payload (RFC 7252, 3)
abbrev pub PayloadCanBeAdded : Type 0
PayloadCanBeAdded = (p : Parts) (payload bytes : List ℕ) → IsDatagram p bytes → p.payload ≡ [] → p.code ≢ 0 → AreBytes payload → payload ≢ [] → length (bytes ++ (255 ∷ payload)) ≤ 65535 → IsDatagram (record p { payload = payload }) (bytes ++ (255 ∷ payload))

-- the options that a byte list spells are in ascending order of number (RFC 7252, 3.1)
abbrev pub SpelledOptionsAscend : Type 0
SpelledOptionsAscend = (d : ℕ) (entries : List Entry) (text : List ℕ) → Spells d entries text → Ascends d entries

-- the options of a message are in ascending order of number (RFC 7252, 3.1)
abbrev pub OptionsAscend : Type 0
OptionsAscend = (p : Parts) (bytes : List ℕ) → IsDatagram p bytes → Ascends 0 p.options

-- the options of a plaintext are in ascending order of number (RFC 8613, 5.3)
abbrev pub InnerOptionsAscend : Type 0
InnerOptionsAscend = (p : InnerParts) (bytes : List ℕ) → IsInner p bytes → Ascends 0 p.options

-- the options of a message that was read are in ascending order of number (RFC 7252, 3.1)
abbrev pub ReadOptionsAscend : Type 0
ReadOptionsAscend = (m : Message) → Ascends 0 (parts_of m).options

-- the options of a plaintext that was read are in ascending order of number (RFC 8613, 5.3)
abbrev pub ReadInnerOptionsAscend : Type 0
ReadInnerOptionsAscend = (m : Inner) → Ascends 0 (inner_parts_of m).options

-- the options that an iterator still has to give are in ascending order of number (RFC 7252, 3.1)
abbrev pub OptionsLeftAscend : Type 0
OptionsLeftAscend = (s : Options) → Ascends (number_before s) (options_left s)

-- there are bytes that spell the options of a message that was read (RFC 7252, 3.1)
abbrev pub ReadOptionsAreSpelled : Type 0
ReadOptionsAreSpelled = (m : Message) → (text : List ℕ) × AreBytes text × Spells 0 (parts_of m).options text

-- there are bytes that spell the options of a plaintext that was read (RFC 8613, 5.3)
abbrev pub ReadInnerOptionsAreSpelled : Type 0
ReadInnerOptionsAreSpelled = (m : Inner) → (text : List ℕ) × AreBytes text × Spells 0 (inner_parts_of m).options text

-- there are bytes that spell the options that an iterator still has to give, after its number (RFC 7252, 3.1)
abbrev pub OptionsLeftAreSpelled : Type 0
OptionsLeftAreSpelled = (s : Options) → (text : List ℕ) × AreBytes text × Spells (number_before s) (options_left s) text

-- a list of options determines the length of its text (RFC 7252, 3.1)
abbrev pub SpellingHasItsLength : Type 0
SpellingHasItsLength = (d : ℕ) (entries : List Entry) (text : List ℕ) → AreBytes text → Spells d entries text → length text ≡ spelling_length d entries

-- the parts of a message determine the length of its datagram (RFC 7252, 3)
abbrev pub DatagramHasItsLength : Type 0
DatagramHasItsLength = (p : Parts) (bytes : List ℕ) → IsDatagram p bytes → length bytes ≡ datagram_length p

-- the parts of a plaintext determine its length (RFC 8613, 5.3)
abbrev pub InnerHasItsLength : Type 0
InnerHasItsLength = (p : InnerParts) (bytes : List ℕ) → IsInner p bytes → length bytes ≡ inner_length p
