-- To be believed: the first fault of bytes that aren't a datagram, or aren't a plaintext, and its place (RFC
-- 7252, 3). The rows are in the order in which they are judged. Items are judged from left to right. d is the
-- number of the option before an item, and a place is counted in bytes from the front.
use Rattle.std.specs.Prelude.{◌≡◌, ◌≢◌, ℕ, ◌+◌, ◌/◌, ◌%◌, ◌<◌, ◌≤◌, ◌⊎◌, List, [], ◌∷◌, ◌++◌, length, drop, slice_index}
use Rattle.osc_coap.specs.declared.format_error.Fault.{Fault}
use Rattle.osc_coap.specs.declared.format_error.Fault.TheVariants.{DatagramTooLong, Short, Version, TokenLength, EmptyWithRest, TokenCut, Nibble15, OptionCut, NumberTooLarge, EmptyPayload}
use Rattle.osc_coap.specs.OptionSpelling.{Entry, StartsWithOption, Spells, last_number}

-- the version bits of the first byte (RFC 7252, 3)
abbrev pub version_of : List ℕ → ℕ
version_of bytes = slice_index bytes 0 / 64

-- the token length bits of the first byte (RFC 7252, 3)
abbrev pub token_length_of : List ℕ → ℕ
token_length_of bytes = slice_index bytes 0 % 16

-- the code, which is the second byte (RFC 7252, 3)
abbrev pub code_of : List ℕ → ℕ
code_of bytes = slice_index bytes 1

-- the head is whole, has version 1 and has a token length of at most 8 (RFC 7252, 3)
pub record HasWholeHead (bytes : List ℕ) : Type 0 where
  pub fits : length bytes ≤ 65535
  pub whole : 4 ≤ length bytes
  pub version : version_of bytes ≡ 1
  pub token_length : token_length_of bytes ≤ 8

-- the bytes have such a head, the code isn't 0.00, and the token is whole (RFC 7252, 3)
pub record HasToken (bytes : List ℕ) : Type 0 where
  pub head : HasWholeHead bytes
  pub code : code_of bytes ≢ 0
  pub token : 4 + token_length_of bytes ≤ length bytes

-- the bytes begin with an item that has this fault, after number d (RFC 7252, 3 and 3.1)
abbrev pub IsFaulty : ℕ → Fault → List ℕ → Type 0
IsFaulty d fault [] = ⊥
IsFaulty d Nibble15 (b ∷ bytes) = (b ≢ 255) × ((b / 16 ≡ 15) ⊎ (b % 16 ≡ 15))
IsFaulty d OptionCut (b ∷ bytes) = (b / 16 ≢ 15) × (b % 16 ≢ 15) × ((delta : ℕ) (value tail : List ℕ) → StartsWithOption delta value tail (b ∷ bytes) → ⊥)
IsFaulty d NumberTooLarge (b ∷ bytes) = (delta : ℕ) × (value : List ℕ) × (tail : List ℕ) × StartsWithOption delta value tail (b ∷ bytes) × (65535 < d + delta)
IsFaulty d EmptyPayload (b ∷ bytes) = (b ≡ 255) × (bytes ≡ [])
IsFaulty d DatagramTooLong (b ∷ bytes) = ⊥
IsFaulty d Short (b ∷ bytes) = ⊥
IsFaulty d Version (b ∷ bytes) = ⊥
IsFaulty d TokenLength (b ∷ bytes) = ⊥
IsFaulty d EmptyWithRest (b ∷ bytes) = ⊥
IsFaulty d TokenCut (b ∷ bytes) = ⊥

-- the bytes spell options up to the place, where a faulty item begins (RFC 7252, 3.1)
pub record HasItemFault (bytes : List ℕ) (fault : Fault) (place : ℕ) : Type 0 where
  pub options : List Entry
  pub spelled : List ℕ
  pub rest : List ℕ
  pub spells : Spells 0 options spelled
  pub whole : bytes ≡ spelled ++ rest
  pub place_is : place ≡ length spelled
  pub faulty : IsFaulty (last_number 0 options) fault rest

-- the same after the first start bytes, which the place counts too (RFC 7252, 3.1)
abbrev pub HasFaultFrom : ℕ → List ℕ → Fault → ℕ → Type 0
HasFaultFrom start bytes fault place = (at : ℕ) × (place ≡ start + at) × HasItemFault (drop start bytes) fault at

-- the first fault of bytes that should be a datagram, and its place (RFC 7252, 3)
abbrev pub HasFault : List ℕ → Fault → ℕ → Type 0
HasFault bytes DatagramTooLong place = (65535 < length bytes) × (place ≡ 65535)
HasFault bytes Short place = (length bytes < 4) × (place ≡ 0)
HasFault bytes Version place = (4 ≤ length bytes) × (length bytes ≤ 65535) × (version_of bytes ≢ 1) × (place ≡ 0)
HasFault bytes TokenLength place = (4 ≤ length bytes) × (length bytes ≤ 65535) × (version_of bytes ≡ 1) × (8 < token_length_of bytes) × (place ≡ 0)
HasFault bytes EmptyWithRest place = HasWholeHead bytes × (code_of bytes ≡ 0) × (((token_length_of bytes ≢ 0) × (place ≡ 0)) ⊎ ((token_length_of bytes ≡ 0) × (4 < length bytes) × (place ≡ 4)))
HasFault bytes TokenCut place = HasWholeHead bytes × (code_of bytes ≢ 0) × (length bytes < 4 + token_length_of bytes) × (place ≡ 4)
HasFault bytes Nibble15 place = HasToken bytes × HasFaultFrom (4 + token_length_of bytes) bytes Nibble15 place
HasFault bytes OptionCut place = HasToken bytes × HasFaultFrom (4 + token_length_of bytes) bytes OptionCut place
HasFault bytes NumberTooLarge place = HasToken bytes × HasFaultFrom (4 + token_length_of bytes) bytes NumberTooLarge place
HasFault bytes EmptyPayload place = HasToken bytes × HasFaultFrom (4 + token_length_of bytes) bytes EmptyPayload place

-- there is a code byte, and at most 65,535 bytes; own rule: that limit (RFC 8613, 5.3)
pub record HasCode (bytes : List ℕ) : Type 0 where
  pub fits : length bytes ≤ 65535
  pub whole : 1 ≤ length bytes

-- the first fault of bytes that should be a plaintext, and its place (RFC 8613, 5.3)
abbrev pub HasInnerFault : List ℕ → Fault → ℕ → Type 0
HasInnerFault bytes DatagramTooLong place = (65535 < length bytes) × (place ≡ 65535)
HasInnerFault bytes Short place = (length bytes < 1) × (place ≡ 0)
HasInnerFault bytes Nibble15 place = HasCode bytes × HasFaultFrom 1 bytes Nibble15 place
HasInnerFault bytes OptionCut place = HasCode bytes × HasFaultFrom 1 bytes OptionCut place
HasInnerFault bytes NumberTooLarge place = HasCode bytes × HasFaultFrom 1 bytes NumberTooLarge place
HasInnerFault bytes EmptyPayload place = HasCode bytes × HasFaultFrom 1 bytes EmptyPayload place
HasInnerFault bytes Version place = ⊥
HasInnerFault bytes TokenLength place = ⊥
HasInnerFault bytes EmptyWithRest place = ⊥
HasInnerFault bytes TokenCut place = ⊥
