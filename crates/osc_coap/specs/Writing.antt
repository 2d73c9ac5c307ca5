-- To be believed: what a buffer that is being written holds, a datagram (RFC 7252, 3) or a plaintext (RFC
-- 8613, 5.3), and what can't be added to it. room is the buffer's length. A refusal gives the first reason
-- that holds, in the order of WriteError.
use Rattle.std.specs.Prelude.{◌≡◌, ◌≢◌, ℕ, ◌+◌, ◌<◌, ◌≤◌, ◌⊎◌, List, [], ◌∷◌, ◌++◌, length}
use Rattle.osc_coap.specs.declared.message.Kind.{Kind}
use Rattle.osc_coap.specs.declared.write_error.WriteError.{WriteError}
use Rattle.osc_coap.specs.declared.write_error.WriteError.TheVariants.{EmptyWithRest, Order, ValueTooLong, NoRoom}
use Rattle.osc_coap.specs.OptionSpelling.{Entry, last_number}
use Rattle.osc_coap.specs.Datagram.{Parts, datagram_length}
use Rattle.osc_coap.specs.Inner.{InnerParts, inner_length}

-- what is written so far: the datagram, or the plaintext, with these parts (RFC 7252, 3; RFC 8613, 5.3)
pub data Draft : Type 0 where
  Datagram : Parts → Draft
  Plaintext : InnerParts → Draft

-- a message with only a head and a token (RFC 7252, 3)
abbrev pub bare : Kind → ℕ → ℕ → List ℕ → Parts
bare kind code message_id token = record { kind = kind; code = code; message_id = message_id; token = token; options = []; payload = [] }

-- a plaintext with only a code (RFC 8613, 5.3)
abbrev pub bare_inner : ℕ → InnerParts
bare_inner code = record { code = code; options = []; payload = [] }

-- the options that are written (RFC 7252, 3.1)
abbrev pub options_of : Draft → List Entry
options_of (Datagram p) = p.options
options_of (Plaintext p) = p.options

-- the payload that is written (RFC 7252, 3)
abbrev pub payload_of : Draft → List ℕ
payload_of (Datagram p) = p.payload
payload_of (Plaintext p) = p.payload

-- how many bytes are written (RFC 7252, 3; RFC 8613, 5.3)
abbrev pub length_of : Draft → ℕ
length_of (Datagram p) = datagram_length p
length_of (Plaintext p) = inner_length p

-- the same draft with more options after those that it has (RFC 7252, 3.1)
abbrev pub with_options : Draft → List Entry → Draft
with_options (Datagram p) entries = Datagram (record p { options = p.options ++ entries })
with_options (Plaintext p) entries = Plaintext (record p { options = p.options ++ entries })

-- the same draft with one more option (RFC 7252, 3.1)
abbrev pub with_option : Draft → ℕ → List ℕ → Draft
with_option draft number value = with_options draft ((number, value) ∷ [])

-- the same draft with bytes added to its payload, which is empty until then (RFC 7252, 3)
abbrev pub with_payload : Draft → List ℕ → Draft
with_payload (Datagram p) bytes = Datagram (record p { payload = p.payload ++ bytes })
with_payload (Plaintext p) bytes = Plaintext (record p { payload = p.payload ++ bytes })

-- the draft is a message with code 0.00, which is only a head; a plaintext never is one (RFC 7252, 4.1)
abbrev pub IsEmptyMessage : Draft → Type 0
IsEmptyMessage (Datagram p) = p.code ≡ 0
IsEmptyMessage (Plaintext p) = ⊥

-- an option comes too late: after a payload, or with a number below the one before it (RFC 7252, 3 and 3.1)
abbrev pub ComesLate : Draft → ℕ → Type 0
ComesLate draft number = (payload_of draft ≢ []) ⊎ (number < last_number 0 (options_of draft))

-- the size passes the end of the buffer, or 65,535 bytes; own rule: that limit (RFC 7252, 3)
abbrev pub LacksRoom : ℕ → ℕ → Type 0
LacksRoom room size = (room < size) ⊎ (65535 < size)

-- the size is within the buffer, and within 65,535 bytes; own rule: that limit (RFC 7252, 3)
abbrev pub HasRoom : ℕ → ℕ → Type 0
HasRoom room size = (size ≤ room) × (size ≤ 65535)

-- the condition of each of the four reasons, by its name, whatever else is wrong (own rule)
abbrev pub Reason : (empty late long full : Type 0) → WriteError → Type 0
Reason empty late long full EmptyWithRest = empty
Reason empty late long full Order = late
Reason empty late long full ValueTooLong = long
Reason empty late long full NoRoom = full

-- the place of a reason in the order of judging (own rule)
abbrev pub write_rank : WriteError → ℕ
write_rank EmptyWithRest = 0
write_rank Order = 1
write_rank ValueTooLong = 2
write_rank NoRoom = 3

-- the reason holds, and none judged before it does (own rule)
pub record IsFirstReason (why : WriteError → Type 0) (e : WriteError) : Type 0 where
  pub holds : why e
  pub first : (f : WriteError) → write_rank f < write_rank e → ¬ why f

-- why a datagram with this code and token can't begin (own rule)
abbrev pub RefusesHead : ℕ → ℕ → List ℕ → WriteError → Type 0
RefusesHead room code token = Reason ((code ≡ 0) × (token ≢ [])) ⊥ ⊥ (LacksRoom room (4 + length token))

-- a datagram with this code and token can begin (RFC 7252, 3 and 4.1)
abbrev pub TakesHead : ℕ → ℕ → List ℕ → Type 0
TakesHead room code token = (code ≡ 0 → token ≡ []) × HasRoom room (4 + length token)

-- why an option can't be added (own rule)
abbrev pub RefusesOption : ℕ → Draft → ℕ → List ℕ → WriteError → Type 0
RefusesOption room draft number value = Reason (IsEmptyMessage draft) (ComesLate draft number) (65804 < length value) (LacksRoom room (length_of (with_option draft number value)))

-- an option can be added (RFC 7252, 3 and 3.1)
abbrev pub TakesOption : ℕ → Draft → ℕ → List ℕ → Type 0
TakesOption room draft number value = (¬ IsEmptyMessage draft) × (payload_of draft ≡ []) × (last_number 0 (options_of draft) ≤ number) × HasRoom room (length_of (with_option draft number value))

-- why a payload that isn't empty can't be added (own rule)
abbrev pub RefusesPayload : ℕ → Draft → List ℕ → WriteError → Type 0
RefusesPayload room draft bytes = Reason (IsEmptyMessage draft) (payload_of draft ≢ []) ⊥ (LacksRoom room (length_of (with_payload draft bytes)))

-- a payload that isn't empty can be added (RFC 7252, 3)
abbrev pub TakesPayload : ℕ → Draft → List ℕ → Type 0
TakesPayload room draft bytes = (¬ IsEmptyMessage draft) × (payload_of draft ≡ []) × HasRoom room (length_of (with_payload draft bytes))
