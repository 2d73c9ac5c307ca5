-- Faults of items behind a head.
use Rattle.std.proofs.Common.{◌≡◌, ◌≢◌, ℕ, ◌+◌, ◌<◌, ◌≤◌, List, [], ◌∷◌, length, drop, ap, subst, arith}
use Rattle.std.proofs.lemmas.List.{length-append, length-drop}
use Rattle.osc_coap.specs.declared.format_error.Fault.{Fault}
use Rattle.osc_coap.specs.declared.format_error.Fault.TheVariants.{DatagramTooLong, Short, Version, TokenLength, EmptyWithRest, TokenCut, Nibble15, OptionCut, NumberTooLarge, EmptyPayload}
use Rattle.osc_coap.specs.OptionSpelling.{last_number}
use Rattle.osc_coap.specs.Fault.{IsFaulty, HasItemFault, HasFaultFrom, HasWholeHead, HasToken, HasFault, HasCode, HasInnerFault, code_of, token_length_of}

-- a faulty item takes a byte at least
not_short : (d : ℕ) (rest : List ℕ) (f : Fault) → IsFaulty d f rest → length rest ≢ 0
not_short d [] f h = absurd h
not_short d (b ∷ rest) f h = omega arith

-- a faulty item stands inside the bytes
pub item_fault_stands : (bytes : List ℕ) (fault : Fault) (place : ℕ) → HasItemFault bytes fault place → place < length bytes
item_fault_stands bytes fault place h =
    let n = not_short _ h.rest fault h.faulty in
    let p = h.place_is in
    omega (arith, ap length h.whole, length-append h.spelled h.rest)

-- the same behind the first bytes
pub fault_from_stands : (start : ℕ) (bytes : List ℕ) (fault : Fault) (place : ℕ) → HasFaultFrom start bytes fault place → place < length bytes
fault_from_stands start bytes fault place h =
    let lt = item_fault_stands (drop start bytes) fault h.0 h.2 in
    let e = h.1 in
    omega (arith, length-drop start bytes)

-- a fault of the head is no item's
never_item : (d : ℕ) (rest : List ℕ) (f : Fault) → ((d : ℕ) (b : ℕ) (bytes : List ℕ) → IsFaulty d f (b ∷ bytes) → ⊥) → IsFaulty d f rest → ⊥
never_item d [] f refuse h = h
never_item d (b ∷ rest) f refuse h = refuse d b rest h

-- what holds of an item's four faults holds of each fault of an item
of_item : (P : Fault → Type 0) → P Nibble15 → P OptionCut → P NumberTooLarge → P EmptyPayload
    → (start : ℕ) (bytes : List ℕ) (fault : Fault) (place : ℕ) → HasFaultFrom start bytes fault place → P fault
of_item P nibble cut large empty start bytes Nibble15 place i = nibble
of_item P nibble cut large empty start bytes OptionCut place i = cut
of_item P nibble cut large empty start bytes NumberTooLarge place i = large
of_item P nibble cut large empty start bytes EmptyPayload place i = empty
of_item P nibble cut large empty start bytes DatagramTooLong place i = absurd (never_item (last_number 0 i.2.options) i.2.rest DatagramTooLong (λ d b bs x. x) i.2.faulty)
of_item P nibble cut large empty start bytes Short place i = absurd (never_item (last_number 0 i.2.options) i.2.rest Short (λ d b bs x. x) i.2.faulty)
of_item P nibble cut large empty start bytes Version place i = absurd (never_item (last_number 0 i.2.options) i.2.rest Version (λ d b bs x. x) i.2.faulty)
of_item P nibble cut large empty start bytes TokenLength place i = absurd (never_item (last_number 0 i.2.options) i.2.rest TokenLength (λ d b bs x. x) i.2.faulty)
of_item P nibble cut large empty start bytes EmptyWithRest place i = absurd (never_item (last_number 0 i.2.options) i.2.rest EmptyWithRest (λ d b bs x. x) i.2.faulty)
of_item P nibble cut large empty start bytes TokenCut place i = absurd (never_item (last_number 0 i.2.options) i.2.rest TokenCut (λ d b bs x. x) i.2.faulty)

-- an item's fault behind a whole token is one of the datagram
fault_behind_token : (bytes : List ℕ) (fault : Fault) (place : ℕ) → HasToken bytes → HasFaultFrom (4 + token_length_of bytes) bytes fault place → HasFault bytes fault place
fault_behind_token bytes fault place h i =
    of_item (λ f. HasFaultFrom (4 + token_length_of bytes) bytes f place → HasFault bytes f place)
    (λ i. (h, i)) (λ i. (h, i)) (λ i. (h, i)) (λ i. (h, i)) (4 + token_length_of bytes) bytes fault place i i

-- an item's fault behind the token's end is one of the datagram, where code 0.00 stands alone
pub fault_behind_end : (bytes : List ℕ) (end : ℕ) (fault : Fault) (place : ℕ) → HasWholeHead bytes → end ≡ 4 + token_length_of bytes → end ≤ length bytes → (code_of bytes ≡ 0 → length bytes ≡ 4) → HasFaultFrom end bytes fault place → HasFault bytes fault place
fault_behind_end bytes end fault place head is within alone i =
    let stands = fault_from_stands end bytes fault place i in
    let at = i.1 in
    let code : code_of bytes ≢ 0 = λ e. (let n = alone e in omega arith) in
    let token : 4 + token_length_of bytes ≤ length bytes = omega arith in
    fault_behind_token bytes fault place (record { head = head; code = code; token = token }) (subst (λ (n : ℕ). HasFaultFrom n bytes fault place) is i)

-- an item's fault behind the code is one of the plaintext
pub fault_behind_code : (bytes : List ℕ) (fault : Fault) (place : ℕ) → HasCode bytes → HasFaultFrom 1 bytes fault place → HasInnerFault bytes fault place
fault_behind_code bytes fault place h i =
    of_item (λ f. HasFaultFrom 1 bytes f place → HasInnerFault bytes f place)
    (λ i. (h, i)) (λ i. (h, i)) (λ i. (h, i)) (λ i. (h, i)) 1 bytes fault place i i
