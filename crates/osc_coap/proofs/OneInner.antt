-- Bytes have one reading as a plaintext.
use Rattle.std.proofs.Common.{◌≡◌, ℕ, List, length, drop, get_or, true, false, cond, ltb, Option, Some, None, refl, sym, ap, ◌∙◌, arith, inl, inr}
use Rattle.std.proofs.lemmas.Bool.{le-ltb, lt-ltb}
use Rattle.osc_coap.specs.declared.format_error.Fault.{Fault}
use Rattle.osc_coap.specs.declared.format_error.Fault.TheVariants.{DatagramTooLong, Short, Version, TokenLength, EmptyWithRest, TokenCut, Nibble15, OptionCut, NumberTooLarge, EmptyPayload}
use Rattle.osc_coap.specs.OptionSpelling.{Entry}
use Rattle.osc_coap.specs.Ends.{IsBody}
use Rattle.osc_coap.specs.Inner.{InnerParts, IsInner}
use Rattle.osc_coap.specs.Fault.{HasFaultFrom, HasCode, HasInnerFault}
use Rattle.osc_coap.proofs.OneReading.{body_one, body_never_item}
use Rattle.osc_coap.proofs.OneFault.{Divides, divided_one}

-- the first byte is the code
pub inner_code : (p : InnerParts) (bytes : List ℕ) → IsInner p bytes → get_or bytes 0 0 ≡ p.code
inner_code p bytes h = ap (λ (y : List ℕ). get_or y 0 0) h.whole

-- the others are options and a payload
inner_body : (p : InnerParts) (bytes : List ℕ) → IsInner p bytes → IsBody p.options p.payload (drop 1 bytes)
inner_body p bytes h = record { spelled = h.spelled; spells = h.spells; whole = ap (λ (y : List ℕ). drop 1 y) h.whole }

-- parts that agree in each field
same_parts : (a b : ℕ) (xs ys : List Entry) (u v : List ℕ) → a ≡ b → xs ≡ ys → u ≡ v → ◌≡◌ {A = InnerParts} (record { code = a; options = xs; payload = u }) (record { code = b; options = ys; payload = v })
same_parts a b xs ys u v e f g = rw (e, f, g) refl

-- bytes are one plaintext at most
pub inner_one : (p q : InnerParts) (bytes : List ℕ) → IsInner p bytes → IsInner q bytes → p ≡ q
inner_one p q bytes h k =
    let body = body_one p.options q.options p.payload q.payload (drop 1 bytes) (inner_body p bytes h) (inner_body q bytes k) in
    same_parts p.code q.code p.options q.options p.payload q.payload (sym (inner_code p bytes h) ∙ inner_code q bytes k) body.0 body.1

-- a plaintext has no fault
pub inner_never_both : (p : InnerParts) (bytes : List ℕ) (f : Fault) (place : ℕ) → IsInner p bytes → HasInnerFault bytes f place → ⊥
inner_never_both p bytes DatagramTooLong place h k = let fits = h.fits in omega (arith, k.0)
inner_never_both p bytes Short place h k = omega (arith, k.0, ap length h.whole)
inner_never_both p bytes Nibble15 place h k = body_never_item _ _ _ Nibble15 k.1.0 (inner_body p bytes h) k.1.2
inner_never_both p bytes OptionCut place h k = body_never_item _ _ _ OptionCut k.1.0 (inner_body p bytes h) k.1.2
inner_never_both p bytes NumberTooLarge place h k = body_never_item _ _ _ NumberTooLarge k.1.0 (inner_body p bytes h) k.1.2
inner_never_both p bytes EmptyPayload place h k = body_never_item _ _ _ EmptyPayload k.1.0 (inner_body p bytes h) k.1.2
inner_never_both p bytes Version place h k = k
inner_never_both p bytes TokenLength place h k = k
inner_never_both p bytes EmptyWithRest place h k = k
inner_never_both p bytes TokenCut place h k = k

-- the fault of a length, where it has one
length_fault : List ℕ → Option (Fault × ℕ)
length_fault bytes = cond (ltb 65535 (length bytes)) (Some (DatagramTooLong, 65535)) (cond (ltb (length bytes) 1) (Some (Short, 0)) None)

-- an item's fault comes behind a code
fine_item : (bytes : List ℕ) (f : Fault) (place : ℕ) → HasCode bytes → HasFaultFrom 1 bytes f place → Divides (length_fault bytes) 1 bytes f place
unfolding length_fault
fine_item bytes f place h i =
    let t0 : ltb 65535 (length bytes) ≡ false = le-ltb _ _ h.fits in
    let t1 : ltb (length bytes) 1 ≡ false = le-ltb _ _ h.whole in
    inr (rw (t0, t1) refl, i)

-- each fault of a plaintext is its length's, or an item's
divides : (bytes : List ℕ) (f : Fault) (place : ℕ) → HasInnerFault bytes f place → Divides (length_fault bytes) 1 bytes f place
unfolding length_fault
divides bytes DatagramTooLong place h = let t0 : ltb 65535 (length bytes) ≡ true = lt-ltb _ _ h.0 in inl (rw (t0, h.1) refl)
divides bytes Short place h =
    let t0 : ltb 65535 (length bytes) ≡ false = let lt = h.0 in le-ltb _ _ (omega arith) in
    let t1 : ltb (length bytes) 1 ≡ true = lt-ltb _ _ h.0 in
    inl (rw (t0, t1, h.1) refl)
divides bytes Nibble15 place h = fine_item bytes Nibble15 place h.0 h.1
divides bytes OptionCut place h = fine_item bytes OptionCut place h.0 h.1
divides bytes NumberTooLarge place h = fine_item bytes NumberTooLarge place h.0 h.1
divides bytes EmptyPayload place h = fine_item bytes EmptyPayload place h.0 h.1
divides bytes Version place h = absurd h
divides bytes TokenLength place h = absurd h
divides bytes EmptyWithRest place h = absurd h
divides bytes TokenCut place h = absurd h

-- a plaintext's fault is one, at one place
pub inner_faults_one : (bytes : List ℕ) (f g : Fault) (place other : ℕ) → HasInnerFault bytes f place → HasInnerFault bytes g other → (f ≡ g) × (place ≡ other)
inner_faults_one bytes f g place other h k = divided_one (length_fault bytes) 1 bytes f g place other (divides bytes f place h) (divides bytes g other k)
