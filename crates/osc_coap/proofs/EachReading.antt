-- Each byte list has a reading.
use Rattle.std.proofs.Common.{◌≡◌, ℕ, ◌+◌, ◌-◌, ◌*◌, ◌/◌, ◌%◌, ◌<◌, ◌≤◌, ◌⊎◌, List, [], ◌∷◌, ◌++◌, length, take, drop, Option, Some, None, refl, sym, ap, subst, ◌∙◌, arith, inl, inr}
use Rattle.std.proofs.lemmas.Bool.{cases_lt}
use Rattle.std.proofs.lemmas.List.{append-nil}
use Rattle.std.proofs.lemmas.Bool.Decides.{eqb_tells}
use Rattle.osc_coap.specs.declared.format_error.Fault.{Fault}
use Rattle.osc_coap.specs.declared.format_error.Fault.TheVariants.{DatagramTooLong, Short, Version, TokenLength, EmptyWithRest, TokenCut, EmptyPayload}
use Rattle.osc_coap.specs.declared.message.Kind.{Kind}
use Rattle.osc_coap.specs.declared.message.Kind.TheVariants.{Con, Non, Ack, Rst}
use Rattle.osc_coap.proofs.Walks.{EndsAt, walk_sound}
use Rattle.osc_coap.proofs.Texts.{text_ascends}
use Rattle.osc_coap.specs.Reading.{options_in, AreOptions}
use Rattle.osc_coap.proofs.Faults.{fault_behind_end, fault_behind_code}
use Rattle.osc_coap.proofs.Made.{datagram_made, inner_made}
use Rattle.osc_coap.specs.OptionSpelling.{Entry, Ascends, AreBytes, Spells, last_number}
use Rattle.osc_coap.specs.Inner.{InnerParts, IsInner}
use Rattle.osc_coap.specs.Fault.{HasItemFault, HasWholeHead, HasFault, HasCode, HasInnerFault}
use Rattle.osc_coap.specs.Ends.{IsBody}
use Rattle.osc_coap.specs.Datagram.{Parts, kind_number, IsDatagram}

-- bytes are options and a payload, or an item of them has a fault
abbrev pub BodyReads : List ℕ → Type 0
BodyReads bytes = ((options : List Entry) × (payload : List ℕ) × IsBody options payload bytes) ⊎ ((f : Fault) × (at : ℕ) × HasItemFault bytes f at)

-- how a walk ends decides which of the two
ends_reads : (options : List Entry) (text rest bytes : List ℕ) (o : Option Fault) → Spells 0 options text → bytes ≡ text ++ rest → EndsAt (last_number 0 options) rest o → BodyReads bytes
ends_reads options text [] bytes None s w e = inl (options, [], record { spelled = text; spells = s; whole = w })
ends_reads options text [] bytes (Some f) s w e = absurd e
ends_reads options text (b ∷ []) bytes None s w e = inr (EmptyPayload, length text, record { options = options; spelled = text; rest = b ∷ []; spells = s; whole = w; place_is = refl; faulty = (e, refl) })
ends_reads options text (b ∷ x ∷ rest) bytes None s w e = inl (options, x ∷ rest, record { spelled = text; spells = s; whole = w ∙ ap (λ (c : ℕ). text ++ (c ∷ x ∷ rest)) e })
ends_reads options text (b ∷ rest) bytes (Some f) s w e = inr (f, length text, record { options = options; spelled = text; rest = b ∷ rest; spells = s; whole = w; place_is = refl; faulty = e.1 })

-- so it holds of all bytes
pub body_reads : (bytes : List ℕ) → BodyReads bytes
body_reads bytes = let w = walk_sound (length bytes) 0 bytes (omega arith) in ends_reads _ w.text _ bytes _ w.spells w.whole w.ends

-- bytes are a datagram, or have a fault
abbrev pub Reads : List ℕ → Type 0
Reads bytes = ((p : Parts) × IsDatagram p bytes) ⊎ ((f : Fault) × (place : ℕ) × HasFault bytes f place)

-- two bits name a kind
kind_of : (n : ℕ) → n < 4 → (k : Kind) × (kind_number k ≡ n)
kind_of n lt = elim (eqb_tells n 0) [
  | inl a ↦ (Con, sym a.1)
  | inr a ↦ elim (eqb_tells n 1) [
    | inl b ↦ (Non, sym b.1)
    | inr b ↦ elim (eqb_tells n 2) [
      | inl c ↦ (Ack, sym c.1)
      | inr c ↦ let x = a.1 in let y = b.1 in let z = c.1 in (Rst, omega arith)
    ]
  ]
]

-- behind a fine head with a whole token
rest_reads : (a b c d : ℕ) (rest : List ℕ) → AreBytes (a ∷ b ∷ c ∷ d ∷ rest) → HasWholeHead (a ∷ b ∷ c ∷ d ∷ rest) → (b ≡ 0 → length rest ≡ 0) → a % 16 ≤ length rest → Reads (a ∷ b ∷ c ∷ d ∷ rest)
rest_reads a b c d rest small h empty long =
    let k = kind_of (a / 16 % 4) (omega arith) in
    let within : 4 + a % 16 ≤ length (a ∷ b ∷ c ∷ d ∷ rest) = omega arith in
    let alone : b ≡ 0 → length (a ∷ b ∷ c ∷ d ∷ rest) ≡ 4 = λ e. let n = empty e in omega arith in
    elim (body_reads (drop (4 + a % 16) (a ∷ b ∷ c ∷ d ∷ rest))) [
      | inl x ↦ inl (record { kind = k.0; code = b; message_id = 256 * c + d; token = take (a % 16) rest; options = x.0; payload = x.1 }, datagram_made _ (a ∷ b ∷ c ∷ d ∷ rest) (4 + a % 16) small h k.1 refl refl refl within (let e : 4 + a % 16 - 4 ≡ a % 16 = omega arith in rw e refl) alone x.2)
      | inr x ↦ inr (x.0, 4 + a % 16 + x.1, fault_behind_end (a ∷ b ∷ c ∷ d ∷ rest) (4 + a % 16) x.0 (4 + a % 16 + x.1) h refl within alone (x.1, refl, x.2))
    ]

-- behind a fine head
head_reads : (a b c d : ℕ) (rest : List ℕ) → AreBytes (a ∷ b ∷ c ∷ d ∷ rest) → HasWholeHead (a ∷ b ∷ c ∷ d ∷ rest) → Reads (a ∷ b ∷ c ∷ d ∷ rest)
head_reads a b c d rest small h =
    elim (eqb_tells b 0) [
      | inl e ↦ elim (eqb_tells (a % 16) 0) [
        | inl t ↦ elim (eqb_tells (length rest) 0) [
          | inl n ↦ let t1 = t.1 in rest_reads a b c d rest small h (λ _. n.1) (omega arith)
          | inr n ↦ let n1 = n.1 in inr (EmptyWithRest, 4, (h, e.1, inr (t.1, omega arith, refl)))
        ]
        | inr t ↦ inr (EmptyWithRest, 0, (h, e.1, inl (t.1, refl)))
      ]
      | inr e ↦ elim (cases_lt (length rest) (a % 16)) [
        | inl s ↦ inr (TokenCut, 4, (h, e.1, omega arith, refl))
        | inr l ↦ rest_reads a b c d rest small h (λ z. absurd (e.1 z)) l
      ]
    ]

-- each byte list is a datagram, or has a fault
pub reads : (bytes : List ℕ) → AreBytes bytes → Reads bytes
reads [] small = inr (Short, 0, (omega arith, refl))
reads (a ∷ []) small = inr (Short, 0, (omega arith, refl))
reads (a ∷ b ∷ []) small = inr (Short, 0, (omega arith, refl))
reads (a ∷ b ∷ c ∷ []) small = inr (Short, 0, (omega arith, refl))
reads (a ∷ b ∷ c ∷ d ∷ rest) small =
    elim (cases_lt 65535 (length (a ∷ b ∷ c ∷ d ∷ rest))) [
      | inl long ↦ inr (DatagramTooLong, 65535, (long, refl))
      | inr fits ↦ elim (eqb_tells (a / 64) 1) [
        | inl v ↦ elim (cases_lt 8 (a % 16)) [
          | inl t ↦ inr (TokenLength, 0, (omega arith, fits, v.1, t, refl))
          | inr t ↦ head_reads a b c d rest small (record { fits = fits; whole = omega arith; version = v.1; token_length = t })
        ]
        | inr v ↦ inr (Version, 0, (omega arith, fits, v.1, refl))
      ]
    ]

-- each byte list is a plaintext, or has a fault as one
pub inner_reads : (bytes : List ℕ) → AreBytes bytes → ((p : InnerParts) × IsInner p bytes) ⊎ ((f : Fault) × (place : ℕ) × HasInnerFault bytes f place)
inner_reads [] small = inr (Short, 0, (omega arith, refl))
inner_reads (a ∷ rest) small =
    elim (cases_lt 65535 (length (a ∷ rest))) [
      | inl long ↦ inr (DatagramTooLong, 65535, (long, refl))
      | inr fits ↦
          let whole : HasCode (a ∷ rest) = record { fits = fits; whole = omega arith } in
          elim (body_reads rest) [
            | inl x ↦ inl (record { code = a; options = x.0; payload = x.1 }, inner_made _ (a ∷ rest) small whole refl x.2)
            | inr x ↦ inr (x.0, 1 + x.1, fault_behind_code (a ∷ rest) x.0 (1 + x.1) whole (x.1, refl, x.2))
          ]
    ]

-- options that were read ascend
pub read_ascends : (d : ℕ) (bytes : List ℕ) → Ascends d (options_in d bytes)
read_ascends d bytes = text_ascends d (options_in d bytes) _ (walk_sound (length bytes) d bytes (omega arith)).spells

-- bytes spell the options that were read of them
pub read_spelled : (d : ℕ) (bytes : List ℕ) → AreOptions d bytes → (text : List ℕ) × AreBytes text × Spells d (options_in d bytes) text
read_spelled d bytes h =
    let w = walk_sound (length bytes) d bytes (omega arith) in
    let all : bytes ≡ w.text = w.whole ∙ ap (λ (z : List ℕ). w.text ++ z) h.spelling ∙ append-nil w.text in
    (w.text, subst AreBytes all h.are_bytes, w.spells)
