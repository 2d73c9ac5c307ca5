-- What a body has come in, after one block more.
use Rattle.std.proofs.Common.{◌≡◌, ℕ, zero, suc, ◌+◌, ◌*◌, ◌<◌, ◌⊎◌, inl, inr, List, [], ◌∷◌, ◌++◌, length, take, Bool, true, false, refl, sym, ap, subst, ◌∙◌, arith, append_assoc, length-append, add-zero, zero-add}
use Rattle.std.specs.Prelude.{◌==◌, if◌then◌else◌, IsSomeAnd, Some}
use Rattle.std.proofs.lemmas.Bool.Decides.{when_true, when_false, nat_tests}
use Rattle.std.proofs.lemmas.List.{append-nil, take_all}
use Rattle.osc_blocks.specs.declared.body.Stage.{Stage}
use Rattle.osc_blocks.specs.declared.body.Stage.TheVariants.{Empty, Begun, Complete}
use Rattle.osc_blocks.specs.BlockValue.{place_of, size_of}
use Rattle.osc_blocks.specs.InBlocks.{Piece, BeginsAt, IsFull, AreFront, AreIncreasing, IsInBlocks, joined}
use Rattle.osc_blocks.specs.Taking.{Kept, Keeps, KeepsAt, kept_after, stage_after, whole_at, with_piece}
use Rattle.osc_blocks.specs.Judging.{CanTake, HasRightLength}
use Rattle.osc_blocks.proofs.Increasing.{increasing_push, last_push}

-- ---- one piece more

-- the payloads with one more
pub joined_push : (front : List Piece) (p : Piece) → joined front ++ p.payload ≡ joined (front ++ p ∷ [])
joined_push [] p = sym (append-nil p.payload)
joined_push (q ∷ later) p =
    append_assoc q.payload (joined later) p.payload ∙ ap (λ (bytes : List ℕ). q.payload ++ bytes) (joined_push later p)

-- a front with one full block more
pub front_push : (operation : List ℕ) (place : ℕ) (front : List Piece) (p : Piece) → AreFront operation place front
    → BeginsAt operation (place + length (joined front)) p → IsFull p → AreFront operation place (front ++ p ∷ [])
front_push operation place [] p f b full = (record { operation_is = b.operation_is; place_is = b.place_is ∙ add-zero place }, full, tt)
front_push operation place (q ∷ later) p f b full =
    let long = length-append q.payload (joined later) in
    let end : place + length (q.payload ++ joined later) ≡ (place + length q.payload) + length (joined later) = omega (arith, long) in
    (f.0, f.1, front_push operation (place + length q.payload) later p f.2 (record { operation_is = b.operation_is; place_is = b.place_is ∙ end }) full)

-- what is kept after a block that goes on this front
keeps_pushed : (operation : List ℕ) (front : List Piece) (p : Piece) (more : Bool) → p.block.more ≡ more → AreFront operation 0 front
    → BeginsAt operation (0 + length (joined front)) p → HasRightLength p.block (length p.payload) → AreIncreasing (front ++ p ∷ [])
    → KeepsAt (stage_after more) p.request operation (joined front ++ p.payload) (front ++ p ∷ [])
keeps_pushed operation front p true e f b right above = (
  front_push operation 0 front p f b (record { more = e; full = when_true _ _ e right }),
  joined_push front p,
  above,
  sym (last_push 0 front p),
)
keeps_pushed operation front p false e f b right above = record {
  front = front;
  last = p;
  pieces_are = refl;
  in_order = f;
  begins = b;
  ends = record { last = e; within = when_false _ _ e right };
  body_is = joined_push front p;
  increasing = above;
}

-- ---- what is kept after a block

moved : (stage : Stage) (last : ℕ) (operation a b : List ℕ) (xs ys : List Piece) → a ≡ b → xs ≡ ys
    → KeepsAt stage last operation a xs → KeepsAt stage last operation b ys
moved stage last operation a b xs ys e f k =
    subst (λ (zs : List Piece). KeepsAt stage last operation b zs) f (subst (λ (bytes : List ℕ). KeepsAt stage last operation bytes xs) e k)

is_zero : (n : ℕ) → n ≡ 0 → (n == 0) ≡ true
is_zero n e = grind (arith, nat_tests)

not_zero : (n : ℕ) → 0 < n → (n == 0) ≡ false
not_zero n lt = grind (arith, nat_tests)

-- a block that was taken goes on the pieces
pub keeps_after : (most : ℕ) (kept : Kept) (p : Piece) (pieces : List Piece) → CanTake most kept p → Keeps kept pieces
    → Keeps (kept_after kept p) (with_piece pieces p)
keeps_after most kept p pieces can k = elim (zero_or p.block.number) [
  | inl first ↦
      let place : place_of p.block ≡ 0 = ap (λ (n : ℕ). n * size_of p.block.size) first ∙ zero_times (size_of p.block.size) in
      let test : (p.block.number == 0) ≡ true = is_zero p.block.number first in
      moved (stage_after p.block.more) p.request p.operation ([] ++ p.payload) (take (place_of p.block) kept.bytes ++ p.payload) ([] ++ p ∷ []) (with_piece pieces p)
      (ap (λ (n : ℕ). take n kept.bytes ++ p.payload) (sym place)) (ap (λ (b : Bool). if b then p ∷ [] else pieces ++ p ∷ []) (sym test))
      (keeps_pushed p.operation [] p p.block.more refl tt (record { operation_is = refl; place_is = place }) can.right_length tt)
  | inr later ↦
      let order = can.in_order later in
      let same : p.operation ≡ kept.operation = can.same_operation later in
      let begun : KeepsAt Begun kept.request kept.operation kept.bytes pieces = subst (λ (s : Stage). KeepsAt s kept.request kept.operation kept.bytes pieces) order.0 k in
      let newer = can.newer later in
      let last = begun.3 in
      let front : AreFront p.operation 0 pieces = subst (λ (o : List ℕ). AreFront o 0 pieces) (sym same) begun.0 in
      let size : length kept.bytes ≡ length (joined pieces) = ap length begun.1 in
      let place : place_of p.block ≡ length kept.bytes = order.1 in
      let bytes : joined pieces ≡ take (place_of p.block) kept.bytes = sym (take_all (place_of p.block) kept.bytes (omega (arith, place)) ∙ begun.1) in
      let test : (p.block.number == 0) ≡ false = not_zero p.block.number later in
      moved (stage_after p.block.more) p.request p.operation (joined pieces ++ p.payload) (take (place_of p.block) kept.bytes ++ p.payload) (pieces ++ p ∷ []) (with_piece pieces p)
      (ap (λ (b : List ℕ). b ++ p.payload) bytes) (ap (λ (b : Bool). if b then p ∷ [] else pieces ++ p ∷ []) (sym test))
      (keeps_pushed p.operation pieces p p.block.more refl front (record { operation_is = refl; place_is = place ∙ (size ∙ sym (zero-add (length (joined pieces)))) }) can.right_length
      (increasing_push pieces p begun.2 (omega (arith, newer, last))))
]
  where
    zero_or : (n : ℕ) → (n ≡ 0) ⊎ (0 < n)
    zero_or zero = inl refl
    zero_or (suc n) = inr (omega arith)

    zero_times : (s : ℕ) → 0 * s ≡ 0
    zero_times s = omega arith

-- so does what is kept then, if it is just this
pub keeps_new : (most : ℕ) (old new : Kept) (p : Piece) → new ≡ kept_after old p → CanTake most old p
    → (pieces : List Piece) → Keeps old pieces → Keeps new (with_piece pieces p)
keeps_new most old new p is can pieces k =
    subst (λ (after : Kept). Keeps after (with_piece pieces p)) (sym is) (keeps_after most old p pieces can k)

-- ---- a whole body

-- a body is whole after its last block
pub whole_after : (old new : Kept) (p : Piece) (pieces : List Piece) → new ≡ kept_after old p → p.block.more ≡ false
    → Keeps new (with_piece pieces p) → IsSomeAnd (whole_at new.stage new.bytes) (IsInBlocks p.operation 0 (with_piece pieces p))
whole_after old new p pieces is last k =
    subst (λ (after : Kept). IsSomeAnd (whole_at after.stage after.bytes) (IsInBlocks p.operation 0 (with_piece pieces p))) (sym is)
    (after_last p.block.more last (subst (λ (after : Kept). Keeps after (with_piece pieces p)) is k))
  where
    after_last : (more : Bool) → more ≡ false → KeepsAt (stage_after more) p.request p.operation (kept_after old p).bytes (with_piece pieces p)
        → IsSomeAnd (whole_at (stage_after more) (kept_after old p).bytes) (IsInBlocks p.operation 0 (with_piece pieces p))
    after_last true e k = cc
    after_last false e k = k

-- bytes of a body that is complete are that body in its pieces
pub whole_keeps : (stage : Stage) (last : ℕ) (operation kept bytes : List ℕ) (pieces : List Piece) → KeepsAt stage last operation kept pieces
    → whole_at stage kept ≡ Some bytes → IsInBlocks operation 0 pieces bytes
whole_keeps Empty last operation kept bytes pieces k e = cc
whole_keeps Begun last operation kept bytes pieces k e = cc
whole_keeps Complete last operation kept bytes pieces k e =
    let same : kept ≡ bytes = cc in
    subst (λ (b : List ℕ). IsInBlocks operation 0 pieces b) same k
