-- A body takes the blocks of a body that is cut.
use Rattle.std.proofs.Common.{◌≡◌, ℕ, zero, suc, ◌+◌, ◌*◌, ◌^◌, ◌<◌, ◌≤◌, List, [], ◌∷◌, ◌++◌, length, Bool, true, false, refl, sym, ap, subst, ◌∙◌, arith, length-append, add-zero, inl, inr}
use Rattle.std.specs.Prelude.{MatchBool, Some}
use Rattle.std.proofs.lemmas.Bool.Decides.{when_true, when_false}
use Rattle.osc_blocks.specs.declared.block_size.BlockSize.{BlockSize}
use Rattle.osc_blocks.specs.declared.body.Stage.{Stage}
use Rattle.osc_blocks.specs.declared.body.Stage.TheVariants.{Empty, Begun, Complete}
use Rattle.osc_blocks.specs.BlockValue.{size_of}
use Rattle.osc_blocks.specs.InBlocks.{Piece, IsFull, AreFront, AreIncreasing, IsInBlocks, joined, last_request}
use Rattle.osc_blocks.specs.Cut.{AreCut, HasBlock}
use Rattle.osc_blocks.specs.Taking.{Kept, Keeps, KeepsAt, whole_at}
use Rattle.osc_blocks.specs.Judging.{CanTake}
use Rattle.osc_blocks.specs.Laws.{GivesBackBodies, TakesCutBlocks}
use Rattle.osc_blocks.proofs.Cuts.{cuts_law, step_on, cut_place, cut_length, full_cut, either}
use Rattle.osc_blocks.proofs.Increasing.{increasing_split}
use Rattle.osc_blocks.proofs.NotRefused.{not_refused}

-- ---- the blocks before one

-- the blocks before one are full, and end where it begins
record Reached (operation body : List ℕ) (size : BlockSize) (n : ℕ) (earlier : List Piece) (piece : Piece) (later : List Piece) : Type 0 where
  front : AreFront operation (n * size_of size) earlier
  place : n * size_of size + length (joined earlier) ≡ (n + length earlier) * size_of size
  here : AreCut operation body size (n + length earlier) (piece ∷ later)

reached : (operation body : List ℕ) (size : BlockSize) (n : ℕ) (earlier : List Piece) (piece : Piece) (later : List Piece)
    → AreCut operation body size n (earlier ++ piece ∷ later) → Reached operation body size n earlier piece later
reached operation body size n [] piece later cut =
    record {
      front = tt;
      place = add-zero (n * size_of size) ∙ ap (λ (k : ℕ). k * size_of size) (sym (add-zero n));
      here = subst (λ (k : ℕ). AreCut operation body size k (piece ∷ later)) (sym (add-zero n)) cut;
    }
reached operation body size n (q ∷ rest) piece later cut = elim (either q.block.more) [
  | inl e ↦
      let r = reached operation body size (n + 1) rest piece later (when_true _ _ e cut.1) in
      let full = full_cut operation body size n q cut.0 e in
      let next : (n + 1) * size_of size ≡ n * size_of size + length q.payload = step_on n (size_of size) ∙ ap (λ (k : ℕ). n * size_of size + k) (sym full) in
      let count : (n + 1) + length rest ≡ n + suc (length rest) = omega arith in
      let joint = length-append q.payload (joined rest) in
      let place = r.place in
      let same : size_of q.block.size ≡ size_of size = ap size_of cut.0.size_is in
      let ends : n * size_of size + length (q.payload ++ joined rest) ≡ ((n + 1) + length rest) * size_of size = omega (arith, next, joint, place) in
      record {
        front = (
          record { operation_is = cut.0.operation_is; place_is = cut_place operation body size n q cut.0 },
          record { more = e; full = full ∙ sym same },
          subst (λ (k : ℕ). AreFront operation k rest) next r.front,
        );
        place = ends ∙ ap (λ (k : ℕ). k * size_of size) count;
        here = subst (λ (k : ℕ). AreCut operation body size k (piece ∷ later)) count r.here;
      }
  | inr e ↦
      let none = ap length (when_false _ _ e cut.1) in
      absurd (omega (arith, none, length-append rest (piece ∷ later)))
]

-- ---- what is kept of the blocks before one

front_last : (operation : List ℕ) (place : ℕ) (front : List Piece) (p : Piece) → AreFront operation place (front ++ p ∷ []) → IsFull p
front_last operation place [] p f = f.1
front_last operation place (q ∷ later) p f = front_last operation (place + length q.payload) later p f.2

one_operation : (a b : List ℕ) (m n : ℕ) (pieces : List Piece) → 0 < length pieces → AreFront a m pieces → AreFront b n pieces → a ≡ b
one_operation a b m n [] some f g = absurd (omega (arith, some))
one_operation a b m n (p ∷ later) some f g = sym f.0.operation_is ∙ g.0.operation_is

record IsBegun (stage : Stage) (last : ℕ) (operation kept bytes : List ℕ) (pieces : List Piece) : Type 0 where
  stage_is : stage ≡ Begun
  length_is : length (joined pieces) ≡ length bytes
  same : operation ≡ kept
  last_is : last ≡ last_request 0 pieces

begun : (stage : Stage) (last : ℕ) (operation kept bytes : List ℕ) (pieces : List Piece) → 0 < length pieces → AreFront operation 0 pieces
    → KeepsAt stage last kept bytes pieces → IsBegun stage last operation kept bytes pieces
begun Empty last operation kept bytes pieces some f k = let none = ap length k in absurd (omega (arith, some, none))
begun Begun last operation kept bytes pieces some f k =
    record { stage_is = refl; length_is = sym (ap length k.1); same = one_operation operation kept 0 0 pieces some f k.0; last_is = k.3 }
begun Complete last operation kept bytes pieces some f k =
    let full = front_last operation 0 k.front k.last (subst (λ (l : List Piece). AreFront operation 0 l) k.pieces_are f) in
    let more = full.more in
    let ends = k.ends.last in
    cc

-- ---- one block

right_by : (more : Bool) (n size : ℕ) → (more ≡ true → n ≡ size) → (more ≡ false → n ≤ size) → MatchBool more (n ≡ size) (n ≤ size)
right_by true n size full last = full refl
right_by false n size full last = last refl

next_number : (operation body : List ℕ) (size : BlockSize) (n : ℕ) (later : List Piece) → AreCut operation body size n later → n < 2 ^ 20
next_number operation body size n [] cut = absurd cut
next_number operation body size n (p ∷ later) cut = cut.0.has_block.0

-- where a block begins
begins_within : (body : List ℕ) (n : ℕ) (size : BlockSize) → HasBlock body n size → n * size_of size ≤ length body
begins_within body zero size has = let none : 0 * size_of size ≡ 0 = omega arith in omega (arith, none)
begins_within body (suc n) size has = let lt = has.1 (omega arith) in omega (arith, lt)

-- a body takes a block that is cut where it holds those before it
can_take_cut : (most : ℕ) (kept : Kept) (operation body : List ℕ) (size : BlockSize) (earlier : List Piece) (piece : Piece) (later : List Piece)
    → Reached operation body size 0 earlier piece later → AreIncreasing (earlier ++ piece ∷ later) → length operation ≤ 64 → length body ≤ most → Keeps kept earlier → CanTake most kept piece
can_take_cut most kept operation body size earlier piece later r above short room k =
    let cut = r.here.0 in
    let count : 0 + length earlier ≡ length earlier = omega arith in
    let number : piece.block.number ≡ length earlier = cut.number_is ∙ count in
    let place = cut_place operation body size (0 + length earlier) piece cut in
    let long = cut_length operation body size (0 + length earlier) piece cut in
    let same : size_of piece.block.size ≡ size_of size = ap size_of cut.size_is in
    let within = begins_within body (0 + length earlier) size cut.has_block in
    let zero_times : 0 * size_of size ≡ 0 = omega arith in
    let front = subst (λ (n : ℕ). AreFront operation n earlier) zero_times r.front in
    let ends = r.place in
    let is_begun : 0 < piece.block.number → IsBegun kept.stage kept.request operation kept.operation kept.bytes earlier =
    λ later. begun kept.stage kept.request operation kept.operation kept.bytes earlier (omega (arith, later, number)) front k in
    record {
      short = let e = ap length cut.operation_is in omega (arith, e, short);
      right_length = right_by piece.block.more (length piece.payload) (size_of piece.block.size)
          (λ e. full_cut operation body size (0 + length earlier) piece cut e ∙ sym same) (λ e. omega (arith, long, same));
      in_order = λ later. (
        (is_begun later).stage_is,
        let kept_length = (is_begun later).length_is in omega (arith, place, ends, zero_times, kept_length),
      );
      same_operation = λ later. cut.operation_is ∙ (is_begun later).same;
      newer = λ behind.
          let last = (is_begun behind).last_is in
          let lt = increasing_split earlier piece later (omega (arith, behind, number)) above in
          omega (arith, last, lt);
      has_room = record {
        room = omega (arith, place, long, within, room);
        next = λ e.
            let lt = next_number operation body size ((0 + length earlier) + 1) later (when_true _ _ e r.here.1) in
            omega (arith, number, lt);
      };
    }

-- the law of blocks that are cut and taken
pub taken_law : TakesCutBlocks
taken_law most kept operation body size earlier piece later cut above short room k =
    not_refused most kept piece (can_take_cut most kept operation body size earlier piece later (reached operation body size 0 earlier piece later cut) above short room k)

-- ---- all blocks

given_back : (stage : Stage) (last : ℕ) (ko kb operation body : List ℕ) (pieces : List Piece) → IsInBlocks operation 0 pieces body
    → KeepsAt stage last ko kb pieces → whole_at stage kb ≡ Some body
given_back Empty last ko kb operation body pieces r k =
    let none = ap length (sym k ∙ r.pieces_are) in
    absurd (omega (arith, none, length-append r.front (r.last ∷ [])))
given_back Begun last ko kb operation body pieces r k =
    let full = front_last ko 0 r.front r.last (subst (λ (l : List Piece). AreFront ko 0 l) r.pieces_are k.0) in
    let more = full.more in
    let ends = r.ends.last in
    cc
given_back Complete last ko kb operation body pieces r k = ap Some (k.body_is ∙ sym r.body_is)

keeps_increasing : (stage : Stage) (last : ℕ) (operation bytes : List ℕ) (pieces : List Piece) → KeepsAt stage last operation bytes pieces → AreIncreasing pieces
keeps_increasing Empty last operation bytes pieces k = subst AreIncreasing (sym k) tt
keeps_increasing Begun last operation bytes pieces k = k.2
keeps_increasing Complete last operation bytes pieces k = k.increasing

-- the law of bodies that are given back
pub given_law : GivesBackBodies
given_law kept operation body size pieces cut k =
    let above = keeps_increasing kept.stage kept.request kept.operation kept.bytes pieces k in
    given_back kept.stage kept.request kept.operation kept.bytes operation body pieces (cuts_law operation body size pieces cut above) k
