-- A body that is cut into blocks is that body in blocks.
use Rattle.std.proofs.Common.{◌≡◌, ℕ, ◌+◌, ◌-◌, ◌*◌, ◌<◌, ◌≤◌, ◌⊎◌, inl, inr, List, [], ◌∷◌, ◌++◌, length, take, drop, min, Bool, true, false, refl, sym, ap, ap₂, subst, ◌∙◌, arith, length-append, length-take, length-drop, add-zero}
use Rattle.std.specs.Prelude.{nat_lt}
use Rattle.std.proofs.lemmas.Bool.Decides.{when_true, when_false, nat_tests}
use Rattle.std.proofs.lemmas.Grind.{common_steps}
use Rattle.std.proofs.lemmas.List.{append-nil, take_all, drop-drop, take-append-drop}
use Rattle.osc_blocks.specs.declared.block_size.BlockSize.{BlockSize}
use Rattle.osc_blocks.specs.BlockValue.{place_of, size_of}
use Rattle.osc_blocks.specs.InBlocks.{Piece, AreFront, AreIncreasing, IsInBlocks, joined}
use Rattle.osc_blocks.specs.Laws.{CutsIntoBlocks}
use Rattle.osc_blocks.specs.Cut.{IsCut, AreCut}
use Rattle.osc_blocks.proofs.Increasing.{above_increasing}

-- the place after a block
pub step_on : (n s : ℕ) → (n + 1) * s ≡ n * s + s
step_on n s = grind (arith, common_steps)

module _ (operation body : List ℕ) (size : BlockSize) (n : ℕ) (p : Piece) (cut : IsCut operation body size n p) where
  -- where a block that is cut begins
  pub cut_place : place_of p.block ≡ n * size_of size
  cut_place = ap₂ (λ (k : ℕ) (s : BlockSize). k * size_of s) cut.number_is cut.size_is

  -- what it carries
  pub cut_payload : p.payload ≡ take (size_of size) (drop (n * size_of size) body)
  cut_payload = cut.block_is.payload_is ∙ ap₂ (λ (s : BlockSize) (k : ℕ). take (size_of s) (drop k body)) cut.size_is cut_place

  -- whether more follow
  pub cut_more : p.block.more ≡ nat_lt (n * size_of size + size_of size) (length body)
  cut_more = cut.block_is.more_is ∙ ap₂ (λ (k : ℕ) (s : BlockSize). nat_lt (k + size_of s) (length body)) cut_place cut.size_is

  -- how long it is
  pub cut_length : length p.payload ≡ min (size_of size) (length body - n * size_of size)
  cut_length = ap length cut_payload ∙ (length-take (size_of size) (drop (n * size_of size) body) ∙ ap (λ (k : ℕ). min (size_of size) k) (length-drop (n * size_of size) body))

-- a block before others is full
pub full_cut : (operation body : List ℕ) (size : BlockSize) (n : ℕ) (p : Piece) → IsCut operation body size n p → p.block.more ≡ true
    → length p.payload ≡ size_of size
full_cut operation body size n p cut e =
    let long = cut_length operation body size n p cut in
    let test : nat_lt (n * size_of size + size_of size) (length body) ≡ true = sym (cut_more operation body size n p cut) ∙ e in
    let more : n * size_of size + size_of size < length body = grind (arith, nat_tests) in
    omega (arith, long, more)

-- the last block
last_cut : (operation body : List ℕ) (size : BlockSize) (n : ℕ) (p : Piece) (later : List Piece) → IsCut operation body size n p
    → AreIncreasing (p ∷ later) → p.block.more ≡ false → later ≡ [] → IsInBlocks operation (n * size_of size) (p ∷ later) (drop (n * size_of size) body)
last_cut operation body size n p later cut above e none =
    let place = cut_place operation body size n p cut in
    let long = cut_length operation body size n p cut in
    let test : nat_lt (n * size_of size + size_of size) (length body) ≡ false = sym (cut_more operation body size n p cut) ∙ e in
    let end : length body ≤ n * size_of size + size_of size = grind (arith, nat_tests) in
    let rest : length (drop (n * size_of size) body) ≤ size_of size = let l = length-drop (n * size_of size) body in omega (arith, l, end) in
    let all : p.payload ≡ drop (n * size_of size) body = cut_payload operation body size n p cut ∙ take_all (size_of size) (drop (n * size_of size) body) rest in
    let bytes : joined (p ∷ later) ≡ p.payload = ap (λ (l : List Piece). p.payload ++ joined l) none ∙ append-nil p.payload in
    let same : size_of p.block.size ≡ size_of size = ap size_of cut.size_is in
    record {
      front = [];
      last = p;
      pieces_are = ap (λ (l : List Piece). p ∷ l) none;
      in_order = tt;
      begins = record { operation_is = cut.operation_is; place_is = place ∙ sym (add-zero (n * size_of size)) };
      ends = record { last = e; within = omega (arith, long, same) };
      body_is = sym (bytes ∙ all);
      increasing = above;
    }

-- a block before others
more_cut : (operation body : List ℕ) (size : BlockSize) (n : ℕ) (p : Piece) (later : List Piece) → IsCut operation body size n p
    → AreIncreasing (p ∷ later) → p.block.more ≡ true → IsInBlocks operation ((n + 1) * size_of size) later (drop ((n + 1) * size_of size) body)
    → IsInBlocks operation (n * size_of size) (p ∷ later) (drop (n * size_of size) body)
more_cut operation body size n p later cut above e r =
    let place = cut_place operation body size n p cut in
    let full : length p.payload ≡ size_of size = full_cut operation body size n p cut e in
    let same : size_of p.block.size ≡ size_of size = ap size_of cut.size_is in
    let next : (n + 1) * size_of size ≡ n * size_of size + length p.payload = step_on n (size_of size) ∙ ap (λ (k : ℕ). n * size_of size + k) (sym full) in
    let joint = length-append p.payload (joined r.front) in
    let last : (n + 1) * size_of size + length (joined r.front) ≡ n * size_of size + length (p.payload ++ joined r.front) = omega (arith, next, joint) in
    let rest : drop (size_of size) (drop (n * size_of size) body) ≡ drop ((n + 1) * size_of size) body =
    drop-drop (size_of size) (n * size_of size) body ∙ ap (λ (k : ℕ). drop k body) (sym (step_on n (size_of size))) in
    let parts : take (size_of size) (drop (n * size_of size) body) ++ drop (size_of size) (drop (n * size_of size) body) ≡ drop (n * size_of size) body =
    take-append-drop (size_of size) (drop (n * size_of size) body) in
    let bytes : p.payload ++ joined later ≡ take (size_of size) (drop (n * size_of size) body) ++ drop (size_of size) (drop (n * size_of size) body) =
    ap₂ (λ (a b : List ℕ). a ++ b) (cut_payload operation body size n p cut) (sym r.body_is ∙ sym rest) in
    record {
      front = p ∷ r.front;
      last = r.last;
      pieces_are = ap (λ (l : List Piece). p ∷ l) r.pieces_are;
      in_order = (
        record { operation_is = cut.operation_is; place_is = place },
        record { more = e; full = full ∙ sym same },
        subst (λ (k : ℕ). AreFront operation k r.front) next r.in_order,
      );
      begins = record { operation_is = r.begins.operation_is; place_is = r.begins.place_is ∙ last };
      ends = r.ends;
      body_is = sym (bytes ∙ parts);
      increasing = above;
    }

pub either : (b : Bool) → (b ≡ true) ⊎ (b ≡ false)
either true = inl refl
either false = inr refl

-- the blocks of a body from one on
pub cut_in_blocks : (operation body : List ℕ) (size : BlockSize) (n : ℕ) (pieces : List Piece) → AreCut operation body size n pieces → AreIncreasing pieces
    → IsInBlocks operation (n * size_of size) pieces (drop (n * size_of size) body)
cut_in_blocks operation body size n [] cut above = absurd cut
cut_in_blocks operation body size n (p ∷ later) cut above =
    elim (either p.block.more) [
      | inl e ↦ more_cut operation body size n p later cut.0 above e
          (cut_in_blocks operation body size (n + 1) later (when_true _ _ e cut.1) (above_increasing p.request later above))
      | inr e ↦ last_cut operation body size n p later cut.0 above e (when_false _ _ e cut.1)
    ]

-- the law of cut bodies
pub cuts_law : CutsIntoBlocks
cuts_law operation body size pieces cut above =
    let zero_times : 0 * size_of size ≡ 0 = omega arith in
    subst (λ (k : ℕ). IsInBlocks operation k pieces (drop k body)) zero_times (cut_in_blocks operation body size 0 pieces cut above)
