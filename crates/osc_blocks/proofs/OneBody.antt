-- Blocks that are joined are of one body, if the operation's are from the first of them on.
use Rattle.std.proofs.Common.{◌≡◌, ℕ, ◌+◌, ◌≤◌, List, [], ◌∷◌, ◌++◌, length, take, drop, refl, sym, ap, ap₂, subst, ◌∙◌, arith, length-append, length-drop, add-zero, append_assoc, false}
use Rattle.std.specs.Prelude.{nat_lt}
use Rattle.std.proofs.lemmas.Bool.Decides.{nat_tests}
use Rattle.std.proofs.lemmas.List.{take_all, drop-drop, take-append-drop}
use Rattle.osc_blocks.specs.BlockValue.{place_of, size_of}
use Rattle.osc_blocks.specs.InBlocks.{Piece, AreAbove, AreFront, BeginsAt, IsInBlocks, IsLast, joined}
use Rattle.osc_blocks.specs.Cut.{IsBlockOf}
use Rattle.osc_blocks.specs.Laws.{AreAmong, AreOfOneBody, AreOneBody, JoinedIsCut, taken_in}
use Rattle.osc_blocks.proofs.Grown.{joined_push}
use Rattle.osc_blocks.proofs.Histories.{bodies_law}

-- ---- blocks of one body are it

-- each piece is a block of this body
abbrev AreBlocks : List ℕ → List Piece → Type 0
AreBlocks body [] = Unit {0}
AreBlocks body (p ∷ later) = IsBlockOf body p.block p.payload × AreBlocks body later

blocks_front : (body : List ℕ) (front : List Piece) (p : Piece) → AreBlocks body (front ++ p ∷ []) → AreBlocks body front
blocks_front body [] p h = tt
blocks_front body (q ∷ later) p h = (h.0, blocks_front body later p h.1)

blocks_last : (body : List ℕ) (front : List Piece) (p : Piece) → AreBlocks body (front ++ p ∷ []) → IsBlockOf body p.block p.payload
blocks_last body [] p h = h.0
blocks_last body (q ∷ later) p h = blocks_last body later p h.1

-- what a block of a body carries, by its place
carries : (body : List ℕ) (place : ℕ) (p : Piece) → place_of p.block ≡ place → IsBlockOf body p.block p.payload
    → p.payload ≡ take (size_of p.block.size) (drop place body)
carries body place p e h = h.payload_is ∙ ap (λ (k : ℕ). take (size_of p.block.size) (drop k body)) e

-- full blocks and what is left are the body from their place on
front_is : (operation body : List ℕ) (place : ℕ) (front : List Piece) → AreFront operation place front → AreBlocks body front
    → joined front ++ drop (place + length (joined front)) body ≡ drop place body
front_is operation body place [] f h = ap (λ (k : ℕ). drop k body) (add-zero place)
front_is operation body place (p ∷ later) f h =
    let size : ℕ = size_of p.block.size in
    let rest = front_is operation body (place + length p.payload) later f.2 h.1 in
    let long = length-append p.payload (joined later) in
    let ends : place + length (p.payload ++ joined later) ≡ (place + length p.payload) + length (joined later) = omega (arith, long) in
    let full : length p.payload ≡ size = f.1.full in
    let next : drop (place + length p.payload) body ≡ drop size (drop place body) =
    ap (λ (k : ℕ). drop (place + k) body) full ∙ sym (drop-drop size place body) in
    append_assoc p.payload (joined later) (drop (place + length (p.payload ++ joined later)) body)
    ∙ ap (λ (k : ℕ). p.payload ++ (joined later ++ drop k body)) ends
    ∙ ap₂ (λ (a b : List ℕ). a ++ b) (carries body place p f.0.place_is h.0) (rest ∙ next)
    ∙ take-append-drop size (drop place body)

-- the last block is what is left
last_is : (operation body : List ℕ) (place : ℕ) (p : Piece) → BeginsAt operation place p → IsLast p → IsBlockOf body p.block p.payload
    → p.payload ≡ drop place body
last_is operation body place p begins ends h =
    let size : ℕ = size_of p.block.size in
    let test : nat_lt (place + size) (length body) ≡ false =
    ap (λ (k : ℕ). nat_lt (k + size) (length body)) (sym begins.place_is) ∙ (sym h.more_is ∙ ends.last) in
    let end : length body ≤ place + size = grind (arith, nat_tests) in
    let rest : length (drop place body) ≤ size = let l = length-drop place body in omega (arith, l, end) in
    carries body place p begins.place_is h ∙ take_all size (drop place body) rest

-- a body in blocks of one body is that body
is_body : (operation body bytes : List ℕ) (pieces : List Piece) → IsInBlocks operation 0 pieces bytes → AreBlocks body pieces → bytes ≡ body
is_body operation body bytes pieces r h =
    let blocks : AreBlocks body (r.front ++ r.last ∷ []) = subst (AreBlocks body) r.pieces_are h in
    r.body_is
    ∙ ap joined r.pieces_are
    ∙ sym (joined_push r.front r.last)
    ∙ ap (λ (k : List ℕ). joined r.front ++ k)
    (last_is operation body (0 + length (joined r.front)) r.last r.begins r.ends (blocks_last body r.front r.last blocks))
    ∙ front_is operation body 0 r.front r.in_order (blocks_front body r.front r.last blocks)

-- ---- the blocks that were taken are of one body

-- each piece is of this operation
abbrev AreOf : List ℕ → List Piece → Type 0
AreOf operation [] = Unit {0}
AreOf operation (p ∷ later) = (p.operation ≡ operation) × AreOf operation later

of_push : (operation : List ℕ) (place : ℕ) (front : List Piece) (p : Piece) → AreFront operation place front → p.operation ≡ operation
    → AreOf operation (front ++ p ∷ [])
of_push operation place [] p f e = (e, tt)
of_push operation place (q ∷ later) p f e = (f.0.operation_is, of_push operation (place + length q.payload) later p f.2 e)

-- so are the blocks of a body in blocks
of_one : (operation bytes : List ℕ) (pieces : List Piece) → IsInBlocks operation 0 pieces bytes → AreOf operation pieces
of_one operation bytes pieces r = subst (AreOf operation) (sym r.pieces_are) (of_push operation 0 r.front r.last r.in_order r.begins.operation_is)

among_newest : (sent older newest : List Piece) → AreAmong sent (older ++ newest) → AreAmong sent newest
among_newest sent [] newest h = h
among_newest sent (p ∷ later) newest h = among_newest sent later newest h.1

-- pieces above a number that isn't below the first one's
later_blocks : (sent : List Piece) (begins : Piece) (body : List ℕ) (n : ℕ) (pieces : List Piece) → AreOfOneBody sent begins body
    → begins.request ≤ n → AreAmong sent pieces → AreOf begins.operation pieces → AreAbove n pieces → AreBlocks body pieces
later_blocks sent begins body n [] one le among of above = tt
later_blocks sent begins body n (p ∷ later) one le among of above =
    let lt = above.0 in (
      one p among.0 of.0 (omega (arith, le, lt)),
      later_blocks sent begins body p.request later one (omega (arith, le, lt)) among.1 of.1 above.1,
    )

-- ---- the law

-- pieces in blocks have a first one
one_body : (sent taken older newest : List Piece) (operation bytes : List ℕ) → AreAmong sent taken → taken ≡ older ++ newest
    → IsInBlocks operation 0 newest bytes → AreOneBody sent taken bytes
one_body sent taken older [] operation bytes among e r =
    let none = ap length r.pieces_are in
    absurd (omega (arith, none, length-append r.front (r.last ∷ [])))
one_body sent taken older (begins ∷ later) operation bytes among e r =
    let of : AreOf operation (begins ∷ later) = of_one operation bytes (begins ∷ later) r in
    let own : IsInBlocks begins.operation 0 (begins ∷ later) bytes = subst (λ (o : List ℕ). IsInBlocks o 0 (begins ∷ later) bytes) (sym of.0) r in
    let here : AreAmong sent (begins ∷ later) = among_newest sent older (begins ∷ later) (subst (AreAmong sent) e among) in
    let rest : AreOf begins.operation (begins ∷ later) = of_one begins.operation bytes (begins ∷ later) own in (
      older,
      begins,
      later,
      e,
      own,
      λ body one. is_body begins.operation body bytes (begins ∷ later) own (
        one begins here.0 refl (omega arith),
        later_blocks sent begins body begins.request later one (omega arith) here.1 rest.1 own.increasing,
      ),
    )

-- the law of bodies that a client sent
pub one_body_law : JoinedIsCut
one_body_law most first last calls sent bytes h b among whole =
    let r = bodies_law most first last calls bytes h b whole in
    one_body sent (taken_in calls) r.0 r.1 r.2 bytes among r.3 r.4
