-- Whatever a body was asked to take, it holds the newest pieces that it took.
use Rattle.std.proofs.Common.{◌≡◌, ℕ, List, [], ◌∷◌, ◌++◌, Bool, true, false, refl, sym, ap, subst, ◌∙◌, append_assoc}
use Rattle.std.specs.Prelude.{◌==◌, if◌then◌else◌}
use Rattle.osc_blocks.specs.declared.body.Body.{Body}
use Rattle.osc_blocks.specs.InBlocks.{Piece}
use Rattle.osc_blocks.specs.Taking.{with_piece}
use Rattle.osc_blocks.specs.Views.{Holds, kept_of}
use Rattle.osc_blocks.specs.Laws.{Call, Took, Refused, taken_in, BecomesBy, HandsOverBodies}
use Rattle.osc_blocks.proofs.Grown.{whole_keeps}

-- a piece that was taken goes on the newest ones, or begins them anew
split_push : (begins : Bool) (taken older newest : List Piece) (p : Piece) → taken ≡ older ++ newest
    → (o : List Piece) × (taken ++ p ∷ [] ≡ o ++ (if begins then p ∷ [] else newest ++ p ∷ []))
split_push true taken older newest p e = (taken, refl)
split_push false taken older newest p e = (older, ap (λ (l : List Piece). l ++ p ∷ []) e ∙ append_assoc older newest (p ∷ []))

-- what a body holds after any calls
held_after : (most : ℕ) (first last : Body most) (calls : List Call) → Holds first [] → BecomesBy most first last calls
    → (older : List Piece) × (newest : List Piece) × (taken_in calls ≡ older ++ newest) × Holds last newest
held_after most first last [] h b = ([], [], refl, subst (λ (x : Body most). Holds x []) (sym b) h)
held_after most first last (Took p ∷ earlier) h b =
    let r = held_after most first b.0 earlier h b.1 in
    let s = split_push (p.block.number == 0) (taken_in earlier) r.0 r.1 p r.2 in
    (s.0, with_piece r.1 p, s.1, b.2 r.1 r.3)
held_after most first last (Refused p ∷ earlier) h b =
    let r = held_after most first b.0 earlier h b.1 in
    (r.0, r.1, r.2, subst (λ (x : Body most). Holds x r.1) (sym b.2) r.3)

-- the law of bodies
pub bodies_law : HandsOverBodies
bodies_law most first last calls bytes h b whole =
    let r = held_after most first last calls h b in
    let in_blocks = whole_keeps (kept_of last).stage (kept_of last).request (kept_of last).operation (kept_of last).bytes bytes r.1 r.3 whole in
    (r.0, r.1, (kept_of last).operation, r.2, in_blocks)
