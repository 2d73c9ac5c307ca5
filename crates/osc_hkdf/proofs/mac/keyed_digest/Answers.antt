use Rattle.std.proofs.Common.{ℕ, List, [], ◌++◌, append-nil, ap, arith, subst, sym, ◌∙◌}
use Rattle.std.proofs.lemmas.List.{take_all}
use Rattle.std.specs.List.{flat_map}
use Rattle.sha2.specs.Hashers.{Holds256}
use Rattle.sha2.specs.Sha256.{sha256}
use Rattle.osc_hkdf.proofs.Pieces.{parts_more}
use Rattle.osc_hkdf.proofs.mac.keyed_digest.Goals as goal

pub loop-part-init : goal.loop-part-init
loop-part-init c =
    let P : List ℕ → Type 0 = λ m. Holds256 c.update.new.self m in
    subst P (c.as_slice.ensures ∙ sym (append-nil c.args.key.now)) (c.update.ensures [] c.new-hasher.ensures)

pub loop-part-preserved : goal.loop-part-preserved
loop-part-preserved c =
    let P : List ℕ → Type 0 = λ m. Holds256 c.update-in-loop-part.new.self m in
    subst P (parts_more c.args.key.now c.args.parts.now c.loop-part.part-index _ c.loop-part-test.true)
    (c.update-in-loop-part.ensures _ c.loop-part.invariant)

pub returns : goal.returns
returns c =
    c.finalize.ensures _ c.loop-part.invariant
    ∙ ap (λ parts. sha256 (c.args.key.now ++ flat_map (λ part. part.now) parts)) (take_all c.loop-part.part-index c.args.parts.now (omega arith))
