use Rattle.std.proofs.Common.{ℕ, List, IfOk, IfSome, subst, sym, Result, Option, Ok, Err}
use Rattle.std.specs.Result.{result_ok}
use Rattle.osc_text.specs.Hex.{SpellsBytes}
use Rattle.osc_text.specs.Opening.{OpenText}
use Rattle.osc_text.specs.declared.opening.Opening.TheVariants.{Request}
use Rattle.osc_examples.proofs.text.print_request.Goals as goal

-- What holds where there is an answer holds where its `ok` is Some.
some_of : {A E : Type 0} (P Q : A → Type 0) (answer : Result A E) → IfOk answer P → ((a : A) → P a → Q a) → IfSome (result_ok answer) Q
some_of P Q (Ok a) p more = more a p
some_of P Q (Err e) p more = tt

pub returns : goal.returns
returns g c =
    let told = c.open_text.ensures.told in
    subst (λ (answer : Option ℕ). IfSome answer (λ s. (datagram : List ℕ) × (lines : List (List ℕ)) × SpellsBytes c.args.word.now datagram × OpenText c.args.agreed Request datagram lines s))
    (sym c.ok.ensures.value)
    (some_of _ _ c.open_text.result (c.open_text.ensures.status told.0 told.1 told.2) (λ s same. (
      c.in-Ok.datagram.items,
      told.0,
      c.in-Ok.ensures.spelled,
      subst (λ (d : List ℕ). OpenText c.args.agreed Request d told.0 s) c.deref_mut.ensures.value (subst (λ (n : ℕ). OpenText c.args.agreed Request c.deref_mut.result.now told.0 n) (sym same) told.2),
    )))
