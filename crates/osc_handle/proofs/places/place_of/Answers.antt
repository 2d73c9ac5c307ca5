use Rattle.std.proofs.Common.{◌≡◌, ◌≢◌, ◌∙◌, sym, rules}
use Rattle.osc_handle.proofs.PendingPlaces.{found_at, none_among, unlike_more}
use Rattle.osc_handle.proofs.places.place_of.Goals as goal

pub returns-then-eq-clause-found : goal.returns-then-eq-clause-found
returns-then-eq-clause-found c =
    let same : c.token.result.now ≡ c.args.token.now = search rules in
    found_at c.args.requests.now c.loop-place.place _ c.args.token.now c.loop-place-test.true (sym c.token.ensures ∙ same)

pub loop-place-preserved : goal.loop-place-preserved
loop-place-preserved c =
    let unlike : c.token.result.now ≢ c.args.token.now = search rules in
    unlike_more c.args.requests.now c.loop-place.place _ c.args.token.now c.loop-place-test.true (λ is. unlike (c.token.ensures ∙ is)) c.loop-place.invariant

pub returns-clause-none : goal.returns-clause-none
returns-clause-none c = none_among c.args.requests.now c.loop-place.place c.args.token.now c.loop-place-test.false c.loop-place.invariant
