use Rattle.std.proofs.Common.{◌≡◌, ◌<◌, sym, subst, arith, rules, length, map, take}
use Rattle.std.proofs.lemmas.Option.{slice_get-get_or}
use Rattle.osc_client.specs.Agrees.{TokensDiffer}
use Rattle.osc_client.specs.ClientAnswer.{IsAmong}
use Rattle.osc_handle.specs.PendingBytes.{asked_at}
use Rattle.osc_handle.proofs.PendingPlaces.{apart_more, each_read, in_front, met}
use Rattle.osc_handle.proofs.places.are_pending.Goals as goal

pub loop-index-init : goal.loop-index-init
loop-index-init c = ((λ i j d less within. absurd (omega (arith, within))), λ i b less there. absurd (omega (arith, less)))

pub returns-then-has_token-clause-no : goal.returns-then-has_token-clause-no
returns-then-has_token-clause-no c = λ _ whole.
    let within : c.loop-index.index < length c.args.places.now = search rules in
    met c.args.places.now c.args.count c.loop-index.index _ c.token.result.now c.loop-index-test.true
    (slice_get-get_or c.args.places.now c.loop-index.index _ within) (sym c.token.ensures) (c.has_token.ensures.yes c.if-has_token.true) whole.differ

pub loop-index-preserved : goal.loop-index-preserved
loop-index-preserved c =
    let (apart, each) = c.loop-index.invariant in
    let ps = c.args.places.now in
    let within : c.loop-index.index < length c.args.places.now = search rules in
    let there = slice_get-get_or ps c.loop-index.index _ within in (
      apart_more ps c.loop-index.index _ there apart
          (λ among. c.has_token.ensures.no c.if-has_token.false (subst (λ t. IsAmong t (map asked_at (take c.loop-index.index ps))) (sym c.token.ensures) among)),
      each_read ps c.loop-index.index _ there (c.is_whole.ensures.yes c.if-not-is_whole.false) each,
    )

pub returns-clause-yes : goal.returns-clause-yes
returns-clause-yes c = λ _.
    let (apart, each) = c.loop-index.invariant in
    let over = c.loop-index-test.false in
    let under = c.loop-index.auto.index-end in
    let same : c.loop-index.index ≡ c.args.count = omega (arith, over, under) in
    record {
      table = record {
        fits = c.if-count-places.false;
        each = λ i b there.
            let front = in_front c.args.places.now c.args.count i b there in
            let used : i < c.args.count = front.0 in
            each i b (omega (arith, over, used)) front.1;
      };
      differ = subst (λ n. TokensDiffer (map asked_at (take n c.args.places.now))) same apart;
    }
