use Rattle.std.proofs.Common.{◌∙◌, ap, sym, subst, refl, rules, bytes_eq, not}
use Rattle.std.specs.Prelude.{Contains}
use Rattle.std.proofs.lemmas.Option.{slice_get_within}
use Rattle.osc_client.specs.Agrees.{TokensDiffer}
use Rattle.osc_client.specs.ClientAnswer.{IsAmong}
use Rattle.osc_client.specs.ClientHistory.{clock, pending, without}
use Rattle.osc_client.proofs.Asking.{contains_at, differ_filter, differ_removed, ended, removed, untouched}
use Rattle.osc_client.proofs.waiting.forget_in.Goals as goal

pub returns-in-Some-clause-answered : goal.returns-in-Some-clause-answered
returns-in-Some-clause-answered g c = λ n k h a.
    let (r, at, token, number, wait) = c.in-Some.ensures.found in
    let has = subst (λ xs. Contains xs r) a.table (contains_at _ _ r at) in
    (λ e. (r, has, token), λ among. refl)

pub returns-in-None-clause-answered : goal.returns-in-None-clause-answered
returns-in-None-clause-answered g c = λ n k h a.
    let none = subst (λ xs. IsAmong c.args.token.now xs → ⊥) a.table c.in-None.ensures.none in
    (λ e. absurd (let f = e in cc), λ among. absurd (none among))

pub returns-in-Some-clause-follows : goal.returns-in-Some-clause-follows
returns-in-Some-clause-follows g c = λ k h a.
    let (r, at, token, number, wait) = c.in-Some.ensures.found in
    let left = removed _ c.in-Some.found.place r c.args.token.now (subst TokensDiffer (sym a.table) a.differ) at token in
    record {
      context_is = a.context_is;
      life_is = a.life_is;
      clock_is = a.clock_is;
      next_is = a.next_is;
      apart_is = a.apart_is;
      table = c.take_out.ensures.requests ∙ left ∙ ap (without c.args.token.now) a.table ∙ ended h (clock h) c.args.token.now;
      differ = subst TokensDiffer (ended h (clock h) c.args.token.now) (differ_filter (λ q. not (bytes_eq q.token c.args.token.now)) (pending h) a.differ);
    }

pub returns-in-None-clause-follows : goal.returns-in-None-clause-follows
returns-in-None-clause-follows g c = λ k h a.
    let none = subst (λ xs. IsAmong c.args.token.now xs → ⊥) a.table c.in-None.ensures.none in
    record {
      context_is = a.context_is;
      life_is = a.life_is;
      clock_is = a.clock_is;
      next_is = a.next_is;
      apart_is = a.apart_is;
      table = a.table ∙ sym (untouched (pending h) c.args.token.now none) ∙ ended h (clock h) c.args.token.now;
      differ = subst TokensDiffer (ended h (clock h) c.args.token.now) (differ_filter (λ q. not (bytes_eq q.token c.args.token.now)) (pending h) a.differ);
    }

pub returns-in-Some-clause-apart : goal.returns-in-Some-clause-apart
returns-in-Some-clause-apart g c = λ d.
    let (r, at, token, number, wait) = c.in-Some.ensures.found in
    differ_removed _ _ _ c.take_out.ensures.requests (slice_get_within _ _ r at) d

pub take_out-requires : goal.take_out-requires
take_out-requires g c = let (r, at, token, number, wait) = c.in-Some.ensures.found in record { table = search rules; within = slice_get_within _ _ r at }
