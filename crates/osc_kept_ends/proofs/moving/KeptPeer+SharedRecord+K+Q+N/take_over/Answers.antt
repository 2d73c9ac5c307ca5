use Rattle.std.proofs.Common.{◌≡◌, ◌≤◌, ◌∙◌, sym, ap, subst, arith, refl}
use Rattle.osc_kept_ends.specs.Numbering.{upcoming}
use Rattle.osc_kept_ends.specs.PeerOwning.{own_in}
use Rattle.osc_kept_ends.specs.SharedOwning.{fingerprint_from, fingerprint_in, own_from, sender_in}
use Rattle.osc_kept_ends.proofs.SharedLemmas.{false_if, never_refused}
use Rattle.osc_kept_ends.proofs.moving.KeptPeer+SharedRecord+K+Q+N.take_over.Goals as goal

pub returns-in_default-clause-refused : goal.returns-in_default-clause-refused
returns-in_default-clause-refused g c = false_if _ c.in_default.ensures.there.1

pub returns-in_default-adopt-clause-carried : goal.returns-in_default-adopt-clause-carried
returns-in_default-adopt-clause-carried g c = λ ok. c.in_default-adopt.ensures.carried ok ∙ c.in-Some.ensures.given.0

pub returns-in_default-adopt-clause-rests : goal.returns-in_default-adopt-clause-rests
returns-in_default-adopt-clause-rests g c = λ ok. (c.in-Some.ensures.rests refl, c.release.ensures.none)

pub returns-in_default-adopt-clause-there : goal.returns-in_default-adopt-clause-there
returns-in_default-adopt-clause-there g c = λ ok. c.in_default-adopt.ensures.there ok

pub returns-in_default-adopt-clause-accepted : goal.returns-in_default-adopt-clause-accepted
returns-in_default-adopt-clause-accepted g c = λ ok.
    let a = c.in_default-adopt.ensures.accepted ok in
    let given = c.in-Some.ensures.given in
    record {
      same_key = a.same_key ∙ given.1;
      rests = a.rests;
      least = subst (λ n. upcoming (own_in c.args.self.now.source) ≤ n) (ap upcoming given.0) a.least;
    }

pub unreachable-requires : goal.unreachable-requires
unreachable-requires g c =
    let from = c.release.new.self.source in
    let back = c.in-Err.source in
    let given = c.in-Some.ensures.given in
    let same_source = c.in-Err.ensures.unchanged.0 in
    let next = upcoming (own_in c.args.from.now.source) in
    let mine : upcoming (own_in from) ≡ next = ap upcoming (c.in-Some.ensures.rests refl) in
    let theirs : upcoming (own_from back) ≡ next = ap (λ s. upcoming (own_from s)) same_source ∙ ap upcoming given.0 in
    never_refused (fingerprint_in from.keeper) (fingerprint_from back) (sender_in from.keeper) (upcoming (own_in from)) (upcoming (own_from back)) c.in_default-adopt-2.field-0.0
    (c.release.ensures.same.2 ∙ sym given.1 ∙ sym (ap fingerprint_from same_source)) c.release.ensures.none (omega (arith, mine, theirs)) c.in_default-adopt-2.ensures.refused
