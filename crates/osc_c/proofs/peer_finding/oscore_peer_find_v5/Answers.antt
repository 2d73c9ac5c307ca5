use Rattle.std.proofs.Common.{ap, refl, subst, sym}
use Rattle.osc_context.specs.Views.{number_of}
use Rattle.osc_protect.specs.Head.{Head}
use Rattle.osc_protect.specs.Views.{seen_head}
use Rattle.osc_c.proofs.PeerFinding.{answers_at, names_at}
use Rattle.osc_c.specs.PeerFinding.{HoldsAt, named_by}
use Rattle.osc_c.specs.PeerFinding.RefusesFinding.{no_context, no_head}
use Rattle.osc_status.specs.declared.refusal.Refusal.{Refusal}
use Rattle.osc_status.specs.declared.status.Status.TheVariants.{NoContext}
use Rattle.osc_c.proofs.peer_finding.oscore_peer_find_v5.Goals as goal

pub returns-in-Err-clause-accepts : goal.returns-in-Err-clause-accepts
returns-in-Err-clause-accepts c = λ h i n has held. let f = c.in-Err.ensures.accepts h has in absurd f

pub returns-in-Err-clause-refused : goal.returns-in-Err-clause-refused
returns-in-Err-clause-refused c = λ _. (
  c.from-refusal.result.status,
  c.code.ensures,
  no_head c.in-Err.error c.in-Err.ensures.refused (ap (λ (r : Refusal). r.status) c.from-refusal.ensures) (ap (λ (r : Refusal). r.detail) c.from-refusal.ensures),
)

pub returns-in-Some-clause-found : goal.returns-in-Some-clause-found
returns-in-Some-clause-found c = λ _.
    let ps = c.args.peers.now in
    let head = c.in-Ok.head in
    let found = c.in-Some.ensures.found in
    (seen_head head, c.in-Ok.ensures.head, number_of head.number, (names_at ps head c.in-Some.place found.0, λ j less held. found.1 j less (answers_at ps head j (number_of head.number) held)))

pub returns-in-None-clause-accepts : goal.returns-in-None-clause-accepts
returns-in-None-clause-accepts c = λ h i n has held.
    let ps = c.args.peers.now in
    let head = c.in-Ok.head in
    let same = c.in-Ok.ensures.accepts h has in
    absurd (c.in-None.ensures.none i (answers_at ps head i n (subst (λ (x : Head). HoldsAt ps i (named_by x n)) (sym same) held)))

pub returns-in-None-clause-refused : goal.returns-in-None-clause-refused
returns-in-None-clause-refused c = λ _.
    (NoContext, c.code-in-None.ensures, no_context (seen_head c.in-Ok.head) c.in-Ok.ensures.head (λ i n held. c.in-None.ensures.none i (answers_at c.args.peers.now c.in-Ok.head i n held)) refl refl)
