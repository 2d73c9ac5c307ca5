use Rattle.std.proofs.Common.{◌≡◌, ◌∙◌, length, refl, subst, sym, Some}
use Rattle.osc_coap.specs.Datagram.{Parts}
use Rattle.osc_coap.specs.Views.{parts_of}
use Rattle.osc_client.specs.ClientHistory as asked
use Rattle.osc_kept_ends.specs.PeerOwning.{own_in}
use Rattle.osc_kept_ends.specs.Peering.{AskStep}
use Rattle.osc_fresh.specs.Views.{heard_of}
use Rattle.osc_fresh.specs.WithEcho.{due, with_echo}
use Rattle.osc_fresh.proofs.Dues.{due_some, with_none, with_some}
use Rattle.osc_fresh.proofs.EchoAnswers.{has_echo_room, no_entry, none_some, other_error}
use Rattle.osc_fresh.proofs.EchoSides.{lacks_room}
use Rattle.osc_fresh.proofs.heard_echo.HeardEcho.request_with_echo.Goals as goal

-- ---- the message has an Echo option

pub returns-then-has_echo-clause-no_room : goal.returns-then-has_echo-clause-no_room
returns-then-has_echo-clause-no_room g c = (λ bad. absurd (other_error _ bad), λ lacks. absurd (c.has_echo.ensures.yes c.if-has_echo.true lacks.2))

pub returns-then-has_echo-clause-answered : goal.returns-then-has_echo-clause-answered
returns-then-has_echo-clause-answered g c = λ none. absurd (c.has_echo.ensures.yes c.if-has_echo.true none)

-- ---- no value is added

pub returns-in_default-clause-echoes : goal.returns-in_default-clause-echoes
returns-in_default-clause-echoes g c = λ value is. absurd (none_some _ value (c.has_echo.ensures.no c.if-has_echo.false) is)

pub returns-in_default-clause-no_room : goal.returns-in_default-clause-no_room
returns-in_default-clause-no_room g c = (λ bad. absurd (c.seal.ensures.no_room bad), λ lacks. absurd (none_some _ lacks.0 (sym c.in_default.ensures) lacks.1))

pub returns-in_default-clause-same : goal.returns-in_default-clause-same
returns-in_default-clause-same g c = λ bad. absurd (c.seal.ensures.no_room bad)

pub returns-in_default-clause-answered : goal.returns-in_default-clause-answered
returns-in_default-clause-answered g c = λ none worked entry is k behind.
    subst (λ (q : Parts). AskStep {N = g.row.N} k (asked.Request c.args.now q (length c.args.out.now)) entry (own_in c.args.peer.now.source) (own_in c.seal.new.peer.source) c.seal.new.peer.client)
    (sym (with_none (heard_of c.args.self.now) (parts_of c.args.plain.now) (sym c.in_default.ensures))) (c.seal.ensures.answered worked entry is k behind)

-- ---- there is no room for it

pub returns-in_default-write_with_echo-clause-echoes : goal.returns-in_default-write_with_echo-clause-echoes
returns-in_default-write_with_echo-clause-echoes g c = λ value is. absurd (none_some _ value (c.has_echo.ensures.no c.if-has_echo.false) is)

pub returns-in_default-write_with_echo-clause-no_room : goal.returns-in_default-write_with_echo-clause-no_room
returns-in_default-write_with_echo-clause-no_room g c =
    let p = parts_of c.args.plain.now in
    let some : due (heard_of c.args.self.now) p ≡ Some c.in-Some.value.now = sym c.in-Some.ensures in (
      λ bad. (
        c.in-Some.value.now,
        some,
        c.has_echo.ensures.no c.if-has_echo.false,
        lacks_room (length c.args.room.now) c.in-Some.value.now p _ (due_some (heard_of c.args.self.now) p c.in-Some.value.now some).0 c.in_default-write_with_echo.ensures.refused,
      ),
      λ lacks. refl,
    )

pub returns-in_default-write_with_echo-clause-answered : goal.returns-in_default-write_with_echo-clause-answered
returns-in_default-write_with_echo-clause-answered g c = λ none worked entry is. absurd (no_entry entry is)

-- ---- it is written

pub unreachable-requires : goal.unreachable-requires
unreachable-requires g c = c.one_datagram.ensures.never_both _ _ _ _ c.in-Ok.ensures.written c.in_default-parse.ensures.refused

pub returns-clause-echoes : goal.returns-clause-echoes
returns-clause-echoes g c = λ value is. absurd (none_some _ value (c.has_echo.ensures.no c.if-has_echo.false) is)

pub returns-clause-no_room : goal.returns-clause-no_room
returns-clause-no_room g c =
    let p = parts_of c.args.plain.now in
    let some : due (heard_of c.args.self.now) p ≡ Some c.in-Some.value.now = sym c.in-Some.ensures in
    (λ bad. absurd (c.seal-2.ensures.no_room bad), λ lacks. absurd (has_echo_room (heard_of c.args.self.now) p (length c.args.room.now) c.in-Some.value.now some (c.in-Ok.ensures.accepted refl) lacks))

pub returns-clause-same : goal.returns-clause-same
returns-clause-same g c = λ bad. absurd (c.seal-2.ensures.no_room bad)

pub returns-clause-answered : goal.returns-clause-answered
returns-clause-answered g c = λ none worked entry is k behind.
    let p = parts_of c.args.plain.now in
    let some : due (heard_of c.args.self.now) p ≡ Some c.in-Some.value.now = sym c.in-Some.ensures in
    let message : with_echo c.in-Some.value.now p ≡ parts_of c.in-Ok-parse.message = c.one_datagram.ensures.one _ _ _ c.in-Ok.ensures.written c.in-Ok-parse.ensures.accepted in
    subst (λ (q : Parts). AskStep {N = g.row.N} k (asked.Request c.args.now q (length c.args.out.now)) entry (own_in c.args.peer.now.source) (own_in c.seal-2.new.peer.source) c.seal-2.new.peer.client)
    (sym (with_some (heard_of c.args.self.now) p c.in-Some.value.now some ∙ message)) (c.seal-2.ensures.answered worked entry is k behind)
