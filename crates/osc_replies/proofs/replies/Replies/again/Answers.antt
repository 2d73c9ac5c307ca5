use Rattle.std.proofs.Common.{refl, subst, sym}
use Rattle.osc_coap.specs.Datagram.{Parts}
use Rattle.osc_coap.specs.Views.{parts_of}
use Rattle.osc_replies.specs.Memory.{Asks, IsReply}
use Rattle.osc_replies.proofs.Asking.{asks_kept, one_asked}
use Rattle.osc_replies.proofs.replies.Replies.again.Goals as goal

pub returns-in_default-clause-unknown : goal.returns-in_default-clause-unknown
returns-in_default-clause-unknown g c = λ e p answer is r. c.one_datagram.ensures.never_both p _ _ _ is c.in_default.ensures.refused

pub returns-in_default-identity_of-clause-unknown : goal.returns-in_default-identity_of-clause-unknown
returns-in_default-identity_of-clause-unknown g c = λ e p answer is r.
    let same = c.one_datagram.ensures.one _ _ _ is c.in-Ok.ensures.accepted in
    c.in_default-identity_of.ensures.none r.kept.number r.kept.option r.kept.text (subst (λ (q : Parts). Asks q r.kept.number r.kept.option r.kept.text) same r.asks)

pub returns-in_default-find-clause-unknown : goal.returns-in_default-find-clause-unknown
returns-in_default-find-clause-unknown g c = λ e p answer is r.
    let same = c.one_datagram.ensures.one _ _ _ is c.in-Ok.ensures.accepted in
    let asked = subst (λ (q : Parts). Asks q r.kept.number r.kept.option r.kept.text) same r.asks in
    c.in_default-find.ensures.none r.kept r.among (one_asked c.one_head.ensures.request _ r.kept _ _ _ asked c.in-Some.ensures.asks, r.said, r.says)

pub write_under_new_head-requires : goal.write_under_new_head-requires
write_under_new_head-requires g c =
    let (k, among, (is, p, says), same) = c.in-Some-find.ensures.found in
    (p, subst (λ z. IsReply p z) (sym same) says)

pub returns-in-Some-write_under_new_head-clause-recalled : goal.returns-in-Some-write_under_new_head-clause-recalled
returns-in-Some-write_under_new_head-clause-recalled g c =
    let (k, among, (is, q, some), same) = c.in-Some-find.ensures.found in
    let (p, says, made) = c.in-Some-write_under_new_head.ensures.written in (
      parts_of c.in-Ok.message,
      c.in-Ok.ensures.accepted,
      _,
      record {
        kept = k;
        among = among;
        asks = asks_kept _ k _ _ _ is c.in-Some.ensures.asks;
        said = p;
        says = subst (λ z. IsReply p z) same says;
        is = refl;
      },
      made,
    )

pub returns-in-None-clause-no_room : goal.returns-in-None-clause-no_room
returns-in-None-clause-no_room g c = λ e.
    let (k, among, (is, q, some), same) = c.in-Some-find.ensures.found in
    let (p, says, full) = c.in-None.ensures.full in (
      parts_of c.in-Ok.message,
      c.in-Ok.ensures.accepted,
      _,
      record {
        kept = k;
        among = among;
        asks = asks_kept _ k _ _ _ is c.in-Some.ensures.asks;
        said = p;
        says = subst (λ z. IsReply p z) same says;
        is = refl;
      },
      full,
    )
