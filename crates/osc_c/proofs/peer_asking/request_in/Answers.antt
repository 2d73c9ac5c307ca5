use Rattle.std.proofs.Common.{◌≡◌, Err, IfSome, ap, length, refl, subst}
use Rattle.osc_coap.specs.Views.{parts_of}
use Rattle.osc_context.specs.Reserving.{next_limit}
use Rattle.osc_client.specs.ClientHistory.{Request}
use Rattle.osc_client.specs.declared.client_outcome.RequestError.{RequestError}
use Rattle.osc_handle.proofs.NumberSteps.{no_error}
use Rattle.osc_handle.specs.PendingBytes.{entry_of_kept_request}
use Rattle.osc_handle.specs.declared.kept_refusal.KeptRequestRefusal.{KeptRequestRefusal}
use Rattle.osc_handle.specs.declared.kept_refusal.KeptRequestRefusal.TheVariants.{Refused, SaveFirst}
use Rattle.osc_peer_handle.specs.declared.peer_handle.PeerHandle.{PeerHandle}
use Rattle.osc_c.specs.PeerAskingCalls.{StepsAmong}
use Rattle.osc_c.specs.PeerAskingCalls.RefusesPeerAsking.{malformed, refused, save_first}
use Rattle.osc_c.specs.PeerCalls.{AsksToSave}
use Rattle.osc_status.specs.declared.refusal.Refusal.{Refusal}
use Rattle.osc_c.proofs.PeerServing.{apart}
use Rattle.osc_c.proofs.peer_asking.request_in.Goals as goal

pub returns-in-Err-clause-refused : goal.returns-in-Err-clause-refused
returns-in-Err-clause-refused c =
    malformed (c.if-not-is_whole.ensures.yes refl) (c.if-not-are_pending.ensures.yes refl) refl refl refl c.in-Err.error.fault c.in-Err.error.place c.in-Err.ensures.refused
    (ap (λ (r : Refusal). r.status) c.into-in-Err.ensures)
    (ap (λ (r : Refusal). r.detail) c.into-in-Err.ensures)

pub returns-in-Err-clause-save_first : goal.returns-in-Err-clause-save_first
returns-in-Err-clause-save_first c = λ q is whole pending wants most. let f = c.in-Err.ensures.accepts q is in absurd f

pub returns-in-Ok-request_among-clause-save_first : goal.returns-in-Ok-request_among-clause-save_first
returns-in-Ok-request_among-clause-save_first c = λ q is whole pending wants most. absurd (no_error (c.in-Ok-request_among.ensures.refuses whole wants))

pub returns-in-Err-SaveFirst-clause-refused : goal.returns-in-Err-SaveFirst-clause-refused
returns-in-Err-SaveFirst-clause-refused c =
    let is = c.in-Err-SaveFirst.field-0-is in
    let number = c.in-Err-SaveFirst.number in
    let first = c.in-Err-SaveFirst.ensures.refused number (ap (λ (r : KeptRequestRefusal). Err r) is) in
    let same = c.in-Err-SaveFirst.ensures.same (ap (λ (r : KeptRequestRefusal). entry_of_kept_request (Err r) c.request_among.new.out) is) in
    let asks = subst (λ (p : PeerHandle). AsksToSave p number p.received c.save_next.new.kept c.save_next.result.status) same.0 c.save_next.ensures.saves in
    save_first (c.if-not-is_whole.ensures.yes refl) (c.if-not-are_pending.ensures.yes refl) same.0 same.1 same.2 (parts_of c.in-Ok.message) c.in-Ok.ensures.accepted
    (subst (λ n. AsksToSave c.args.peer.now n c.args.peer.now.received c.save_next.new.kept c.save_next.result.status) first.0 asks) c.save_next.ensures.detail first.1

pub asking_refusal-requires : goal.asking_refusal-requires
asking_refusal-requires c = λ none.
    c.in-Err-Refused.ensures.no_keeper_failed (ap (λ (r : KeptRequestRefusal). Err r) (subst (λ (e : RequestError). c.in-Err-Refused.field-0 ≡ Refused e) none c.in-Err-Refused.field-0-is))

pub returns-in-Err-Refused-clause-refused : goal.returns-in-Err-Refused-clause-refused
returns-in-Err-Refused-clause-refused c =
    let is = c.in-Err-Refused.field-0-is in
    let q = parts_of c.in-Ok.message in
    refused (c.if-not-is_whole.ensures.yes refl) (c.if-not-are_pending.ensures.yes refl) q c.in-Ok.ensures.accepted c.in-Err-Refused.error c.asking_refusal.ensures
    (λ a old w.
    subst
    (λ (r : KeptRequestRefusal). IfSome (entry_of_kept_request (Err r) c.request_among.new.out)
    (λ entry. StepsAmong c.args.peer.now c.args.pending.now a (Request c.args.now q (length c.args.out.now)) entry old c.request_among.new.peer c.request_among.new.pending_count c.request_among.new.pending))
    is (c.in-Err-Refused.ensures.answered a old w))

pub returns-in-Err-Refused-clause-save_first : goal.returns-in-Err-Refused-clause-save_first
returns-in-Err-Refused-clause-save_first c = λ q is whole pending wants most.
    let e = c.in-Err-Refused.error in
    let number = next_limit c.args.peer.now.server.reserved in
    absurd (apart c.in-Err-Refused.field-0 (Refused e) (SaveFirst number) c.in-Err-Refused.field-0-is (λ f. let g : Refused e ≡ SaveFirst number = f in cc) (c.in-Err-Refused.ensures.refuses whole wants))
