-- So much room is enough: a sealing isn't refused for want of it. c are the bytes of a context, p those of a peer before a call, new those afterwards, t those of a
-- ticket, plain is the datagram of a plain message, room the length of the buffer.
use Rattle.std.proofs.Common.{◌≡◌, ◌∙◌, ℕ, ◌+◌, ◌≤◌, Bool, true, false, List, Option, IfSome, zero, suc, inl, inr, length, ap, refl, sym, subst, arith, length-take}
use Rattle.osc_coap.specs.Datagram.{Parts, IsDatagram}
use Rattle.osc_coap.specs.declared.format_error.Fault.{Fault}
use Rattle.osc_context.specs.SecurityContext.{SecurityContext}
use Rattle.osc_protect.specs.Protection.{Protection, requests, responses}
use Rattle.osc_protect.specs.SealRefusals.{RefusesToSeal}
use Rattle.osc_protect.specs.declared.protect_error.ProtectError.TheVariants as seals
use Rattle.osc_room.specs.Laws.{RequestsHaveRoom, ResponsesHaveRoom}
use Rattle.osc_room.specs.Room.{HasRoomFor, IdentifiersFit}
use Rattle.osc_client.specs.ClientHistory as client
use Rattle.osc_client.specs.declared.client_outcome.RequestError.{RequestError}
use Rattle.osc_client.specs.declared.client_outcome.RequestError.TheVariants as asks
use Rattle.osc_life.specs.Replies.{reply_id, reply_kind}
use Rattle.osc_life.specs.LifeAnswer.{asks_own}
use Rattle.osc_life.specs.ServerHistory as server
use Rattle.osc_life.specs.declared.server_error.ReplyError.{ReplyError}
use Rattle.osc_life.specs.declared.server_error.ReplyError.TheVariants as replies
use Rattle.osc_context_handle.specs.ContextBytes.{IsContext, client_in, id_context_in}
use Rattle.osc_context_handle.specs.declared.context_handle.ContextHandle.{ContextHandle}
use Rattle.osc_handle.specs.TicketBytes.{IsTicket, ticket_in}
use Rattle.osc_handle.specs.declared.pending_handle.PendingHandle.{PendingHandle}
use Rattle.osc_handle.specs.declared.ticket_handle.TicketHandle.{TicketHandle}
use Rattle.osc_kept_ends.specs.Numbering.{Own}
use Rattle.osc_peer_handle.specs.PeerBytes.{IsPeer, IsTicketOf, ServesBehind, StepsAnswering, inside_of}
use Rattle.osc_peer_handle.specs.declared.peer_handle.PeerHandle.{PeerHandle}
use Rattle.osc_peer_handle.specs.declared.record_handle.RecordHandle.{RecordHandle}
use Rattle.osc_c.specs.Answering.{IsReplyStatus}
use Rattle.osc_c.specs.Asking.{IsAskingStatus}
use Rattle.osc_c.specs.Calls.{RefusesSealing}
use Rattle.osc_c.specs.Calls.RefusesSealing.{bad_handle, bad_number, malformed, refused}
use Rattle.osc_c.specs.PeerAskingCalls.{AsksAmong, RefusesPeerAsking, StepsAmong}
use Rattle.osc_c.specs.PeerAskingCalls.RefusesPeerAsking.{bad_handle as ask_handle, malformed as ask_malformed, save_first as ask_first, refused as ask_refused}
use Rattle.osc_c.specs.PeerCalls.{AsksToSave, RefusesPeerNotifying, RefusesPeerReplying}
use Rattle.osc_c.specs.PeerCalls.RefusesPeerNotifying.{bad_handle as notify_handle, malformed as notify_malformed, save_first as notify_first, refused as notify_refused}
use Rattle.osc_c.specs.PeerCalls.RefusesPeerReplying.{bad_handle as reply_handle, malformed as reply_malformed, save_first as reply_first, spent as reply_spent, refused as reply_refused}
use Rattle.osc_status.specs.Statuses.{code, format_status}
use Rattle.osc_status.specs.declared.status.Status.{Status}
use Rattle.osc_status.specs.declared.status.Status.TheVariants.{StaleTicket}

-- ---- what the room says

-- the identifiers in a context's bytes have lengths that a context's have
identifiers_fit : (c : ContextHandle) → IsContext c → IdentifiersFit (client_in c)
identifiers_fit c whole = record {
  kid = let few = whole.sender_fits in omega (arith, length-take c.sender_len c.sender, few);
  id_context = fits c.id_context c.id_context_len whole.id_context_fits;
}
  where
    fits : (bytes : List ℕ) (k : ℕ) → k ≤ 32 → IfSome (id_context_in bytes k) (λ id. length id ≤ 32)
    fits bytes zero le = tt
    fits bytes (suc k) le = omega (arith, le, length-take (suc k) bytes)

-- what has room with Observe has it in any case
any_room : (allowed : Bool) (plain : List ℕ) (room : ℕ) → HasRoomFor true plain room → HasRoomFor allowed plain room
any_room true plain room enough = enough
any_room false plain room enough = omega (arith, enough)

-- ---- the numbers of statuses

-- no fault of a datagram has the number of a want of room
fault_code : (fault : Fault) → code (format_status fault) ≤ 19
fault_code fault = grind arith

-- a single message isn't refused so where its protection isn't
sealing_room : {I : Type 0} (A B : Type 0) (f : Protection I) (i : I) (plain : List ℕ) (room : ℕ) (status : Status) (detail : ℕ) → (A → (p : Parts) → IsDatagram p plain → RefusesToSeal f i p room seals.NoRoom → ⊥)
    → RefusesSealing A B f i plain room status detail → code status ≡ 44 → ⊥
sealing_room A B f i plain room status detail enough (bad_handle bad is at) says = let number = ap code is in omega (arith, number, says)
sealing_room A B f i plain room status detail enough (bad_number a bad is at) says = let number = ap code is in omega (arith, number, says)
sealing_room A B f i plain room status detail enough (malformed a b fault place has is at) says = let number = ap code is in let small = fault_code fault in omega (arith, number, small, says)
sealing_room A B f i plain room status detail enough (refused a b p of seals.NoRoom refuses is at) says = enough a p of refuses
sealing_room A B f i plain room status detail enough (refused a b p of e refuses is at) says = grind (arith, is, says)

-- a request of a context has enough
pub request_has_room : RequestsHaveRoom → (B : Type 0) (c : ContextHandle) (n : ℕ) (plain : List ℕ) (room : ℕ) (status : Status) (detail : ℕ)
    → RefusesSealing (IsContext c) B (requests (client_in c)) n plain room status detail → HasRoomFor (client_in c).features.observe plain room → code status ≡ 44 → ⊥
request_has_room law B c n plain room status detail refuses enough =
    sealing_room (IsContext c) B (requests (client_in c)) n plain room status detail (λ whole p of. law (client_in c) n p plain room (identifiers_fit c whole) of enough) refuses

-- a response too
pub response_has_room : ResponsesHaveRoom → (A B : Type 0) (s : SecurityContext) (asked : ℕ) (own : Option ℕ) (plain : List ℕ) (room : ℕ) (status : Status) (detail : ℕ)
    → RefusesSealing A B (responses s asked) own plain room status detail → length plain + 60 ≤ room → code status ≡ 44 → ⊥
response_has_room law A B s asked own plain room status detail refuses enough =
    sealing_room A B (responses s asked) own plain room status detail (λ a p of. law s false asked own p p.kind p.message_id p.token plain room of of.token (omega (arith, enough))) refuses

-- no refusal to reply or to notify but one has the number of a want of room
reply_code : (e : ReplyError) (status : Status) (detail : ℕ) → IsReplyStatus e status detail → code status ≡ 44 → e ≡ replies.NoRoom
reply_code replies.NoRoom status detail is says = refl
reply_code e status detail is says = grind (arith, is, says)

-- nor a refusal to ask
request_code : (e : RequestError) (status : Status) (detail : ℕ) → IsAskingStatus e status detail → code status ≡ 44 → e ≡ asks.NoRoom
request_code asks.NoRoom status detail is says = refl
request_code e status detail is says = grind (arith, is, says)

-- nor does a record that has to be saved first
save_code : (p : PeerHandle) (sender received : ℕ) (kept : RecordHandle) (status : Status) → AsksToSave p sender received kept status → code status ≡ 44 → ⊥
save_code p sender received kept status (inl wants) says = let number = ap code wants.0 in omega (arith, number, says)
save_code p sender received kept status (inr wants) says = let number = ap code wants.0 in omega (arith, number, says)

-- ---- a peer has enough

-- for a reply; a ticket that isn't the peer's is stale
pub peer_reply_has_room : ResponsesHaveRoom → (p : PeerHandle) (kept : RecordHandle) (t : TicketHandle) (own : Bool) (mid : ℕ) (plain : List ℕ) (room : ℕ) (new : PeerHandle) (status : Status) (detail : ℕ)
    → RefusesPeerReplying p kept t own mid plain room new status detail → ((q : Parts) → IsDatagram q plain → IsPeer p → IsTicket t → (IsTicketOf p t → ⊥) → status ≡ StaleTicket)
    → (h : server.History) (o : Own) → ServesBehind p o h → length plain + 60 ≤ room → code status ≡ 44 → ⊥
peer_reply_has_room law p kept t own mid plain room new status detail (reply_handle bad is at) foreign h o w enough says = let number = ap code is in omega (arith, number, says)
peer_reply_has_room law p kept t own mid plain room new status detail (reply_malformed a b fault place has is at) foreign h o w enough says = let number = ap code is in let small = fault_code fault in omega (arith, number, small, says)
peer_reply_has_room law p kept t own mid plain room new status detail (reply_first a b q of wants at has) foreign h o w enough says = save_code p _ _ kept status wants says
peer_reply_has_room law p kept t own mid plain room new status detail (reply_spent a b q of spent is at) foreign h o w enough says = let number = ap code is in omega (arith, number, says)
peer_reply_has_room law p kept t own mid plain room new status detail (reply_refused a b q of e is holds) foreign h o w enough says =
    let number = ap code (foreign q of a b stays) in omega (arith, number, says)
  where
    stays : IsTicketOf p t → ⊥
    stays named =
        let v = ticket_in (inside_of p t) in
        let step = subst (λ (x : ReplyError). StepsAnswering p h (server.Reply v (asks_own v own) mid q room) (server.NotReplied x) o new) (reply_code e status detail is says) (holds named h o w) in
        let row = step.row in
        let few = b.token in
        law row.0.context false t.number _ q (reply_kind v.kind) (reply_id v.kind v.message_id mid) v.token plain room of (omega (arith, few, length-take t.token_len t.token)) (omega (arith, enough)) row.2.1

-- for a notification
pub peer_notify_has_room : ResponsesHaveRoom → (p : PeerHandle) (kept : RecordHandle) (t : TicketHandle) (plain : List ℕ) (room : ℕ) (new : PeerHandle) (status : Status) (detail : ℕ)
    → RefusesPeerNotifying p kept t plain room new status detail → ((q : Parts) → IsDatagram q plain → IsPeer p → IsTicket t → (IsTicketOf p t → ⊥) → status ≡ StaleTicket)
    → (h : server.History) (o : Own) → ServesBehind p o h → HasRoomFor true plain room → code status ≡ 44 → ⊥
peer_notify_has_room law p kept t plain room new status detail (notify_handle bad is at) foreign h o w enough says = let number = ap code is in omega (arith, number, says)
peer_notify_has_room law p kept t plain room new status detail (notify_malformed a b fault place has is at) foreign h o w enough says = let number = ap code is in let small = fault_code fault in omega (arith, number, small, says)
peer_notify_has_room law p kept t plain room new status detail (notify_first a b q of wants at has) foreign h o w enough says = save_code p _ _ kept status wants says
peer_notify_has_room law p kept t plain room new status detail (notify_refused a b q of e is holds) foreign h o w enough says =
    let number = ap code (foreign q of a b stays) in omega (arith, number, says)
  where
    stays : IsTicketOf p t → ⊥
    stays named =
        let v = ticket_in (inside_of p t) in
        let step = subst (λ (x : ReplyError). StepsAnswering p h (server.Notify v q room) (server.NotReplied x) o new) (reply_code e status detail is says) (holds named h o w) in
        let row = step.row in
        let few = b.token in
        law row.1.0.context true t.number _ q q.kind q.message_id v.token plain room of (omega (arith, few, length-take t.token_len t.token)) (any_room row.1.0.context.features.observe plain room enough) row.1.2.2

-- for a request
pub peer_request_has_room : RequestsHaveRoom → (p : PeerHandle) (n : ℕ) (ps : List PendingHandle) (kept : RecordHandle) (now : ℕ) (plain : List ℕ) (room : ℕ) (new : PeerHandle) (m : ℕ) (qs : List PendingHandle)
    (status : Status) (detail : ℕ) → RefusesPeerAsking p n ps kept now plain room new m qs status detail → (a : client.History) (o : Own) → AsksAmong p n ps o a
    → HasRoomFor (client_in p.server.server.slot.context).features.observe plain room → code status ≡ 44 → ⊥
peer_request_has_room law p n ps kept now plain room new m qs status detail (ask_handle bad x y z is at) a o w enough says = let number = ap code is in omega (arith, number, says)
peer_request_has_room law p n ps kept now plain room new m qs status detail (ask_malformed whole placed x y z fault place has is at) a o w enough says =
    let number = ap code is in let small = fault_code fault in omega (arith, number, small, says)
peer_request_has_room law p n ps kept now plain room new m qs status detail (ask_first whole placed x y z q of wants at has) a o w enough says = save_code p _ _ kept status wants says
peer_request_has_room law p n ps kept now plain room new m qs status detail (ask_refused whole placed q of e is holds) a o w enough says =
    let step = subst (λ (x : RequestError). StepsAmong p ps a (client.Request now q room) (client.NotSent x) o new m qs) (request_code e status detail is says) (holds a o w) in
    let context = p.server.server.slot.context in
    let same : client_in context ≡ client.context step.b = w.context_is ∙ ap client.context (sym step.passes.is) in
    law (client_in context) (client.next step.b) q plain room (identifiers_fit context whole.server.bytes.context) of enough
    (subst (λ (s : SecurityContext). RefusesToSeal (requests s) (client.next step.b) q room seals.NoRoom) (sym same) step.row.1)
