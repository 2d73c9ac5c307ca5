-- What a context answers to a request that names it.
use Rattle.std.proofs.Common.{◌≡◌, ℕ, ◌<◌, ◌≤◌, ◌^◌, ◌∙◌, sym, ap, subst, refl, arith, Bool, false, Option, Some, None, List, [], inl, inr, if◌then◌else◌}
use Rattle.std.specs.Prelude.{IsTrue, ◌==◌, unwrap_or, slice_get}
use Rattle.std.proofs.lemmas.Bool.{eq-eqb}
use Rattle.osc_coap.specs.Datagram.{IsDatagram}
use Rattle.osc_coap.specs.Inner.{InnerParts}
use Rattle.osc_coap.specs.Laws.{DatagramIsOneMessage}
use Rattle.osc_context.specs.SecurityContext.{SecurityContext}
use Rattle.osc_context.specs.Views.{as_server, number_of}
use Rattle.osc_window.specs.declared.gate.Gate.{Gate}
use Rattle.osc_window.specs.declared.gate.Gate.TheVariants as gates
use Rattle.osc_window.specs.Views.{takes}
use Rattle.osc_protect.specs.Laws.{OneRequest, OneRequestReading}
use Rattle.osc_protect.specs.StageViews.{AcceptsRequestAfter, CanLendRequest, DecryptsRequest, RefusesRequestAfter}
use Rattle.osc_protect.specs.Protection.{Protects, ProtectsRequest, requests}
use Rattle.osc_protect.specs.Refusals.{RefusesPlaintext, RefusesTag}
use Rattle.osc_protect.specs.Sealed.{SealsResponse}
use Rattle.osc_protect.specs.Views.{context_of}
use Rattle.osc_protect.specs.declared.stages.DecryptedRequest.{DecryptedRequest}
use Rattle.osc_protect.specs.declared.stages.ReadRequest.{ReadRequest}
use Rattle.osc_life.specs.Doubting.{IsBelow, IsBeyond, IsNotBelow, IsNotBeyond, OpensBy, StaysBy}
use Rattle.osc_life.specs.declared.asker.Asker.{Asker}
use Rattle.osc_life.specs.declared.decision.Decision.TheVariants as decisions
use Rattle.osc_life.specs.declared.doubt.Doubt.{Doubt}
use Rattle.osc_life.specs.declared.judging.Named.{Named}
use Rattle.osc_life.specs.declared.slot.Slot.{Slot}
use Rattle.osc_life.specs.Agrees.{GateAgrees, SlotAgrees}
use Rattle.osc_life.specs.Deciding.{IsOpenedIn}
use Rattle.osc_life.specs.Judging.{IsAskerOf, IsNamed, GatePasses, GateRefuses, JudgesTo, OfWhatWasRead, RefusesEcho}
use Rattle.osc_life.specs.Life.{Life, Mark, Delivered, Spoiled, Challenged, Passes, Carries, is_open, in_force, marked}
use Rattle.osc_observe.specs.Observing.{registers}
use Rattle.osc_observe.specs.Received.{Receives}
use Rattle.osc_life.specs.Replies.{ErrorText, SaysError, as_reply, error_message, challenge_message, replay, bad_tag}
use Rattle.osc_life.specs.LifeAnswer.{IsReplay, SaysChallenge, challenge_given}
use Rattle.osc_life.specs.ServerHistory as server
use Rattle.osc_observe.proofs.Receiving.{said, receives_said, opened_said}

-- the mark stands in the life of the very context
pub marked_here : (s : Slot) (l : Life) (i : ℕ) (m : Mark) → SlotAgrees s (marked (Some m) l) → SlotAgrees s (marked (if i == i then Some m else None) l)
marked_here s l i m h = subst (λ b. SlotAgrees s (marked (if b then Some m else None) l)) (sym (eq-eqb i i refl)) h

-- what the gate says of a number, the life says too
gate_passes : (g : Gate) (doubt : Option Doubt) (l : Life) (n : ℕ) → doubt ≡ l.doubt → GateAgrees g l → GatePasses g doubt n → Passes l n
gate_passes (gates.Restarted kept) doubt l n e a p = ((λ opened. absurd (let c = a.0 in cc)), (λ closed. subst (λ x. IsNotBelow x n) e p))
gate_passes (gates.Open window) doubt l n e a p = ((λ opened. (a.1.takes_new n).0 p), (λ closed. absurd (let c = a.0 in cc)))

gate_refuses : (g : Gate) (doubt : Option Doubt) (l : Life) (n : ℕ) → doubt ≡ l.doubt → GateAgrees g l → GateRefuses g doubt n → IsReplay l n
gate_refuses (gates.Restarted kept) doubt l n e a r = inr (a.0, subst (λ x. IsBelow x n) e r)
gate_refuses (gates.Open window) doubt l n e a r = inl (a.0, λ new. let t : IsTrue (takes window n) = (a.1.takes_new n).1 new in cc)

pub slot_passes : (s : Slot) (l : Life) (n : ℕ) → SlotAgrees s l → GatePasses s.gate s.doubt n → Passes l n
slot_passes s l n a p = gate_passes s.gate s.doubt l n a.doubt a.gate p

-- what opens a closed life, and what doesn't, by what the number is and what the request carries
pub opens_beyond : (doubt : Option Doubt) (n : ℕ) (carried : Type 0) → IsBeyond doubt n → OpensBy doubt n carried
opens_beyond None n carried h = absurd h
opens_beyond (Some doubt) n carried h = inl h

pub opens_carried : (doubt : Option Doubt) (n : ℕ) (carried : Type 0) → carried → OpensBy doubt n carried
opens_carried None n carried h = h
opens_carried (Some doubt) n carried h = inr h

pub stays : (doubt : Option Doubt) (n : ℕ) (carried : Type 0) → IsNotBeyond doubt n → (carried → ⊥) → StaysBy doubt n carried
stays None n carried h f = f
stays (Some doubt) n carried h f = (h, f)

-- a reply under the asker's head is one under the request's
pub says_error : (a : Asker) (d : List ℕ) (mid : ℕ) (e : ErrorText) (reply : List ℕ) → IsAskerOf a d
    → IsDatagram (as_reply a.kind a.message_id a.token.items mid (error_message e)) reply → SaysError d mid e reply
says_error a d mid e reply (p, datagram, kind, id, token) h = (p, datagram, rw (kind, id, token) at h)

-- a datagram whose head names a context and a number protects a message by these alone
pub same_parts : (s t : SecurityContext) (n k : ℕ) (m : InnerParts) (d : List ℕ) → OneRequestReading → IsNamed s n d → ProtectsRequest t k m d
    → (requests s).parts n ≡ (requests t).parts k
same_parts s t n k m d laws (head, has, names) protects = laws.named s t d head n k m has names protects

pub named_number : (s : SecurityContext) (n k : ℕ) (m : InnerParts) (d : List ℕ) → OneRequestReading → IsNamed s n d → ProtectsRequest s k m d → k ≡ n
named_number s n k m d laws named protects = sym (ap (λ v. unwrap_or v.piv 0) (same_parts s s n k m d laws named protects))

-- the message that a decrypted datagram protects, by the number that its head names
pub protected : (s : SecurityContext) (n : ℕ) (d new : List ℕ) (x : DecryptedRequest) → OneRequestReading
    → IsNamed s n d → DecryptsRequest (requests s) d x new → AcceptsRequestAfter new x → (m : InnerParts) × ProtectsRequest s n m d
protected s n d new x laws named decrypts accepts =
    let (k, m, protects) = accepts s d decrypts in
    (m, subst (λ (j : ℕ). Protects (requests s) j m d) (named_number s n k m d laws named protects) protects)

-- what decryption leaves
pub opened_in : (slots : List (Option Slot)) (i : ℕ) (s : Slot) (d new : List ℕ) (x : DecryptedRequest) → slice_get slots i ≡ Some (Some s)
    → DecryptsRequest (requests (as_server (context_of s.context))) d x new → IsOpenedIn slots d new
opened_in slots i s d new x at decrypts = (i, s, at, number_of x.number, x.len, decrypts.1)

-- ---- the rows

pub exhausted : (l : Life) (r : Named) (d new : List ℕ) (slot : Slot) → SlotAgrees slot l → RefusesEcho l r d → 2 ^ 40 ≤ slot.next
    → JudgesTo l r d (record { decision = decisions.SequenceExhausted; reply = 0 }) new [] (Some slot)
exhausted l r d new slot a wants full =
    record {
      answer = server.SequenceExhausted;
      row = ((wants, (λ has. omega (arith, has, a.next, full))), refl);
      decides = tt;
      agrees = a;
    }

-- the sealed reply, under the words of the life
says_challenge : (l : Life) (slot : Slot) (asker : Asker) (n own mid : ℕ) (d echo reply : List ℕ) → SlotAgrees slot l → own ≡ slot.next → IsAskerOf asker d
    → SealsResponse (as_server (context_of slot.context)) n (Some own) (as_reply asker.kind asker.message_id asker.token.items mid (challenge_message echo)) reply
    → SaysChallenge l n d mid echo reply
says_challenge l slot asker n own mid d echo reply a is (p, datagram, kind, id, token) sealed =
    let by_life = subst (λ s. SealsResponse s n (Some own) (as_reply asker.kind asker.message_id asker.token.items mid (challenge_message echo)) reply) a.context sealed in
    let by_own = subst (λ k. SealsResponse l.context n (Some k) (as_reply asker.kind asker.message_id asker.token.items mid (challenge_message echo)) reply) (is ∙ a.next) by_life in
    (p, datagram, rw (kind, id, token) at by_own)

pub challenged : (l : Life) (r : Named) (d new reply echo : List ℕ) (issued own len : ℕ) (old slot : Slot)
    → SlotAgrees old l → RefusesEcho l r d → IsAskerOf r.asker d → own ≡ old.next → own < 2 ^ 40
    → (echo, issued) ≡ challenge_given l r.clock r.fresh.echo
    → SealsResponse (as_server (context_of old.context)) (number_of r.number) (Some own) (as_reply r.asker.kind r.asker.message_id r.asker.token.items r.fresh.mid (challenge_message echo)) reply
    → SlotAgrees slot (marked (Some (Challenged echo issued)) l)
    → JudgesTo l r d (record { decision = decisions.Challenge echo issued; reply = len }) new reply (Some slot)
challenged l r d new reply echo issued own len old slot a wants asker is less given sealed agrees =
    record {
      answer = server.Challenge r.index (number_of r.number) echo issued;
      row = ((wants, omega (arith, less, is, a.next), given, refl, refl), says_challenge l old r.asker (number_of r.number) own r.fresh.mid d echo reply a is asker sealed);
      decides = (refl, refl);
      agrees = marked_here slot l r.index (Challenged echo issued) agrees;
    }

pub spoiled : (l : Life) (r : Named) (d new : List ℕ) (x : DecryptedRequest) (old slot : Slot)
    → SlotAgrees old l → GatePasses old.gate old.doubt (number_of r.number) → DecryptsRequest (requests (as_server (context_of old.context))) d x new → RefusesRequestAfter new x
    → SlotAgrees slot (marked (Some (Spoiled (number_of r.number))) l)
    → JudgesTo l r d (record { decision = decisions.BadInner; reply = 0 }) new [] (Some slot)
spoiled l r d new x old slot a passes decrypts refuses agrees =
    let refused : RefusesPlaintext (requests (as_server (context_of old.context))) d = refuses (as_server (context_of old.context)) d decrypts in
    record {
      answer = server.BadInner r.index (number_of r.number);
      row = ((slot_passes old l (number_of r.number) a passes, subst (λ s. RefusesPlaintext (requests s) d) a.context refused, refl, refl), refl);
      decides = tt;
      agrees = marked_here slot l r.index (Spoiled (number_of r.number)) agrees;
    }

-- what a request is refused for that doesn't carry the value in force
pub wants_echo : (l : Life) (r : Named) (d new : List ℕ) (x : DecryptedRequest) (y : ReadRequest) (old : Slot) → OneRequestReading
    → SlotAgrees old l → IsNamed (as_server (context_of old.context)) (number_of r.number) d → DecryptsRequest (requests (as_server (context_of old.context))) d x new
    → CanLendRequest new x y → AcceptsRequestAfter new x
    → GatePasses old.gate old.doubt (number_of r.number) → (is_open l ≡ false) × OfWhatWasRead new y (λ m. StaysBy l.doubt (number_of r.number) (Carries (in_force l r.clock) m)) → RefusesEcho l r d
wants_echo l r d new x y old laws a named decrypts can accepts passes closed =
    let s = as_server (context_of old.context) in
    let (m, protects) = protected s (number_of r.number) d new x laws named decrypts accepts in
    (closed.0, (slot_passes old l (number_of r.number) a passes).1 closed.0, m, subst (λ t. ProtectsRequest t (number_of r.number) m d) a.context protects, closed.1 x s d (number_of r.number) m can decrypts protects)

pub delivered : (l : Life) (r : Named) (d new : List ℕ) (x : DecryptedRequest) (y : ReadRequest) (life : ℕ) (observes : Bool) (old slot : Slot) → DatagramIsOneMessage → OneRequest → OneRequestReading
    → SlotAgrees old l → GatePasses old.gate old.doubt (number_of r.number) → IsNamed (as_server (context_of old.context)) (number_of r.number) d → IsAskerOf r.asker d
    → DecryptsRequest (requests (as_server (context_of old.context))) d x new → CanLendRequest new x y → AcceptsRequestAfter new x
    → (is_open l ≡ false → OfWhatWasRead new y (λ m. OpensBy l.doubt (number_of r.number) (Carries (in_force l r.clock) m))) → life ≡ old.life
    → OfWhatWasRead new y (λ m. observes ≡ registers (as_server (context_of old.context)).features m.code m.options)
    → SlotAgrees slot (marked (Some (Delivered (number_of r.number))) l)
    → JudgesTo l r d (record { decision = decisions.Deliver y (record { context = r.index; life = life; number = r.number; asker = record r.asker { observes = observes } }); reply = 0 }) new [] (Some slot)
delivered l r d new x y life observes old slot one one_message laws a passes named asker decrypts can accepts carries same observed agrees =
    let s = as_server (context_of old.context) in
    let n = number_of r.number in
    let (m, protects) = protected s n d new x laws named decrypts accepts in
    let received = said (requests s) n m d protects in
    let got = receives_said (requests s) n m d protects in
    let by_life : observes ≡ registers l.context.features m.code m.options = subst (λ t. observes ≡ registers t.features m.code m.options) a.context (observed x s d n m can decrypts protects) in
    let outer : asker.0 ≡ got.outer = one asker.0 got.outer d asker.1 got.datagram in
    record {
      answer = server.Deliver received (record { context = r.index; life = life; number = n; kind = r.asker.kind; message_id = r.asker.message_id; token = r.asker.token.items; observes = observes });
      row = (
        (
          subst (λ t. Receives (requests t) n d received) a.context got,
          (slot_passes old l n a passes, (λ closed. carries closed x s d n m can decrypts protects)),
          (let k = got.kind in let i = got.message_id in let t = got.token in let p = asker.2 in let q = asker.3 in let u = asker.4 in let c : life ≡ l.count = same ∙ a.life in cc),
        ),
        refl,
      );
      decides = ((x, can, (λ q h. opened_said (requests s) n m d protects one (one_message s) q (h s d decrypts))), refl);
      agrees = marked_here slot l r.index (Delivered n) agrees;
    }

pub replayed : (l : Life) (r : Named) (d reply : List ℕ) (len : ℕ) (slot : Slot) → SlotAgrees slot l → GateRefuses slot.gate slot.doubt (number_of r.number) → IsAskerOf r.asker d
    → IsDatagram (as_reply r.asker.kind r.asker.message_id r.asker.token.items r.fresh.mid (error_message replay)) reply
    → JudgesTo l r d (record { decision = decisions.Replay; reply = len }) d reply (Some slot)
replayed l r d reply len slot a refuses asker written =
    record {
      answer = server.Replay;
      row = (gate_refuses slot.gate slot.doubt l (number_of r.number) a.doubt a.gate refuses, says_error r.asker d r.fresh.mid replay reply asker written);
      decides = tt;
      agrees = a;
    }

pub untagged : (l : Life) (r : Named) (d new reply : List ℕ) (len : ℕ) (slot : Slot) → SlotAgrees slot l → GatePasses slot.gate slot.doubt (number_of r.number) → IsAskerOf r.asker d
    → RefusesTag (requests (as_server (context_of slot.context))) d
    → IsDatagram (as_reply r.asker.kind r.asker.message_id r.asker.token.items r.fresh.mid (error_message bad_tag)) reply
    → JudgesTo l r d (record { decision = decisions.BadTag; reply = len }) new reply (Some slot)
untagged l r d new reply len slot a passes asker refused written =
    record {
      answer = server.BadTag;
      row = ((slot_passes slot l (number_of r.number) a passes, subst (λ s. RefusesTag (requests s) d) a.context refused), says_error r.asker d r.fresh.mid bad_tag reply asker written);
      decides = tt;
      agrees = a;
    }
