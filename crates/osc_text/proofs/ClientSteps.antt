-- A run of a client of the code is one of the lines' events, and each has one line.
use Rattle.std.proofs.Common.{◌≡◌, ℕ, List, [], ◌++◌, codes, length, refl, sym, ap, ap₂, subst, ◌∙◌}
use Rattle.osc_coap.specs.Datagram.{Parts, IsDatagram}
use Rattle.osc_coap.specs.Laws.{DatagramHasNoFault, DatagramHasOneFault, DatagramIsOneMessage}
use Rattle.osc_client.specs.ClientHistory.{History, Then, Event, Entry, Answer, Request, Datagram, Forget, Restart, Advance, Sent, NotSent, Took, Forgot, Restarted, Advanced, Malformed, NotResponse, UnknownToken, Unprotected, Undecodable, BadTag, BadInner, Old, Notified, Deliver, next}
use Rattle.osc_endpoint.specs.ClientRun.{GoesOn, RequestStep, ClientRunStep}
use Rattle.osc_client.specs.Text.{request_error_text}
use Rattle.osc_observe.specs.Received.{Received}
use Rattle.osc_client.specs.Views.{ClientShows}
use Rattle.osc_endpoint.specs.declared.client_event.ClientEntry.{ClientEntry}
use Rattle.osc_endpoint.specs.declared.client_event.ClientEntry.TheVariants as entries
use Rattle.osc_endpoint.specs.declared.client_event.ClientEvent.{ClientEvent}
use Rattle.osc_endpoint.specs.declared.client_event.ClientEvent.TheVariants as events
use Rattle.osc_client.specs.declared.client_outcome.ClientOutcome.{ClientOutcome}
use Rattle.osc_client.specs.declared.client_outcome.ClientOutcome.TheVariants as outcomes
use Rattle.osc_laws.specs.ClientLaws.{AllClientAnswers, OneClientAnswer}
use Rattle.osc_context.specs.SecurityContext.{SecurityContext}
use Rattle.osc_context.specs.declared.features.Features.{Features}
use Rattle.osc_text.specs.AskedEvents.{AskedEvent}
use Rattle.osc_text.specs.AskedEvents as asked
use Rattle.osc_text.specs.AskedReading.{HasRoom, asked_seen}
use Rattle.osc_text.specs.Asking.{AskingState, ClientLine, EventLine, ReplaceLine, RequestLine, places, request_room}
use Rattle.osc_text.specs.Asking.ReplaceLine.{placed, refused as not_placed}
use Rattle.osc_text.specs.Asking.RequestLine.{bad_plain, refused, sent}
use Rattle.osc_text.specs.ClientLines.{answer_line, answer_text, forgot_line, response_text, sent_line}
use Rattle.osc_text.specs.ClientLog.{asked_line, outcome_text}
use Rattle.osc_text.specs.EntryLines.{entry_line, not_done_line, restarted_line}
use Rattle.osc_text.specs.ReplaceEvents as lines
use Rattle.osc_text.proofs.InputTexts.{OneLine}

-- ---- the lines of a run

-- what the log shows of an answer prints as the answer does
outcome_is : (x : ClientOutcome) (answer : Answer) → ClientShows x answer → outcome_text x ≡ answer_text answer
outcome_is (outcomes.Malformed e) (Malformed fault place) h = rw (h.0, h.1) refl
outcome_is outcomes.NotResponse NotResponse h = refl
outcome_is outcomes.UnknownToken UnknownToken h = refl
outcome_is outcomes.Unprotected Unprotected h = refl
outcome_is outcomes.Undecodable Undecodable h = refl
outcome_is (outcomes.Notified opened piv) (Notified received number) h = rw (h.1) (ap (λ (r : Received). codes "notified " ++ response_text number r.number r.message) h.0)
outcome_is (outcomes.Deliver opened piv) (Deliver received number) h = rw (h.1) (ap (λ (r : Received). codes "deliver " ++ response_text number r.number r.message) h.0)
outcome_is outcomes.BadTag BadTag h = refl
outcome_is outcomes.BadInner BadInner h = refl
outcome_is outcomes.Old Old h = refl
outcome_is x answer h = absurd h

-- a request of the code is one of the lines
request_is : (h k : History) (now : ℕ) (plain : List ℕ) (room : ℕ) (x : ClientEntry) → room ≡ request_room plain → RequestStep places h now plain room x k → RequestLine h now plain (asked_line x) k
request_is h k now plain room (entries.Sent number datagram) is (own, p, reads, goes) =
    sent p datagram.now reads (subst (λ (r : ℕ). GoesOn places h (Request now p r) (Sent datagram.now) k) is goes) (ap (λ (n : ℕ). sent_line n datagram.now) own)
request_is h k now plain room (entries.NotSent e) is (p, reads, goes) = refused p e reads (subst (λ (r : ℕ). GoesOn places h (Request now p r) (NotSent e) k) is goes) refl
request_is h k now plain room (entries.BadPlain e) is s = bad_plain e.fault e.place s.0 s.1 refl
request_is h k now plain room x is s = absurd s

-- a step of the code is one of the lines
pub step_is : (h k : History) (e : ClientEvent) (x : ClientEntry) → HasRoom e → ClientRunStep places h e x k → EventLine h (asked_seen e) (asked_line x) k
step_is h k (events.Request now plain out) x is s = request_is h k now plain.items (length out.items) x is s
step_is h k (events.Datagram now bytes) (entries.Took x) is (answer, shows, goes) = (answer, goes, ap entry_line (outcome_is x answer shows))
step_is h k (events.Forget token) (entries.Forgot was_pending) is goes = (was_pending, goes, refl)
step_is h k (events.Restart first) entries.Restarted is goes = (goes, refl)
step_is h k e x is s = absurd s

-- ---- one line

-- the line of an entry, after a history
abbrev line_of : History → Entry → List ℕ
line_of h (Sent bytes) = sent_line (next h) bytes
line_of h (NotSent e) = not_done_line (request_error_text e)
line_of h (Took answer) = answer_line answer
line_of h (Forgot was_pending) = forgot_line was_pending
line_of h Restarted = restarted_line
line_of h entry = []

module _ (law : OneClientAnswer) (one : DatagramIsOneMessage) (one_fault : DatagramHasOneFault) (no_fault : DatagramHasNoFault) where
  -- two lines of one event
  one_answer : (h k l : History) (event : Event) (x y : Entry) (m n : List ℕ) → AllClientAnswers places h → GoesOn places h event x k → GoesOn places h event y l → m ≡ line_of h x → n ≡ line_of h y
      → (m ≡ n) × (k ≡ l) × AllClientAnswers places k
  one_answer h k l event x y m n is a b text text_too =
      let same = law places h event x y is a.0 b.0 in
      (text ∙ ap (line_of h) same ∙ sym text_too, a.1 ∙ ap (Then h event) same ∙ sym b.1, subst (AllClientAnswers places) (sym a.1) (is, a.0))

  -- two entries of one request
  one_sealing : (h k l : History) (now : ℕ) (plain m n : List ℕ) (p q : Parts) (x y : Entry) → AllClientAnswers places h → IsDatagram p plain → IsDatagram q plain
      → GoesOn places h (Request now p (request_room plain)) x k → GoesOn places h (Request now q (request_room plain)) y l → m ≡ line_of h x → n ≡ line_of h y
      → (m ≡ n) × (k ≡ l) × AllClientAnswers places k
  one_sealing h k l now plain m n p q x y is is_p is_q a b text text_too =
      one_answer h k l (Request now p (request_room plain)) x y m n is a (subst (λ (r : Parts). GoesOn places h (Request now r (request_room plain)) y l) (one q p plain is_q is_p) b) text text_too

  one_request_line : (h k l : History) (now : ℕ) (plain m n : List ℕ) → AllClientAnswers places h → RequestLine h now plain m k → RequestLine h now plain n l → (m ≡ n) × (k ≡ l) × AllClientAnswers places k
  one_request_line h k l now plain m n is (bad_plain fault place has goes text) (bad_plain other there has_too goes_too text_too) =
      let same = one_fault plain fault other place there has has_too in
      let after = one_answer h k l (Advance now) Advanced Advanced [] [] is goes goes_too refl refl in
      (text ∙ rw (same.0, same.1) (sym text_too), after.1, after.2)
  one_request_line h k l now plain m n is (bad_plain fault place has goes text) (sent q bytes is_q goes_too text_too) = absurd (no_fault q plain fault place is_q has)
  one_request_line h k l now plain m n is (bad_plain fault place has goes text) (refused q e is_q goes_too text_too) = absurd (no_fault q plain fault place is_q has)
  one_request_line h k l now plain m n is (sent p bytes is_p goes text) (bad_plain fault place has goes_too text_too) = absurd (no_fault p plain fault place is_p has)
  one_request_line h k l now plain m n is (sent p bytes is_p goes text) (sent q others is_q goes_too text_too) = one_sealing h k l now plain m n p q (Sent bytes) (Sent others) is is_p is_q goes goes_too text text_too
  one_request_line h k l now plain m n is (sent p bytes is_p goes text) (refused q e is_q goes_too text_too) = one_sealing h k l now plain m n p q (Sent bytes) (NotSent e) is is_p is_q goes goes_too text text_too
  one_request_line h k l now plain m n is (refused p e is_p goes text) (bad_plain fault place has goes_too text_too) = absurd (no_fault p plain fault place is_p has)
  one_request_line h k l now plain m n is (refused p e is_p goes text) (sent q others is_q goes_too text_too) = one_sealing h k l now plain m n p q (NotSent e) (Sent others) is is_p is_q goes goes_too text text_too
  one_request_line h k l now plain m n is (refused p e is_p goes text) (refused q f is_q goes_too text_too) = one_sealing h k l now plain m n p q (NotSent e) (NotSent f) is is_p is_q goes goes_too text text_too

  -- an event has one line and leaves one history
  one_event_line : (h k l : History) (e : AskedEvent ℕ) (m n : List ℕ) → AllClientAnswers places h → EventLine h e m k → EventLine h e n l → (m ≡ n) × (k ≡ l) × AllClientAnswers places k
  one_event_line h k l (asked.Request now plain) m n is a b = one_request_line h k l now plain m n is a b
  one_event_line h k l (asked.Take now d) m n is (x, goes, text) (y, goes_too, text_too) = one_answer h k l (Datagram now d) (Took x) (Took y) m n is goes goes_too text text_too
  one_event_line h k l (asked.Forget token) m n is (x, goes, text) (y, goes_too, text_too) = one_answer h k l (Forget token) (Forgot x) (Forgot y) m n is goes goes_too text text_too
  one_event_line h k l (asked.Restart first) m n is (goes, text) (goes_too, text_too) = one_answer h k l (Restart first) Restarted Restarted m n is goes goes_too text text_too

  -- another context has one line and leaves one history
  one_replace_line : (h k l : History) (by : SecurityContext) (first : ℕ) (m n : List ℕ) → AllClientAnswers places h → ReplaceLine h by first m k → ReplaceLine h by first n l → (m ≡ n) × (k ≡ l) × AllClientAnswers places k
  one_replace_line h k l by first m n is (placed differs a text) (placed differs_too b text_too) = (text ∙ sym text_too, a ∙ sym b, subst (AllClientAnswers places) (sym a) ((tt, tt), tt))
  one_replace_line h k l by first m n is (placed differs a text) (not_placed same b text_too) = absurd (differs same)
  one_replace_line h k l by first m n is (not_placed same a text) (placed differs b text_too) = absurd (differs same)
  one_replace_line h k l by first m n is (not_placed same a text) (not_placed same_too b text_too) = (text ∙ sym text_too, a ∙ sym b, subst (AllClientAnswers places) (sym a) is)

  same_state : (t u : AskingState) → t.history ≡ u.history → t.features ≡ u.features → t ≡ u
  same_state t u h x = ap₂ made h x
    where
      made : History → Features → AskingState
      made g y = record { history = g; features = y }

  -- the same of a client of a run
  pub one_client_line : OneLine ClientLine (λ s. AllClientAnswers places s.history)
  one_client_line s t u (lines.Event e) m n is (a, x) (b, y) =
      let same = one_event_line s.history t.history u.history e m n is a b in
      (same.0, same_state t u same.1 (x ∙ sym y), same.2)
  one_client_line s t u (lines.Replace by first) m n is (a, x) (b, y) =
      let same = one_replace_line s.history t.history u.history _ first m n is a b in
      (same.0, same_state t u same.1 (x ∙ sym y), same.2)
