-- A server prints one text of an input.
use Rattle.std.proofs.Common.{◌≡◌, ℕ, List, [], ◌∷◌, ◌++◌, Option, Some, None, sym, ap, ap₂, subst, ◌∙◌, slice_set}
use Rattle.osc_coap.specs.Datagram.{Parts, IsDatagram}
use Rattle.osc_coap.specs.Laws.{DatagramHasNoFault, DatagramHasOneFault, DatagramIsOneMessage}
use Rattle.osc_laws.specs.Laws.{AllAnswers, OneServerAnswer}
use Rattle.osc_life.specs.LifeAnswer.{asks_own}
use Rattle.osc_life.specs.ServerHistory.{Datagram, Entry, Event, History, NotReplaced, NotReplied, NotRestarted, Notify, Replaced, Replied, Reply, Restarted, Then, TicketValues, Took}
use Rattle.osc_endpoint.specs.ServerRun.{GoesOn, ticket_at}
use Rattle.osc_life.specs.Logged.{ticket_of}
use Rattle.osc_life.specs.Text.{replace_error_text, reply_error_text, restart_error_text}
use Rattle.osc_context.specs.SecurityContext.{SecurityContext}
use Rattle.osc_context.specs.declared.features.Features.{Features}
use Rattle.osc_life.specs.declared.start.Start.{Start}
use Rattle.osc_window.specs.declared.window_size.WindowSize.{WindowSize}
use Rattle.osc_text.specs.ReplaceEvents as lines
use Rattle.osc_text.specs.InputEvents.{InputEvent}
use Rattle.osc_text.specs.InputEvents as input
use Rattle.osc_text.specs.EntryLines.{bad_plain_line, not_done_line, replaced_line, restarted_line}
use Rattle.osc_text.specs.ServerLines.{replied_line, took_line}
use Rattle.osc_text.specs.Serving.{AnsweredLine, EventLine, ReplaceLine, RestartLine, ServerLine, ServingState, reply_room}
use Rattle.osc_text.specs.Serving.AnsweredLine.{bad_plain, no_ticket, refused, replied}
use Rattle.osc_text.specs.Serving.ReplaceLine.{refused as not_replaced, replaced}
use Rattle.osc_text.specs.Serving.RestartLine.{refused as not_restarted, restarted}
use Rattle.osc_text.proofs.InputTexts.{OneLine}

-- the line of an entry
abbrev line_of : Entry → List ℕ
line_of (Took answer reply) = took_line answer reply
line_of (Replied bytes) = replied_line bytes
line_of (NotReplied e) = not_done_line (reply_error_text e)
line_of Restarted = restarted_line
line_of (NotRestarted e) = not_done_line (restart_error_text e)
line_of Replaced = replaced_line
line_of (NotReplaced e) = not_done_line (replace_error_text e)
line_of entry = []

-- the ticket that an entry gives
abbrev given_by : Entry → Option TicketValues
given_by (Took answer reply) = ticket_of answer
given_by entry = None

-- the tickets behind what was sent, if left are the tickets when it is sealed
abbrev used_by : (ts left : List (Option TicketValues)) → Entry → List (Option TicketValues)
used_by ts left (Replied bytes) = left
used_by ts left entry = ts

module _ (law : OneServerAnswer) (one : DatagramIsOneMessage) (one_fault : DatagramHasOneFault) (no_fault : DatagramHasNoFault) where
  -- an event has one entry
  one_entry : (h k l : History) (event : Event) (x y : Entry) → AllAnswers h → GoesOn h event x k → GoesOn h event y l → x ≡ y
  one_entry h k l event x y all a b = law h event x y all a.0 b.0

  -- and leaves one history
  one_history : (h k l : History) (event : Event) (x y : Entry) → AllAnswers h → GoesOn h event x k → GoesOn h event y l → k ≡ l
  one_history h k l event x y all a b = a.1 ∙ ap (Then h event) (one_entry h k l event x y all a b) ∙ sym b.1

  one_ticket : (ts : List (Option TicketValues)) (of : ℕ) (t u : TicketValues) → ticket_at ts of ≡ Some t → ticket_at ts of ≡ Some u → u ≡ t
  one_ticket ts of t u a b = let e : Some u ≡ Some t = sym b ∙ a in cc e

  -- two entries of one reply or notification
  one_sealing : (h k l : History) (ts us vs : List (Option TicketValues)) (of : ℕ) (event : TicketValues → Parts → Event) (left : List (Option TicketValues)) (plain m n : List ℕ) (t u : TicketValues) (p q : Parts) (x y : Entry) → AllAnswers h
      → ticket_at ts of ≡ Some t → ticket_at ts of ≡ Some u → IsDatagram p plain → IsDatagram q plain
      → GoesOn h (event t p) x k → GoesOn h (event u q) y l
      → m ≡ line_of x → n ≡ line_of y → us ≡ used_by ts left x → vs ≡ used_by ts left y → (m ≡ n) × (k ≡ l) × (us ≡ vs)
  one_sealing h k l ts us vs of event left plain m n t u p q x y all at_t at_u is_p is_q a b text text_too used used_too =
      let goes = subst (λ (r : TicketValues). GoesOn h (event r q) y l) (one_ticket ts of t u at_t at_u) b in
      let same = subst (λ (r : Parts). GoesOn h (event t r) y l) (one q p plain is_q is_p) goes in
      let entries = one_entry h k l _ x y all a same in
      (text ∙ ap line_of entries ∙ sym text_too, one_history h k l _ x y all a same, used ∙ ap (used_by ts left) entries ∙ sym used_too)

  one_answered_line : (h k l : History) (ts us vs : List (Option TicketValues)) (of : ℕ) (event : TicketValues → Parts → Event) (left : List (Option TicketValues)) (plain m n : List ℕ) → AllAnswers h
      → AnsweredLine h ts of event left plain m k us → AnsweredLine h ts of event left plain n l vs → (m ≡ n) × (k ≡ l) × (us ≡ vs)
  one_answered_line h k l ts us vs of event left plain m n all (no_ticket none a b c) (no_ticket none_too d e f) = (a ∙ sym d, b ∙ sym e, c ∙ sym f)
  one_answered_line h k l ts us vs of event left plain m n all (no_ticket none a b c) (bad_plain t fault place at has d e f) = let bad : None ≡ Some t = sym none ∙ at in cc bad
  one_answered_line h k l ts us vs of event left plain m n all (no_ticket none a b c) (replied t p bytes at is goes d e) = let bad : None ≡ Some t = sym none ∙ at in cc bad
  one_answered_line h k l ts us vs of event left plain m n all (no_ticket none a b c) (refused t p x at is goes d e) = let bad : None ≡ Some t = sym none ∙ at in cc bad
  one_answered_line h k l ts us vs of event left plain m n all (bad_plain t fault place at has a b c) (no_ticket none d e f) = let bad : None ≡ Some t = sym none ∙ at in cc bad
  one_answered_line h k l ts us vs of event left plain m n all (bad_plain t fault place at has a b c) (bad_plain u other there at_too has_too d e f) =
      let same = one_fault plain fault other place there has has_too in
      (a ∙ ap₂ bad_plain_line same.0 same.1 ∙ sym d, b ∙ sym e, c ∙ sym f)
  one_answered_line h k l ts us vs of event left plain m n all (bad_plain t fault place at has a b c) (replied u p bytes at_too is goes d e) = absurd (no_fault p plain fault place is has)
  one_answered_line h k l ts us vs of event left plain m n all (bad_plain t fault place at has a b c) (refused u p x at_too is goes d e) = absurd (no_fault p plain fault place is has)
  one_answered_line h k l ts us vs of event left plain m n all (replied t p bytes at is goes a b) (no_ticket none d e f) = let bad : None ≡ Some t = sym none ∙ at in cc bad
  one_answered_line h k l ts us vs of event left plain m n all (replied t p bytes at is goes a b) (bad_plain u fault place at_too has d e f) = absurd (no_fault p plain fault place is has)
  one_answered_line h k l ts us vs of event left plain m n all (replied t p bytes at is goes a b) (replied u q others at_too is_too goes_too d e) =
      one_sealing h k l ts us vs of event left plain m n t u p q (Replied bytes) (Replied others) all at at_too is is_too goes goes_too a d b e
  one_answered_line h k l ts us vs of event left plain m n all (replied t p bytes at is goes a b) (refused u q x at_too is_too goes_too d e) =
      one_sealing h k l ts us vs of event left plain m n t u p q (Replied bytes) (NotReplied x) all at at_too is is_too goes goes_too a d b e
  one_answered_line h k l ts us vs of event left plain m n all (refused t p x at is goes a b) (no_ticket none d e f) = let bad : None ≡ Some t = sym none ∙ at in cc bad
  one_answered_line h k l ts us vs of event left plain m n all (refused t p x at is goes a b) (bad_plain u fault place at_too has d e f) = absurd (no_fault p plain fault place is has)
  one_answered_line h k l ts us vs of event left plain m n all (refused t p x at is goes a b) (replied u q others at_too is_too goes_too d e) =
      one_sealing h k l ts us vs of event left plain m n t u p q (NotReplied x) (Replied others) all at at_too is is_too goes goes_too a d b e
  one_answered_line h k l ts us vs of event left plain m n all (refused t p x at is goes a b) (refused u q y at_too is_too goes_too d e) =
      one_sealing h k l ts us vs of event left plain m n t u p q (NotReplied x) (NotReplied y) all at at_too is is_too goes goes_too a d b e

  one_restart_line : (h k l : History) (next : ℕ) (m n : List ℕ) → AllAnswers h → RestartLine h next m k → RestartLine h next n l → (m ≡ n) × (k ≡ l)
  one_restart_line h k l next m n all (restarted a b) (restarted c d) = (b ∙ ap line_of (one_entry h k l _ Restarted Restarted all a c) ∙ sym d, one_history h k l _ Restarted Restarted all a c)
  one_restart_line h k l next m n all (restarted a b) (not_restarted e c d) = (b ∙ ap line_of (one_entry h k l _ Restarted (NotRestarted e) all a c) ∙ sym d, one_history h k l _ Restarted (NotRestarted e) all a c)
  one_restart_line h k l next m n all (not_restarted e a b) (restarted c d) = (b ∙ ap line_of (one_entry h k l _ (NotRestarted e) Restarted all a c) ∙ sym d, one_history h k l _ (NotRestarted e) Restarted all a c)
  one_restart_line h k l next m n all (not_restarted e a b) (not_restarted f c d) = (b ∙ ap line_of (one_entry h k l _ (NotRestarted e) (NotRestarted f) all a c) ∙ sym d, one_history h k l _ (NotRestarted e) (NotRestarted f) all a c)

  one_replace_line : (h k l : History) (by : SecurityContext) (start : Start) (size : WindowSize) (m n : List ℕ) → AllAnswers h → ReplaceLine h by start size m k → ReplaceLine h by start size n l → (m ≡ n) × (k ≡ l)
  one_replace_line h k l by start size m n all (replaced a b) (replaced c d) = (b ∙ ap line_of (one_entry h k l _ Replaced Replaced all a c) ∙ sym d, one_history h k l _ Replaced Replaced all a c)
  one_replace_line h k l by start size m n all (replaced a b) (not_replaced e c d) = (b ∙ ap line_of (one_entry h k l _ Replaced (NotReplaced e) all a c) ∙ sym d, one_history h k l _ Replaced (NotReplaced e) all a c)
  one_replace_line h k l by start size m n all (not_replaced e a b) (replaced c d) = (b ∙ ap line_of (one_entry h k l _ (NotReplaced e) Replaced all a c) ∙ sym d, one_history h k l _ (NotReplaced e) Replaced all a c)
  one_replace_line h k l by start size m n all (not_replaced e a b) (not_replaced f c d) = (b ∙ ap line_of (one_entry h k l _ (NotReplaced e) (NotReplaced f) all a c) ∙ sym d, one_history h k l _ (NotReplaced e) (NotReplaced f) all a c)

  -- an event has one line, one history and one list of tickets
  one_event_line : (h k l : History) (ts us vs : List (Option TicketValues)) (e : InputEvent ℕ) (m n : List ℕ) → AllAnswers h
      → EventLine h ts e m k us → EventLine h ts e n l vs → (m ≡ n) × (k ≡ l) × (us ≡ vs)
  one_event_line h k l ts us vs (input.Take now echo mid d) m n all (x, r, goes, after, text) (y, s, goes_too, after_too, text_too) =
      let same = one_entry h k l (Datagram now echo mid d) (Took x r) (Took y s) all goes goes_too in (
        text ∙ ap line_of same ∙ sym text_too,
        one_history h k l (Datagram now echo mid d) (Took x r) (Took y s) all goes goes_too,
        after ∙ ap (λ (entry : Entry). ts ++ given_by entry ∷ []) same ∙ sym after_too,
      )
  one_event_line h k l ts us vs (input.Reply of own mid plain) m n all (xs, line, after) (ys, line_too, after_too) =
      let same = one_answered_line h k l ts xs ys of (λ t p. Reply t (asks_own t own) mid p (reply_room plain)) (slice_set ts of None) plain m n all line line_too in
      (same.0, same.1, after ∙ ap (λ (zs : List (Option TicketValues)). zs ++ None ∷ []) same.2 ∙ sym after_too)
  one_event_line h k l ts us vs (input.Notify of plain) m n all (line, after) (line_too, after_too) =
      let same = one_answered_line h k l ts ts ts of (λ t p. Notify t p (reply_room plain)) ts plain m n all line line_too in
      (same.0, same.1, after ∙ sym after_too)
  one_event_line h k l ts us vs (input.Drop of) m n all (xs, (text, same, used), after) (ys, (text_too, same_too, used_too), after_too) =
      (text ∙ sym text_too, same ∙ sym same_too, after ∙ ap (λ (zs : List (Option TicketValues)). zs ++ None ∷ []) (used ∙ sym used_too) ∙ sym after_too)
  one_event_line h k l ts us vs (input.Restart next) m n all (line, after) (line_too, after_too) =
      let same = one_restart_line h k l next m n all line line_too in
      (same.0, same.1, after ∙ sym after_too)

  all_on : (h k : History) (event : Event) (x : Entry) → AllAnswers h → GoesOn h event x k → AllAnswers k
  all_on h k event x all goes = subst AllAnswers (sym goes.1) (all, goes.0)

  answered_on : (h k : History) (ts us : List (Option TicketValues)) (of : ℕ) (event : TicketValues → Parts → Event) (left : List (Option TicketValues)) (plain m : List ℕ) → AllAnswers h → AnsweredLine h ts of event left plain m k us → AllAnswers k
  answered_on h k ts us of event left plain m all (no_ticket none a b c) = subst AllAnswers (sym b) all
  answered_on h k ts us of event left plain m all (bad_plain t fault place at has a b c) = subst AllAnswers (sym b) all
  answered_on h k ts us of event left plain m all (replied t p bytes at is goes a b) = all_on h k _ _ all goes
  answered_on h k ts us of event left plain m all (refused t p e at is goes a b) = all_on h k _ _ all goes

  -- all entries are answers afterwards too
  event_on : (h k : History) (ts us : List (Option TicketValues)) (e : InputEvent ℕ) (m : List ℕ) → AllAnswers h → EventLine h ts e m k us → AllAnswers k
  event_on h k ts us (input.Take now echo mid d) m all (x, r, goes, after, text) = all_on h k _ _ all goes
  event_on h k ts us (input.Reply of own mid plain) m all (xs, line, after) = answered_on h k ts xs of (λ t p. Reply t (asks_own t own) mid p (reply_room plain)) (slice_set ts of None) plain m all line
  event_on h k ts us (input.Notify of plain) m all (line, after) = answered_on h k ts ts of (λ t p. Notify t p (reply_room plain)) ts plain m all line
  event_on h k ts us (input.Drop of) m all (left, (text, same, used), after) = subst AllAnswers (sym same) all
  event_on h k ts us (input.Restart next) m all (restarted goes text, after) = all_on h k _ _ all goes
  event_on h k ts us (input.Restart next) m all (not_restarted e goes text, after) = all_on h k _ _ all goes

  replace_on : (h k : History) (by : SecurityContext) (start : Start) (size : WindowSize) (m : List ℕ) → AllAnswers h → ReplaceLine h by start size m k → AllAnswers k
  replace_on h k by start size m all (replaced goes text) = all_on h k _ _ all goes
  replace_on h k by start size m all (not_replaced e goes text) = all_on h k _ _ all goes

  same_state : (t u : ServingState) → t.history ≡ u.history → t.tickets ≡ u.tickets → t.features ≡ u.features → t.size ≡ u.size → t ≡ u
  same_state t u h ts x w = ap₂ (λ g us. made g us t.features t.size) h ts ∙ ap₂ (made u.history u.tickets) x w
    where
      made : History → List (Option TicketValues) → Features → WindowSize → ServingState
      made g us y size = record { history = g; tickets = us; features = y; size = size }

  -- the same, of a server of a run
  pub one_server_line : OneLine ServerLine (λ s. AllAnswers s.history)
  one_server_line s t u (lines.Event e) m n is (a, x) (b, y) =
      let same = one_event_line s.history t.history u.history s.tickets t.tickets u.tickets e m n is a b in
      (same.0, same_state t u same.1 same.2 (x.0 ∙ sym y.0) (x.1 ∙ sym y.1), event_on s.history t.history s.tickets t.tickets e m is a)
  one_server_line s t u (lines.Replace by start) m n is (a, left, x) (b, left_too, y) =
      let same = one_replace_line s.history t.history u.history _ start s.size m n is a b in
      (same.0, same_state t u same.1 (left ∙ sym left_too) (x.0 ∙ sym y.0) (x.1 ∙ sym y.1), replace_on s.history t.history _ start s.size m is a)
