-- To be believed: a run of a client: the log of its events, and the history that they add to. h and g are the histories before and after, n
-- is the number of pending requests that there is room for.
use Rattle.std.specs.Prelude.{◌≡◌, ◌∷◌, [], ℕ, List, length}
use Rattle.osc_coap.specs.Datagram.{Parts, IsDatagram}
use Rattle.osc_coap.specs.Fault.{HasFault}
use Rattle.osc_context.specs.Views.{number_of}
use Rattle.osc_endpoint.specs.declared.client_event.ClientEvent.{ClientEvent}
use Rattle.osc_endpoint.specs.declared.client_event.ClientEvent.TheVariants as events
use Rattle.osc_endpoint.specs.declared.client_event.ClientEntry.{ClientEntry}
use Rattle.osc_endpoint.specs.declared.client_event.ClientEntry.TheVariants as entries
use Rattle.osc_client.specs.ClientHistory.{History, Then, Event, Entry, Answer, Request, Datagram, Forget, Restart, Advance, Sent, NotSent, Took, Forgot, Restarted, Advanced, next}
use Rattle.osc_client.specs.ClientAnswer.{ClientAnswer}
use Rattle.osc_client.specs.Views.{ClientShows}

-- the client answers the event with this entry, and the history continues with both (own rule)
abbrev pub GoesOn : ℕ → History → Event → Entry → History → Type 0
GoesOn n h event entry g = ClientAnswer n h event entry × (g ≡ Then h event entry)

-- a request of this plain text: what is sent has the next number; a text that isn't a message only moves the clock (own rule)
abbrev pub RequestStep : ℕ → History → ℕ → List ℕ → ℕ → ClientEntry → History → Type 0
RequestStep n h now plain room (entries.Sent number datagram) g =
    (number_of number ≡ next h) × (p : Parts) × IsDatagram p plain × GoesOn n h (Request now p room) (Sent datagram.now) g
RequestStep n h now plain room (entries.NotSent e) g = (p : Parts) × IsDatagram p plain × GoesOn n h (Request now p room) (NotSent e) g
RequestStep n h now plain room (entries.BadPlain e) g = HasFault plain e.fault e.place × GoesOn n h (Advance now) Advanced g
RequestStep n h now plain room entry g = ⊥

-- one event, its entry, and the history after it (own rule)
abbrev pub ClientRunStep : ℕ → History → ClientEvent → ClientEntry → History → Type 0
ClientRunStep n h (events.Request now plain out) entry g = RequestStep n h now plain.items (length out.items) entry g
ClientRunStep n h (events.Datagram now bytes) (entries.Took outcome) g =
    (answer : Answer) × ClientShows outcome answer × GoesOn n h (Datagram now bytes.items) (Took answer) g
ClientRunStep n h (events.Forget token) (entries.Forgot was_pending) g = GoesOn n h (Forget token.items) (Forgot was_pending) g
ClientRunStep n h (events.Restart first) entries.Restarted g = GoesOn n h (Restart (number_of first)) Restarted g
ClientRunStep n h event entry g = ⊥

-- the log of these events, one entry each, from this history on (own rule)
abbrev pub Run : ℕ → History → List ClientEvent → List ClientEntry → History → Type 0
Run n h [] [] g = g ≡ h
Run n h [] (entry ∷ log) g = ⊥
Run n h (event ∷ events) [] g = ⊥
Run n h (event ∷ events) (entry ∷ log) g = (mid : History) × ClientRunStep n h event entry mid × Run n mid events log g
