-- How the code is seen: what requests, outcomes and results show of a client's answers.
use Rattle.std.specs.Prelude.{◌≡◌, ℕ, ◌-◌, Bool, true, false, List, take, Option, Some, None, Result, Ok, Err}
use Rattle.osc_coap.specs.Inner.{InnerParts}
use Rattle.osc_context.specs.Views.{number_of}
use Rattle.osc_protect.specs.Views.{message_of, opened_number}
use Rattle.osc_client.specs.declared.apart.Apart.{Apart}
use Rattle.osc_client.specs.declared.client_outcome.ClientOutcome.{ClientOutcome}
use Rattle.osc_client.specs.declared.client_outcome.ClientOutcome.TheVariants as client_outcomes
use Rattle.osc_client.specs.declared.client_outcome.RequestError.{RequestError}
use Rattle.osc_client.specs.declared.client_outcome.TooFewLeft.{TooFewLeft}
use Rattle.osc_client.specs.declared.pending.Pending.{Pending}
use Rattle.osc_client.specs.ClientHistory as client
use Rattle.osc_observe.specs.Views.{received_of}

-- a pending request, as the table keeps it (how the code is seen)
abbrev pub asked_of : Pending → client.Asked
asked_of p = record { token = p.token.items; number = number_of p.number; moment = p.moment; wait = p.wait }

-- the outcome of a client shows this answer (how the code is seen)
abbrev pub ClientShows : ClientOutcome → client.Answer → Type 0
ClientShows (client_outcomes.Malformed e) (client.Malformed fault place) = (e.fault ≡ fault) × (e.place ≡ place)
ClientShows client_outcomes.NotResponse client.NotResponse = Unit {0}
ClientShows client_outcomes.UnknownToken client.UnknownToken = Unit {0}
ClientShows client_outcomes.Unprotected client.Unprotected = Unit {0}
ClientShows client_outcomes.Undecodable client.Undecodable = Unit {0}
ClientShows client_outcomes.BadTag client.BadTag = Unit {0}
ClientShows client_outcomes.BadInner client.BadInner = Unit {0}
ClientShows client_outcomes.Old client.Old = Unit {0}
ClientShows (client_outcomes.Notified o piv) (client.Notified received number) = (received_of o ≡ received) × (number_of piv ≡ number)
ClientShows (client_outcomes.Deliver o piv) (client.Deliver received number) = (received_of o ≡ received) × (number_of piv ≡ number)
ClientShows outcome answer = ⊥

-- whether an outcome is a notification or else a delivery, and its request's number, the response's own Partial IV or none, and the message
-- (how the code is seen)
abbrev pub client_hearing_of : ClientOutcome → Option (Bool × ℕ × Option ℕ × InnerParts)
client_hearing_of (client_outcomes.Notified o piv) = Some (true, number_of piv, opened_number o, message_of o)
client_hearing_of (client_outcomes.Deliver o piv) = Some (false, number_of piv, opened_number o, message_of o)
client_hearing_of outcome = None

-- the entry of a Request whose text stands at the front of the buffer (how the code is seen)
abbrev pub request_entry : Result ℕ RequestError → List ℕ → client.Entry
request_entry (Ok n) out = client.Sent (take n out)
request_entry (Err e) out = client.NotSent e

-- of n places so many for registrations, and the others for other requests; or all for both (own rule)
abbrev pub apart_among : ℕ → Option ℕ → Option Apart
apart_among n None = None
apart_among n (Some registrations) = Some (record { registrations = registrations; others = n - registrations })

-- the entry of a Skip (how the code is seen)
abbrev pub skipped_entry : Result Unit TooFewLeft → client.Entry
skipped_entry (Ok x) = client.Skipped
skipped_entry (Err e) = client.NotSkipped
