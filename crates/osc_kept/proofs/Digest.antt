-- The deeds of a world, and that what was sent, delivered and answered is the same of both.
use Rattle.std.proofs.Common.{◌≡◌, ℕ, ◌∙◌, sym, ap, refl, Bool, true, Option, Some, None, List, [], ◌∷◌, ◌++◌}
use Rattle.osc_coap.specs.Datagram.{Parts}
use Rattle.osc_context.specs.SecurityContext.{SecurityContext}
use Rattle.osc_protect.specs.Protection.{as_notified}
use Rattle.std.specs.List.{cons_option}
use Rattle.std.specs.Option.{option_map}
use Rattle.osc_protect.specs.Sealed.{inside}
use Rattle.osc_client.specs.ClientHistory as client
use Rattle.osc_life.specs.Life.{Life, next_own}
use Rattle.osc_life.specs.Replies.{challenge_message}
use Rattle.osc_life.specs.LifeAnswer.{own_number}
use Rattle.osc_life.specs.ServerHistory as server
use Rattle.osc_kept.specs.World.{World, Event, Begin, Then, ServerStarts, AtClient, AtServer, Request, client_history, server_life, response_in, sent, answered, delivered}
use Rattle.osc_kept.proofs.Deeds.{Deed, Sends, Begins, Renews, Skips, Spoils, Challenges, Delivers, Replies, Notifies, Nothing, sends, delivers, answers}

abbrev pub client_deed : Option client.History → client.Event → client.Entry → Deed
client_deed (Some h) (client.Request now p room) (client.Sent bytes) = Sends (client.next h) (inside p)
client_deed o event entry = Nothing

abbrev pub challenge_deed : Option Life → ℕ → List ℕ → ℕ → Deed
challenge_deed None n given issued = Nothing
challenge_deed (Some of) n given issued = Challenges n given issued (next_own of) (inside (challenge_message given))

abbrev pub reply_deed : Option Life → server.TicketValues → Bool → Parts → Deed
reply_deed None t own p = Nothing
reply_deed (Some of) t own p = Replies t (own_number own of) (inside p)

abbrev pub notify_deed : Option Life → server.TicketValues → Parts → Deed
notify_deed None t p = Nothing
notify_deed (Some of) t p = Notifies t (next_own of) (inside (as_notified p))

abbrev pub server_deed : Option Life → server.Event → server.Entry → Deed
server_deed l (server.Restart i next) server.Restarted = Renews next
server_deed l (server.Skip i count) server.Skipped = Skips count
server_deed l (server.Datagram now echo mid d) (server.Took (server.BadInner i n) reply) = Spoils n
server_deed l (server.Datagram now echo mid d) (server.Took (server.Challenge i n given issued) reply) = challenge_deed l n given issued
server_deed l (server.Datagram now echo mid d) (server.Took (server.Deliver received ticket) reply) = Delivers ticket received.message
server_deed l (server.Reply t own mid p room) (server.Replied bytes) = reply_deed l t own p
server_deed l (server.Notify t p room) (server.Replied bytes) = notify_deed l t p
server_deed l event entry = Nothing

abbrev pub deed : SecurityContext → World → Event → Deed
deed s w (ServerStarts start size) = Begins start size
deed s w (AtClient event entry) = client_deed (client_history s w) event entry
deed s w (AtServer event entry) = server_deed (server_life s w) event entry
deed s w event = Nothing

abbrev pub digest : SecurityContext → World → List Deed
digest s Begin = []
digest s (Then w event) = deed s w event ∷ digest s w

-- ---- requests

abbrev asked_in : Parts → client.History → Request
asked_in p h = record { number = client.next h; message = inside p }

sends_client : (s : SecurityContext) (w : World) (o : Option client.History) (event : client.Event) (entry : client.Entry) (ds : List Deed) → sent s w ≡ sends ds
    → client_history s w ≡ o → sent s (Then w (AtClient event entry)) ≡ sends (client_deed o event entry ∷ ds)
sends_client s w (Some h) (client.Request now p room) (client.Sent bytes) ds e f = ap (λ x. cons_option (option_map (asked_in p) x) (sent s w)) f ∙ ap (λ rs. record { number = client.next h; message = inside p } ∷ rs) e
sends_client s w None (client.Request now p room) (client.Sent bytes) ds e f = ap (λ x. cons_option (option_map (asked_in p) x) (sent s w)) f ∙ e
sends_client s w o event entry ds e f = e

pub sends_server : (o : Option Life) (event : server.Event) (entry : server.Entry) (ds : List Deed) → sends (server_deed o event entry ∷ ds) ≡ sends ds
sends_server (Some of) (server.Datagram now echo mid d) (server.Took (server.Challenge i n given issued) reply) ds = refl
sends_server (Some of) (server.Reply t own mid p room) (server.Replied bytes) ds = refl
sends_server None (server.Datagram now echo mid d) (server.Took (server.Challenge i n given issued) reply) ds = refl
sends_server None (server.Reply t own mid p room) (server.Replied bytes) ds = refl
sends_server (Some of) (server.Notify t p room) (server.Replied bytes) ds = refl
sends_server None (server.Notify t p room) (server.Replied bytes) ds = refl
sends_server o (server.Restart i next) server.Restarted ds = refl
sends_server o (server.Skip i count) server.Skipped ds = refl
sends_server o event entry ds = refl

pub sent_is : (s : SecurityContext) (w : World) → sent s w ≡ sends (digest s w)
sent_is s Begin = refl
sent_is s (Then w (AtClient event entry)) = sends_client s w (client_history s w) event entry (digest s w) (sent_is s w) refl
sent_is s (Then w (AtServer event entry)) = sent_is s w ∙ sym (sends_server (server_life s w) event entry (digest s w))
sent_is s (Then w event) = sent_is s w

-- ---- deliveries

delivers_client : (o : Option client.History) (event : client.Event) (entry : client.Entry) (ds : List Deed) → delivers (client_deed o event entry ∷ ds) ≡ delivers ds
delivers_client (Some h) (client.Request now p room) (client.Sent bytes) ds = refl
delivers_client o event entry ds = refl

delivers_server : (w : World) (o : Option Life) (event : server.Event) (entry : server.Entry) (ds : List Deed) → delivered w ≡ delivers ds
    → delivered (Then w (AtServer event entry)) ≡ delivers (server_deed o event entry ∷ ds)
delivers_server w o (server.Datagram now echo mid d) (server.Took (server.Deliver received ticket) reply) ds e = ap (λ ns. ticket.number ∷ ns) e
delivers_server w (Some of) (server.Datagram now echo mid d) (server.Took (server.Challenge i n given issued) reply) ds e = e
delivers_server w None (server.Datagram now echo mid d) (server.Took (server.Challenge i n given issued) reply) ds e = e
delivers_server w (Some of) (server.Reply t own mid p room) (server.Replied bytes) ds e = e
delivers_server w None (server.Reply t own mid p room) (server.Replied bytes) ds e = e
delivers_server w (Some of) (server.Notify t p room) (server.Replied bytes) ds e = e
delivers_server w None (server.Notify t p room) (server.Replied bytes) ds e = e
delivers_server w o (server.Restart i next) server.Restarted ds e = e
delivers_server w o (server.Skip i count) server.Skipped ds e = e
delivers_server w o event entry ds e = e

pub delivered_is : (s : SecurityContext) (w : World) → delivered w ≡ delivers (digest s w)
delivered_is s Begin = refl
delivered_is s (Then w (AtClient event entry)) = delivered_is s w ∙ sym (delivers_client (client_history s w) event entry (digest s w))
delivered_is s (Then w (AtServer event entry)) = delivers_server w (server_life s w) event entry (digest s w) (delivered_is s w)
delivered_is s (Then w event) = delivered_is s w

-- ---- responses

answers_client : (o : Option client.History) (event : client.Event) (entry : client.Entry) (ds : List Deed) → answers (client_deed o event entry ∷ ds) ≡ answers ds
answers_client (Some h) (client.Request now p room) (client.Sent bytes) ds = refl
answers_client o event entry ds = refl

answers_server : (s : SecurityContext) (w : World) (o : Option Life) (event : server.Event) (entry : server.Entry) (ds : List Deed) → answered s w ≡ answers ds
    → server_life s w ≡ o → answered s (Then w (AtServer event entry)) ≡ answers (server_deed o event entry ∷ ds)
answers_server s w (Some of) (server.Datagram now echo mid d) (server.Took (server.Challenge i n given issued) reply) ds e f =
    ap (λ x. response_in x n true (challenge_message given) ++ answered s w) f ∙ ap (λ rs. record { number = n; own = Some (next_own of); message = inside (challenge_message given) } ∷ rs) e
answers_server s w None (server.Datagram now echo mid d) (server.Took (server.Challenge i n given issued) reply) ds e f =
    ap (λ x. response_in x n true (challenge_message given) ++ answered s w) f ∙ e
answers_server s w (Some of) (server.Reply t own mid p room) (server.Replied bytes) ds e f =
    ap (λ x. response_in x t.number own p ++ answered s w) f ∙ ap (λ rs. record { number = t.number; own = own_number own of; message = inside p } ∷ rs) e
answers_server s w None (server.Reply t own mid p room) (server.Replied bytes) ds e f = ap (λ x. response_in x t.number own p ++ answered s w) f ∙ e
answers_server s w (Some of) (server.Notify t p room) (server.Replied bytes) ds e f =
    ap (λ x. response_in x t.number true (as_notified p) ++ answered s w) f ∙ ap (λ rs. record { number = t.number; own = Some (next_own of); message = inside (as_notified p) } ∷ rs) e
answers_server s w None (server.Notify t p room) (server.Replied bytes) ds e f = ap (λ x. response_in x t.number true (as_notified p) ++ answered s w) f ∙ e
answers_server s w o (server.Restart i next) server.Restarted ds e f = e
answers_server s w o (server.Skip i count) server.Skipped ds e f = e
answers_server s w o event entry ds e f = e

pub answered_is : (s : SecurityContext) (w : World) → answered s w ≡ answers (digest s w)
answered_is s Begin = refl
answered_is s (Then w (AtClient event entry)) = answered_is s w ∙ sym (answers_client (client_history s w) event entry (digest s w))
answered_is s (Then w (AtServer event entry)) = answers_server s w (server_life s w) event entry (digest s w) (answered_is s w) refl
answered_is s (Then w event) = answered_is s w
