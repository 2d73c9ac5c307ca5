-- Runs of a server, one event after another.
use Rattle.std.proofs.Common.{◌≡◌, ◌<◌, ◌^◌, ℕ, zero, suc, ◌∙◌, sym, ap, subst, refl, Bool, true, Option, Some, None, Ok, Err, List, [], ◌∷◌, ◌++◌, take, slice_set}
use Rattle.std.specs.Prelude.{if◌then◌else◌, is_some, slice_get}
use Rattle.std.specs.Option.{option_and_then, option_map}
use Rattle.osc_context.specs.Views.{number_of}
use Rattle.osc_context.specs.declared.partial_iv.Piv.{Piv}
use Rattle.osc_life.specs.declared.ticket.Ticket.{Ticket}
use Rattle.osc_endpoint.specs.declared.server.ServerOf.{ServerOf}
use Rattle.osc_endpoint.specs.declared.server_event.ServerEvent.{ServerEvent}
use Rattle.osc_endpoint.specs.declared.server_event.ServerEvent.TheVariants as events
use Rattle.osc_endpoint.specs.declared.server_event.ServerEntry.{ServerEntry}
use Rattle.osc_endpoint.specs.declared.server_event.ServerEntry.TheVariants as entries
use Rattle.osc_endpoint.specs.Agrees.{Agrees}
use Rattle.osc_life.specs.Life.{Life, HasOwn, next_own}
use Rattle.osc_life.specs.ServerHistory.{History, TicketValues, life}
use Rattle.osc_endpoint.specs.ServerRun.{Run, ServerRunStep, response_number, ticket_at, values_in}
use Rattle.osc_endpoint.specs.Serving.{Serves}
use Rattle.osc_life.specs.Views.{values_of}

-- what stands at a place, and its values
pub ticket_seen : (ts : List (Option Ticket)) (i : ℕ) → ticket_at (values_in ts) i ≡ option_map values_of (option_and_then (λ t. t) (slice_get ts i))
ticket_seen [] i = refl
ticket_seen (None ∷ ts) zero = refl
ticket_seen (Some t ∷ ts) zero = refl
ticket_seen (t ∷ ts) (suc i) = ticket_seen ts i

-- whether something is left there
pub left_seen : (ts : List (Option Ticket)) (i : ℕ) (o : Option Ticket) → o ≡ option_and_then (λ t. t) (slice_get ts i) → is_some o ≡ is_some (ticket_at (values_in ts) i)
left_seen ts i o is = valued o ∙ ap is_some (ap (option_map values_of) is ∙ sym (ticket_seen ts i))
  where
    valued : (o : Option Ticket) → is_some o ≡ is_some (option_map values_of o)
    valued None = refl
    valued (Some t) = refl

-- what is taken from an empty place, put back, and taken out
pub none_taken : {A : Type 0} (ts : List (Option A)) (i : ℕ) → None ≡ option_and_then (λ t. t) (slice_get ts i) → slice_set ts i None ≡ ts
none_taken [] i h = refl
none_taken (t ∷ ts) zero h = ap (λ x. x ∷ ts) h
none_taken (t ∷ ts) (suc i) h = ap (λ xs. t ∷ xs) (none_taken ts i h)

pub put_again : (ts : List (Option Ticket)) (i : ℕ) (t : Ticket) → Some t ≡ option_and_then (λ t. t) (slice_get ts i) → slice_set (slice_set ts i None) i (Some t) ≡ ts
put_again [] i t h = refl
put_again (x ∷ ts) zero t h = ap (λ y. y ∷ ts) h
put_again (x ∷ ts) (suc i) t h = ap (λ xs. x ∷ xs) (put_again ts i t h)

pub values_taken : (ts : List (Option Ticket)) (i : ℕ) → values_in (slice_set ts i None) ≡ slice_set (values_in ts) i None
values_taken [] i = refl
values_taken (t ∷ ts) zero = refl
values_taken (t ∷ ts) (suc i) = ap (λ xs. option_map values_of t ∷ xs) (values_taken ts i)

pub values_more : (ts : List (Option Ticket)) (t : Option Ticket) → values_in (ts ++ t ∷ []) ≡ values_in ts ++ option_map values_of t ∷ []
values_more [] t = refl
values_more (x ∷ ts) t = ap (λ xs. option_map values_of x ∷ xs) (values_more ts t)

-- a step with the place that it adds
pub step_more : (h g : History) (ts us : List (Option TicketValues)) (e : ServerEvent) (x : ServerEntry) (o : Option TicketValues)
    → Serves h ts e x o g us → ServerRunStep h ts e x g (us ++ o ∷ [])
step_more h g ts us (events.Datagram a) (entries.Took seen reply) o (answer, logs, goes, is, same) = (answer, logs, goes, rw (is, same) refl)
step_more h g ts us (events.Reply answering) x o (step, is) = (us, step, rw is refl)
step_more h g ts us (events.Notify notifying) x o (step, is, same) = (step, rw (is, same) refl)
step_more h g ts us (events.Drop of) x o (step, is) = (us, step, rw is refl)
step_more h g ts us (events.Restart context next) (entries.Restarted (Ok y)) o (goes, is, same) = (goes, rw (is, same) refl)
step_more h g ts us (events.Restart context next) (entries.Restarted (Err e)) o (goes, is, same) = (goes, rw (is, same) refl)
step_more h g ts us e x o s = absurd s

-- a run goes on by one event
pub run_more : (h mid g : History) (ts vs us : List (Option TicketValues)) (es : List ServerEvent) (xs : List ServerEntry) (e : ServerEvent) (x : ServerEntry)
    → Run h ts es xs mid vs → ServerRunStep mid vs e x g us → Run h ts (es ++ e ∷ []) (xs ++ x ∷ []) g us
run_more h mid g ts vs us [] [] e x r s = (g, us, subst (λ k. ServerRunStep k ts e x g us) r.0 (subst (λ t. ServerRunStep mid t e x g us) r.1 s), (refl, refl))
run_more h mid g ts vs us [] (y ∷ ys) e x r s = absurd r
run_more h mid g ts vs us (d ∷ ds) [] e x r s = absurd r
run_more h mid g ts vs us (d ∷ ds) (y ∷ ys) e x r s = (r.0, r.1, r.2, run_more r.0 mid g r.1 vs us ds ys e x r.3 s)

-- ---- a reply by the run's own tickets

pub no_ticket : {N : ℕ} (h : History) (s : ServerOf N) (ts after : List (Option Ticket)) (of : ℕ) → Agrees s h
    → None ≡ option_and_then (λ t. t) (slice_get ts of) → after ≡ slice_set ts of None
    → (g : History) × ((ticket_at (values_in ts) of ≡ None) × (g ≡ h) × (values_in after ≡ values_in ts)) × Agrees s g
no_ticket h s ts after of a none is = (h, (ticket_seen ts of ∙ ap (option_map values_of) (sym none), refl, ap values_in (is ∙ none_taken ts of none)), a)

-- ---- the number of a response

-- it is the next one of the ticket's context, which is there and has one left if one is asked for
pub number_is : (h : History) (t : TicketValues) (own : Bool) (of : Life) (next : Option ℕ) (number : Option Piv) → life h t.context ≡ Some of → (own ≡ true → HasOwn of)
    → next ≡ option_map next_own (life h t.context) → ((n : ℕ) → next ≡ Some n → (own ≡ true → n < 2 ^ 40) → option_map number_of number ≡ (if own then Some n else None))
    → option_map number_of number ≡ response_number h t own
number_is h t own of next number there has is made =
    made (next_own of) (is ∙ ap (option_map next_own) there) has ∙ ap (λ (o : Option Life). if own then option_map next_own o else None) (sym there)

-- one event more, over the front of all events
pub run_on : (h mid g : History) (all : List ServerEvent) (i j : ℕ) (log after : List ServerEntry) (e : ServerEvent) (x : ServerEntry)
    (ts us vs : List (Option Ticket)) (t : Option Ticket)
    → Run h [] (take i all) log mid (values_in ts) → Serves mid (values_in ts) e x (option_map values_of t) g (values_in us)
    → take i all ++ e ∷ [] ≡ take j all → after ≡ log ++ x ∷ [] → vs ≡ us ++ t ∷ []
    → Run h [] (take j all) after g (values_in vs)
run_on h mid g all i j log after e x ts us vs t run serves events_are entries_are tickets_are =
    let step = step_more mid g (values_in ts) (values_in us) e x (option_map values_of t) serves in
    let more = run_more h mid g [] (values_in ts) (values_in us ++ option_map values_of t ∷ []) (take i all) log e x run step in
    let left : values_in us ++ option_map values_of t ∷ [] ≡ values_in vs = sym (values_more us t) ∙ ap values_in (sym tickets_are) in
    subst (λ es. Run h [] es after g (values_in vs)) events_are
    (subst (λ xs. Run h [] (take i all ++ e ∷ []) xs g (values_in vs)) (sym entries_are)
    (subst (λ us'. Run h [] (take i all ++ e ∷ []) (log ++ x ∷ []) g us') left more))
