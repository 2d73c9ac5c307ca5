-- What a call of a peer leaves of its two roles: neither has reached the number with which the peer seals next. s is a server, c a client, h and k their
-- histories, next is that number.
use Rattle.std.proofs.Common.{◌≡◌, ℕ, ◌+◌, ◌<◌, ◌≤◌, ◌^◌, ◌∙◌, sym, ap, subst, refl, arith, Bool, true, false, List, Option, Some, None, Result, Ok, Err, IsOk, IsErr, inl, inr}
use Rattle.std.specs.Prelude.{unwrap_or}
use Rattle.std.specs.Option.{option_map}
use Rattle.osc_context.specs.Views.{number_of}
use Rattle.osc_context.specs.declared.partial_iv.Piv.{Piv}
use Rattle.osc_context.specs.SecurityContext.{SecurityContext}
use Rattle.osc_window.specs.declared.gate.Gate.{Gate}
use Rattle.osc_window.specs.declared.window_size.WindowSize.{WindowSize}
use Rattle.osc_client.specs.declared.client.Client.{Client}
use Rattle.osc_client.specs.ClientHistory as client
use Rattle.osc_endpoint.specs.declared.server.ServerOf.{ServerOf}
use Rattle.osc_endpoint.specs.ServerAnswer.{ServerAnswer}
use Rattle.osc_life.specs.declared.decision.Decided.{Decided}
use Rattle.osc_life.specs.declared.decision.Decision.{Decision}
use Rattle.osc_life.specs.declared.decision.Decision.TheVariants as decisions
use Rattle.osc_life.specs.declared.outcome.Outcome.{Outcome}
use Rattle.osc_life.specs.declared.outcome.Outcome.TheVariants as outcomes
use Rattle.osc_life.specs.declared.ticket.Ticket.{Ticket}
use Rattle.osc_life.specs.declared.start.Fresh.{Fresh}
use Rattle.osc_life.specs.declared.start.Start.{Start}
use Rattle.osc_life.specs.declared.start.Start.TheVariants as starts
use Rattle.osc_life.specs.declared.server_error.AddError.{AddError}
use Rattle.osc_life.specs.declared.server_error.AddError.TheVariants.{Full, SameLookup}
use Rattle.osc_life.specs.declared.server_error.SkipError.{SkipError}
use Rattle.osc_life.specs.declared.server_error.SkipError.TheVariants.{NoSuchContext, TooFewLeft}
use Rattle.osc_life.specs.Deciding.{Decides}
use Rattle.osc_life.specs.Life.{Life, born, next_own}
use Rattle.osc_life.specs.LifeAnswer.{LifeSkip}
use Rattle.osc_life.specs.ServerHistory as server
use Rattle.osc_life.specs.Views.{Shows, values_of}
use Rattle.osc_kept_ends.specs.KeptAsking as asking
use Rattle.osc_kept_ends.specs.KeptServing as serving
use Rattle.osc_kept_ends.specs.Numbering.{Draws, Goes, Load, Own, Stay, Steps, after, upcoming}
use Rattle.osc_kept_ends.specs.Peering.{ClientIsBehind, DeliversBelow, IsKeptOn, IsPeerStart, MayDraw, ServerIsBehind, TakesBelow, received_at, received_by, received_with}
use Rattle.osc_kept_ends.specs.Sharing.{IsRestingStart}
use Rattle.osc_kept_ends.specs.TakingBack.{IsDelivery, IsGateOf, IsTakenBack}
use Rattle.osc_kept_ends.specs.Views.{IsLastDrawn, IsUsedUp, own_at}
use Rattle.osc_endpoint.specs.Agrees.{Agrees}
use Rattle.osc_kept_ends.proofs.ServerSteps.{only_first, succeeded_next}

-- ---- behind a number

pub server_still : (s : ServerOf 1) (h : server.History) (next more : ℕ) → next ≤ more → ServerIsBehind s next h → ServerIsBehind s more h
server_still s h next more less b =
    let least = b.least in
    record { agrees = b.agrees; one = b.one; reached = b.reached; reached_is = b.reached_is; least = omega (arith, least, less) }

pub client_still : {N : ℕ} (c : Client N) (k : client.History) (next more : ℕ) → next ≤ more → ClientIsBehind c next k → ClientIsBehind c more k
client_still c k next more less b = let least = b.least in record { agrees = b.agrees; least = omega (arith, least, less) }

-- behind a number that is the same
pub server_at : (s : ServerOf 1) (h : server.History) (next more : ℕ) → more ≡ next → ServerIsBehind s next h → ServerIsBehind s more h
server_at s h next more same b = server_still s h next more (omega (arith, same)) b

pub client_at : {N : ℕ} (c : Client N) (k : client.History) (next more : ℕ) → more ≡ next → ClientIsBehind c next k → ClientIsBehind c more k
client_at c k next more same b = client_still c k next more (omega (arith, same)) b

-- kept at a number that is the same
pub kept_at : (s : ServerOf 1) (h : server.History) (next more : ℕ) → more ≡ next → serving.IsKept s next h → serving.IsKept s more h
kept_at s h next more same k = record { agrees = k.agrees; one = k.one; next_is = k.next_is ∙ ap Some (sym same) }

pub asked_at : {N : ℕ} (c : Client N) (k : client.History) (next more : ℕ) → more ≡ next → asking.IsKept c next k → asking.IsKept c more k
asked_at c k next more same i = record { agrees = i.agrees; next_is = i.next_is ∙ sym same }

pub kept_behind : (s : ServerOf 1) (h : server.History) (next : ℕ) → serving.IsKept s next h → ServerIsBehind s next h
kept_behind s h next k = record { agrees = k.agrees; one = k.one; reached = next; reached_is = k.next_is; least = omega arith }

pub asked_behind : {N : ℕ} (c : Client N) (k : client.History) (next : ℕ) → asking.IsKept c next k → ClientIsBehind c next k
asked_behind c k next i = let same = i.next_is in record { agrees = i.agrees; least = omega (arith, same) }

-- ---- the number with which the peer seals next

hand_least : (old : Option Piv) (next : ℕ) → IsLastDrawn old next → unwrap_or (option_map number_of old) next ≤ next
hand_least None next last = omega arith
hand_least (Some p) next last = let e = last p refl in omega (arith, e)

-- it never sinks
pub rises : (floor next limit : ℕ) (old new : Option Piv) → IsUsedUp old new → IsLastDrawn old next → upcoming (own_at floor next limit old) ≤ upcoming (own_at floor next limit new)
rises floor next limit old new (inl same) last = subst (λ (h : Option Piv). upcoming (own_at floor next limit old) ≤ upcoming (own_at floor next limit h)) (sym same) (omega arith)
rises floor next limit old new (inr none) last = subst (λ (h : Option Piv). upcoming (own_at floor next limit old) ≤ upcoming (own_at floor next limit h)) (sym none) (hand_least old next last)

-- ---- passing over

pub some_is : {A : Type 0} {a b : A} → Some a ≡ Some b → a ≡ b
some_is e = cc

-- a context that is there lets numbers below 2 ^ 40 be passed over
pub never_refused : (o : Option Life) (count reached : ℕ) (e : SkipError) → option_map next_own o ≡ Some reached → reached + count ≤ 2 ^ 40 → LifeSkip o count (server.NotSkipped e) → ⊥
never_refused None count reached e there fits row = let f : None ≡ Some reached = there in cc
never_refused (Some l) count reached NoSuchContext there fits row = row
never_refused (Some l) count reached TooFewLeft there fits row =
    let same : next_own l ≡ reached = some_is there in
    omega (arith, same, fits, row)

-- ---- a delivery that is taken back

-- the context of a delivery is the one that is there
pub delivers_first : (s : ServerOf 1) (g : server.History) (next now mid : ℕ) (echo d reply : List ℕ) (received : _) (t : server.TicketValues) → serving.IsKept s next g
    → ServerAnswer g (server.Datagram now echo mid d) (server.Took (server.Deliver received t) reply) → t.context ≡ 0
delivers_first s g next now mid echo d reply received t k row =
    ap (λ (v : server.TicketValues). v.context) row.0.4.2 ∙ only_first s g row.0.0 row.0.2 k.agrees k.one row.0.3.life_is

-- the context is there
pub life_there : (o : Option Life) (next : ℕ) → option_map next_own o ≡ Some next → (l : Life) × (o ≡ Some l)
life_there None next is = absurd (let e : None ≡ Some next = is in cc)
life_there (Some l) next is = (l, refl)

-- a delivery was answered by a delivery of its ticket
pub from_delivery : (x : _) (t : Ticket) (left : List ℕ) (answer : server.Answer) → Decides (decisions.Deliver x t) left answer
    → (received : _) × (answer ≡ server.Deliver received (values_of t))
from_delivery x t left (server.Deliver received ticket) d = (received, ap (server.Deliver received) (sym d.1))
from_delivery x t left answer d = absurd d

drawn_alone : (asked : Bool) (old mid new : Own) → Draws asked old mid → Goes Stay mid new → MayDraw old new
drawn_alone true old mid new d g = inr (subst (Draws true old) (sym g.1) d)
drawn_alone false old mid new d g = inl (g.1 ∙ d)

-- a delivery uses no number
pub delivery_draws : (decision : Decision) (left : List ℕ) (answer : server.Answer) (h : server.History) (now mid : ℕ) (echo d reply : List ℕ) (asked : Bool) (old new : Own) → IsDelivery decision
    → Decides decision left answer → Steps asked (serving.uses h (server.Datagram now echo mid d) (server.Took answer reply)) old new → MayDraw old new
delivery_draws (decisions.Deliver x t) left (server.Deliver received ticket) h now mid echo d reply asked old new is decides steps = drawn_alone asked old steps.0 new steps.1 steps.2
delivery_draws (decisions.Deliver x t) left answer h now mid echo d reply asked old new is decides steps = absurd decides
delivery_draws decision left answer h now mid echo d reply asked old new is decides steps = absurd is

-- a record that keeps a number leaves the number with which the peer seals next
pub upcoming_on : (mid new : Own) → IsKeptOn mid new → upcoming new ≡ upcoming mid
upcoming_on mid new (inl same) = ap upcoming same
upcoming_on mid new (inr saved) = ap upcoming saved

-- a delivery that was taken back moved the clock alone
pub waited : (s old new : ServerOf 1) (gate : Option Gate) (g : server.History) (next more now : ℕ) (fresh : Fresh) (d : List ℕ) (result : Decided) (left reply : List ℕ) (before mid : Own)
    → IsTakenBack result.decision gate old new → serving.IsKept s next g → IsGateOf gate g → serving.KeptDecides g now fresh d result left reply before mid old → next ≤ more
    → ServerIsBehind new more (server.Then g (server.Advance now) server.Advanced)
waited s old new gate g next more now fresh d result left reply before mid back k gates t less = record {
  agrees = back s next g now fresh.mid fresh.echo d left reply t.answer k gates t.step.row t.decides t.step.kept.agrees;
  one = k.one;
  reached = next;
  reached_is = k.next_is;
  least = less;
}

-- whether its number could be kept or not, the server stays behind
pub kept_or_back : {E : Type 0} (r : Result Unit E) (s old new : ServerOf 1) (gate : Option Gate) (g : server.History) (next more now : ℕ) (fresh : Fresh) (d : List ℕ) (result : Decided) (left reply : List ℕ)
    (before mid : Own) → (IsOk r → new ≡ old) → (IsErr r → IsTakenBack result.decision gate old new) → serving.IsKept s next g → IsGateOf gate g
    → serving.KeptDecides g now fresh d result left reply before mid old → next ≤ more → upcoming mid ≤ more → (h : server.History) × ServerIsBehind new more h
kept_or_back (Ok x) s old new gate g next more now fresh d result left reply before mid same back k gates t less least =
    let h = server.Then g (server.Datagram now fresh.echo fresh.mid d) (server.Took t.answer reply) in
    (h, server_still new h (upcoming mid) more least (subst (λ (z : ServerOf 1). ServerIsBehind z (upcoming mid) h) (sym (same refl)) (kept_behind old h (upcoming mid) t.step.kept)))
kept_or_back (Err e) s old new gate g next more now fresh d result left reply before mid same back k gates t less least =
    (server.Then g (server.Advance now) server.Advanced, waited s old new gate g next more now fresh d result left reply before mid (back refl) k gates t less)

-- ---- a delivery as an outcome

-- what was answered by a delivery was decided as one
decided_from : (decision : Decision) (left : List ℕ) (received : _) (ticket : server.TicketValues) → Decides decision left (server.Deliver received ticket)
    → (x : _) × (t : Ticket) × (decision ≡ decisions.Deliver x t) × (values_of t ≡ ticket)
decided_from (decisions.Deliver x t) left received ticket d = (x, t, refl, d.1)
decided_from decision left received ticket d = absurd d

-- the ticket that is shown has the number of the ticket that was decided
pub shown_below : (decision : Decision) (left : List ℕ) (o : _) (u : Ticket) (answer : server.Answer) (floor : ℕ) → Decides decision left answer → Shows (outcomes.Deliver o u) answer
    → DeliversBelow decision floor → (values_of u).number < floor
shown_below decision left o u (server.Deliver received ticket) floor d s below =
    let (x, t, is, same) = decided_from decision left received ticket d in
    subst (λ (v : server.TicketValues). v.number < floor) (same ∙ sym s.1) (subst (λ (z : Decision). DeliversBelow z floor) is below)
shown_below decision left o u answer floor d s below = absurd s

-- what is known to be above all that was received is that of the outcome
pub shown_received : (ahead received known : ℕ) (decision : Decision) (left : List ℕ) (o : Outcome) (answer : server.Answer) → Decides decision left answer → Shows o answer
    → known ≤ received_by ahead received decision → known ≤ received_at ahead received o
shown_received ahead received known (decisions.Deliver x t) left (outcomes.Deliver o u) (server.Deliver r ticket) d s most =
    subst (λ (v : server.TicketValues). known ≤ received_with ahead received v.number) (d.1 ∙ sym s.1) most
shown_received ahead received known (decisions.Deliver x t) left o (server.Deliver r ticket) d s most = absurd s
shown_received ahead received known (decisions.Deliver x t) left o answer d s most = absurd d
shown_received ahead received known decision left (outcomes.Deliver o u) (server.Deliver r ticket) d s most = absurd d
shown_received ahead received known decision left (outcomes.Deliver o u) answer d s most = absurd s
shown_received ahead received known decision left o answer d s most = most

pub takes_below : (outcome : Outcome) (floor : ℕ) → ((o : _) (t : Ticket) → outcome ≡ outcomes.Deliver o t → (values_of t).number < floor) → TakesBelow outcome floor
takes_below (outcomes.Deliver o t) floor below = below o t refl
takes_below outcome floor below = tt

-- ---- a start

-- a start that isn't fresh draws no number
pub started_idle : (start : Start) (loaded : ℕ) (o : Own) → ((first : Piv) → start ≡ starts.Fresh first → ⊥) → serving.started start loaded o ≡ after (Load loaded) o
started_idle (starts.Fresh first) loaded o other = absurd (other first refl)
started_idle (starts.Restarted first) loaded o other = refl
started_idle (starts.Received first highest) loaded o other = refl
started_idle (starts.Reserved first highest ahead) loaded o other = refl

-- the life begins at the number that was loaded
pub born_at : (c : SecurityContext) (ahead : ℕ) (start : Start) (size : WindowSize) (sender received : ℕ) → IsPeerStart ahead start sender received → (born c start size).first ≡ sender
born_at c ahead (starts.Fresh first) size sender received is = is.0
born_at c ahead (starts.Restarted first) size sender received is = is.0
born_at c ahead (starts.Received first highest) size sender received is = is.0
born_at c ahead (starts.Reserved first highest kept) size sender received is = is.0

-- another context in the place of the one that the peer had
pub replaced : (s t : ServerOf 1) (h : server.History) (c : SecurityContext) (start : Start) (size : WindowSize) (old next : ℕ) → ServerIsBehind s old h
    → Agrees t (server.Then h (server.Replace 0 c start size) server.Replaced) → next ≡ (born c start size).first
    → serving.IsKept t next (server.Then h (server.Replace 0 c start size) server.Replaced)
replaced s t h c start size old next b a first = record { agrees = a; one = b.one; next_is = succeeded_next (server.life h 0) c start size b.reached next b.reached_is first }

-- the first context of a server is added
pub never_added : (s : SecurityContext) (start : Start) (size : WindowSize) (e : AddError) → ServerAnswer server.Begin (server.Add s start size 1) (server.NotAdded e) → ⊥
never_added s start size Full row = omega (arith, row.1)
never_added s start size SameLookup row = let none : None ≡ Some row.1.1.1 = row.1.1.2 in cc

-- ---- a peer without the source

-- the life begins at 0
pub born_resting : (c : SecurityContext) (ahead : ℕ) (start : Start) (size : WindowSize) (received : ℕ) → IsRestingStart ahead start received → (born c start size).first ≡ 0
born_resting c ahead (starts.Fresh first) size received is = absurd is
born_resting c ahead (starts.Restarted first) size received is = is.0
born_resting c ahead (starts.Received first highest) size received is = is.0
born_resting c ahead (starts.Reserved first highest kept) size received is = is.0
