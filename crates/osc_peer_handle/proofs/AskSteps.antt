-- A peer in bytes as it asks. p are the bytes before a call, q those after it, a is the history of its client, b that history once it passed over numbers, old are its
-- numbers, parts what its client is made of.
use Rattle.std.proofs.Common.{◌≡◌, ◌∙◌, ◌-◌, ◌<◌, ◌^◌, ◌≤◌, sym, ap, subst, refl, arith, ℕ, Bool, true, List, [], Option, Some, None}
use Rattle.osc_context.specs.declared.partial_iv.Piv.{Piv}
use Rattle.osc_context.specs.Views.{number_of}
use Rattle.std.specs.Prelude.{IfNone, IfSome}
use Rattle.osc_coap.specs.Datagram.{Parts}
use Rattle.osc_client.specs.Agrees.{ClientParts, PartsAgree, TokensDiffer, next_of}
use Rattle.osc_client.specs.ClientAnswer.{ClientAnswer}
use Rattle.osc_client.specs.ClientHistory.{Answer, Asked, Datagram, Entry, Event, Forget, Forgot, History, NotSent, Request, Sent, Skip, Skipped, Then, Took, apart, context, life_ms, next}
use Rattle.osc_laws.specs.ClientLaws.{AllClientAnswers}
use Rattle.osc_client.specs.declared.client_outcome.RequestError.{RequestError}
use Rattle.osc_life.specs.ServerHistory as served
use Rattle.osc_context_handle.specs.ContextBytes.{client_in}
use Rattle.osc_kept_ends.specs.KeptAsking.{draws, uses}
use Rattle.osc_kept_ends.specs.Numbering.{Own, Use, after, upcoming, Steps}
use Rattle.osc_kept_ends.specs.Peering.{ClientPasses}
use Rattle.osc_kept_ends.proofs.Drawing.{in_hand, upcoming_stays}
use Rattle.osc_handle.proofs.NumberSteps.{drawn_by, upcoming_within, used}
use Rattle.osc_handle.specs.Reserved.{AreReserved, WantsSave}
use Rattle.osc_peer_handle.proofs.AnswerSteps.{steps_rise}
use Rattle.osc_peer_handle.proofs.Passing.{slot_bytes_at}
use Rattle.osc_peer_handle.specs.PeerBytes.{AsksBehind, HasNumbers, IsPeer, ServesBehind, StepsAsking, next_in}
use Rattle.osc_peer_handle.specs.declared.peer_handle.PeerHandle.{PeerHandle}

-- a number below the limit is the next one, and the limit is where there is none
next_is : (o : Option Piv) (n : ℕ) → n ≤ 2 ^ 40 → IfSome o (λ number. number_of number ≡ n) → IfNone o (2 ^ 40 ≤ n) → next_of o ≡ n
next_is None n most given limit = omega (arith, most, limit)
next_is (Some number) n most given limit = given

-- what the client is made of, by the bytes and these requests
abbrev pub parts_of_peer : PeerHandle → List Asked → ClientParts
parts_of_peer p requests = record { context = client_in p.server.server.slot.context; life_ms = p.life_ms; clock = p.clock; next = next_in p; apart = None; pending = requests }

-- the client, once it passed over what the server used
pub caught_up_asking : (p : PeerHandle) (requests : List Asked) (room : ℕ) (o : Own) (a : History) → AsksBehind p requests room o a
    → (b : History) × ClientPasses room a b × PartsAgree (parts_of_peer p requests) b
caught_up_asking p requests room o a w =
    let count = upcoming o - next a in
    let least : next a ≤ upcoming o = w.least in
    let is : next_in p ≡ upcoming o = w.has.next_is in
    let within : upcoming o ≤ p.server.reserved = upcoming_within o p.server.reserved w.has.numbers in
    let top : p.server.reserved ≤ 2 ^ 40 = w.has.whole.server.reserved in
    let row : ClientAnswer room a (Skip count) Skipped = omega (arith, least, within, top) in (
      Then a (Skip count) Skipped,
      record { count = count; row = row; is = refl },
      record {
        context_is = w.context_is;
        life_is = w.life_is;
        clock_is = w.clock_is;
        next_is = omega (arith, least, is);
        apart_is = sym w.apart_is;
        table = w.table;
        differ = subst TokensDiffer w.table w.differ;
      },
    )

-- ---- the bytes of a peer with another next number and another clock

abbrev pub moved : PeerHandle → ℕ → ℕ → PeerHandle
moved p next clock = record p { server = record p.server { server = record p.server.server { slot = record p.server.server.slot { next = next } } }; clock = clock }

has_moved : (p : PeerHandle) (new : Own) (next clock : ℕ) → IsPeer p → next ≡ upcoming new → AreReserved new p.server.reserved → HasNumbers (moved p next clock) new
has_moved p new next clock whole is numbers =
    let top : p.server.reserved ≤ 2 ^ 40 = whole.server.reserved in
    let within : upcoming new ≤ p.server.reserved = upcoming_within new p.server.reserved numbers in
    record {
      whole = record {
        server = record { bytes = slot_bytes_at p.server.server.slot next (omega (arith, is, within, top)) whole.server.bytes; next = omega (arith, is, within); reserved = top };
        received = whole.received;
      };
      next_is = is;
      numbers = numbers;
    }

-- the server's role is only further behind
serves_moved : (p : PeerHandle) (old new : Own) (next clock : ℕ) (h : served.History) → HasNumbers (moved p next clock) new → upcoming old ≤ upcoming new → ServesBehind p old h
    → ServesBehind (moved p next clock) new h
serves_moved p old new next clock h has rises w =
    record {
      has = has;
      reached = w.reached;
      serves = w.serves;
      one = w.one;
      reached_is = w.reached_is;
      least = let least = w.least in omega (arith, least, rises);
    }

-- what the client came to is what the bytes and the requests say, and it isn't behind
asks_moved : (p : PeerHandle) (room : ℕ) (old new : Own) (a b : History) (event : Event) (entry : Entry) (requests later : List Asked) (parts : ClientParts) → AsksBehind p requests room old a
    → ClientPasses room a b → apart (Then b event entry) ≡ apart b → ClientAnswer room b event entry → PartsAgree parts (Then b event entry) → parts.pending ≡ later → TokensDiffer later
    → HasNumbers (moved p parts.next parts.clock) new → AsksBehind (moved p parts.next parts.clock) later room new (Then b event entry)
asks_moved p room old new a b event entry requests later parts w passes still row agrees table differ has =
    let same : b ≡ Then a (Skip passes.count) Skipped = passes.is in
    record {
      has = has;
      context_is = w.context_is ∙ ap context (sym same);
      life_is = w.life_is ∙ ap life_ms (sym same);
      clock_is = agrees.clock_is;
      apart_is = still ∙ ap apart same ∙ w.apart_is;
      least = let is = agrees.next_is in let comes = has.next_is in omega (arith, is, comes);
      table = sym table ∙ agrees.table;
      differ = differ;
      answers = (subst (AllClientAnswers room) (sym same) (w.answers, passes.row), row);
    }

-- ---- a step

-- what the client came to, and its numbers
steps_asking : (p : PeerHandle) (room : ℕ) (old new : Own) (a b : History) (event : Event) (entry : Entry) (requests later : List Asked) (parts : ClientParts) → AsksBehind p requests room old a
    → ClientPasses room a b → apart (Then b event entry) ≡ apart b → next b ≡ upcoming old → ClientAnswer room b event entry → PartsAgree parts (Then b event entry) → parts.pending ≡ later → TokensDiffer later
    → parts.next ≡ upcoming new → AreReserved new p.server.reserved → Steps (draws event) (uses b event entry) old new
    → StepsAsking p room a event entry old (moved p parts.next parts.clock) later
steps_asking p room old new a b event entry requests later parts w passes still reaches row agrees table differ is numbers steps =
    let has = has_moved p new parts.next parts.clock w.has.whole is numbers in
    record {
      b = b;
      passes = passes;
      reaches = reaches;
      row = row;
      new = new;
      numbers = steps;
      asks = asks_moved p room old new a b event entry requests later parts w passes still row agrees table differ has;
      serves = λ h x. serves_moved p old new parts.next parts.clock h has (steps_rise (draws event) (uses b event entry) old new p.server.reserved w.has.numbers steps) x;
    }

-- the next number is that of the client that passed over others
next_of_passed : (p : PeerHandle) (requests : List Asked) (room : ℕ) (old : Own) (a b : History) → AsksBehind p requests room old a → PartsAgree (parts_of_peer p requests) b → next b ≡ upcoming old
next_of_passed p requests room old a b w agrees = sym agrees.next_is ∙ w.has.next_is

-- a request that was sealed
sent : (p : PeerHandle) (room : ℕ) (old : Own) (a b : History) (now : ℕ) (plain : Parts) (size : ℕ) (bytes : List ℕ) (requests later : List Asked) (parts : ClientParts)
    → AsksBehind p requests room old a → ClientPasses room a b → PartsAgree (parts_of_peer p requests) b → (WantsSave true (next_in p) p.server.reserved → ⊥)
    → ClientAnswer room b (Request now plain size) (Sent bytes) → PartsAgree parts (Then b (Request now plain size) (Sent bytes)) → parts.pending ≡ later → TokensDiffer later
    → StepsAsking p room a (Request now plain size) (Sent bytes) old (moved p parts.next parts.clock) later
sent p room old a b now plain size bytes requests later parts w passes before wants row agrees table differ =
    let top = w.has.whole.server.reserved in
    let (mid, drawn, numbers) = drawn_by true old p.server.reserved w.has.numbers top (λ x. wants (subst (λ n. WantsSave true n p.server.reserved) (sym w.has.next_is) x)) in
    let next_is : next b ≡ upcoming old = next_of_passed p requests room old a b w before in
    let below : upcoming old < 2 ^ 40 = subst (λ n. n < 2 ^ 40) next_is row.0.2 in
    let hand : mid.hand ≡ Some (next b) = in_hand old mid drawn below ∙ ap (λ n. Some n) (sym next_is) in
    steps_asking p room old (after (Use (next b)) mid) a b (Request now plain size) (Sent bytes) requests later parts w passes refl next_is row agrees table differ
    (agrees.next_is ∙ numbers.last (next b) hand) (used mid (next b) p.server.reserved numbers) (mid, drawn, (hand, refl))

-- a request that wasn't
not_sent : (p : PeerHandle) (room : ℕ) (old : Own) (a b : History) (now : ℕ) (plain : Parts) (size : ℕ) (e : RequestError) (requests later : List Asked) (parts : ClientParts)
    → AsksBehind p requests room old a → ClientPasses room a b → PartsAgree (parts_of_peer p requests) b → (WantsSave true (next_in p) p.server.reserved → ⊥)
    → ClientAnswer room b (Request now plain size) (NotSent e) → PartsAgree parts (Then b (Request now plain size) (NotSent e)) → parts.pending ≡ later → TokensDiffer later
    → StepsAsking p room a (Request now plain size) (NotSent e) old (moved p parts.next parts.clock) later
not_sent p room old a b now plain size e requests later parts w passes before wants row agrees table differ =
    let top = w.has.whole.server.reserved in
    let (mid, drawn, numbers) = drawn_by true old p.server.reserved w.has.numbers top (λ x. wants (subst (λ n. WantsSave true n p.server.reserved) (sym w.has.next_is) x)) in
    let next_is : next b ≡ upcoming old = next_of_passed p requests room old a b w before in
    steps_asking p room old mid a b (Request now plain size) (NotSent e) requests later parts w passes refl next_is row agrees table differ
    (agrees.next_is ∙ next_is ∙ sym (upcoming_stays true old mid drawn)) numbers (mid, drawn, (tt, refl))

-- a datagram
took : (p : PeerHandle) (room : ℕ) (old : Own) (a b : History) (now : ℕ) (d : List ℕ) (answer : Answer) (requests later : List Asked) (parts : ClientParts)
    → AsksBehind p requests room old a → ClientPasses room a b → PartsAgree (parts_of_peer p requests) b → ClientAnswer room b (Datagram now d) (Took answer)
    → PartsAgree parts (Then b (Datagram now d) (Took answer)) → parts.pending ≡ later → TokensDiffer later
    → StepsAsking p room a (Datagram now d) (Took answer) old (moved p parts.next parts.clock) later
took p room old a b now d answer requests later parts w passes before row agrees table differ =
    let next_is = next_of_passed p requests room old a b w before in
    steps_asking p room old old a b (Datagram now d) (Took answer) requests later parts w passes refl next_is row agrees table differ
    (agrees.next_is ∙ next_is) w.has.numbers (old, refl, (tt, refl))

-- the same, where the values are those that the bytes get
pub sent_as : (p : PeerHandle) (room : ℕ) (old : Own) (a b : History) (now : ℕ) (plain : Parts) (size : ℕ) (bytes : List ℕ) (requests later : List Asked) (parts : ClientParts) (following clock : ℕ)
    → AsksBehind p requests room old a → ClientPasses room a b → PartsAgree (parts_of_peer p requests) b → (WantsSave true (next_in p) p.server.reserved → ⊥)
    → ClientAnswer room b (Request now plain size) (Sent bytes) → PartsAgree parts (Then b (Request now plain size) (Sent bytes)) → parts.pending ≡ later → TokensDiffer later
    → following ≡ parts.next → clock ≡ parts.clock → StepsAsking p room a (Request now plain size) (Sent bytes) old (moved p following clock) later
sent_as p room old a b now plain size bytes requests later parts following clock w passes before wants row agrees table differ next_is clock_is =
    subst (λ n. StepsAsking p room a (Request now plain size) (Sent bytes) old (moved p n clock) later) (sym next_is)
    (subst (λ n. StepsAsking p room a (Request now plain size) (Sent bytes) old (moved p parts.next n) later) (sym clock_is)
    (sent p room old a b now plain size bytes requests later parts w passes before wants row agrees table differ))

pub not_sent_as : (p : PeerHandle) (room : ℕ) (old : Own) (a b : History) (now : ℕ) (plain : Parts) (size : ℕ) (e : RequestError) (requests later : List Asked) (parts : ClientParts) (following clock : ℕ)
    → AsksBehind p requests room old a → ClientPasses room a b → PartsAgree (parts_of_peer p requests) b → (WantsSave true (next_in p) p.server.reserved → ⊥)
    → ClientAnswer room b (Request now plain size) (NotSent e) → PartsAgree parts (Then b (Request now plain size) (NotSent e)) → parts.pending ≡ later → TokensDiffer later
    → following ≡ parts.next → clock ≡ parts.clock → StepsAsking p room a (Request now plain size) (NotSent e) old (moved p following clock) later
not_sent_as p room old a b now plain size e requests later parts following clock w passes before wants row agrees table differ next_is clock_is =
    subst (λ n. StepsAsking p room a (Request now plain size) (NotSent e) old (moved p n clock) later) (sym next_is)
    (subst (λ n. StepsAsking p room a (Request now plain size) (NotSent e) old (moved p parts.next n) later) (sym clock_is)
    (not_sent p room old a b now plain size e requests later parts w passes before wants row agrees table differ))

pub took_as : (p : PeerHandle) (room : ℕ) (old : Own) (a b : History) (now : ℕ) (d : List ℕ) (answer : Answer) (requests later : List Asked) (parts : ClientParts) (clock : ℕ)
    → AsksBehind p requests room old a → ClientPasses room a b → PartsAgree (parts_of_peer p requests) b → ClientAnswer room b (Datagram now d) (Took answer)
    → PartsAgree parts (Then b (Datagram now d) (Took answer)) → parts.pending ≡ later → TokensDiffer later → clock ≡ parts.clock
    → StepsAsking p room a (Datagram now d) (Took answer) old (moved p (next_in p) clock) later
took_as p room old a b now d answer requests later parts clock w passes before row agrees table differ clock_is =
    let next_is : parts.next ≡ next_in p = agrees.next_is ∙ sym before.next_is in
    subst (λ n. StepsAsking p room a (Datagram now d) (Took answer) old (moved p n clock) later) next_is
    (subst (λ n. StepsAsking p room a (Datagram now d) (Took answer) old (moved p parts.next n) later) (sym clock_is)
    (took p room old a b now d answer requests later parts w passes before row agrees table differ))

-- a token that isn't waited for any more
pub forgot : (p : PeerHandle) (room : ℕ) (old : Own) (a b : History) (token : List ℕ) (was : Bool) (requests later : List Asked)
    → AsksBehind p requests room old a → ClientPasses room a b → PartsAgree (parts_of_peer p requests) b → ClientAnswer room b (Forget token) (Forgot was)
    → PartsAgree (parts_of_peer p later) (Then b (Forget token) (Forgot was)) → TokensDiffer later → StepsAsking p room a (Forget token) (Forgot was) old p later
forgot p room old a b token was requests later w passes before row agrees differ =
    steps_asking p room old old a b (Forget token) (Forgot was) requests later (parts_of_peer p later) w passes refl (next_of_passed p requests room old a b w before) row agrees refl differ w.has.next_is w.has.numbers (old, refl, (tt, refl))

-- a client with these values is made of what the bytes and the requests say
pub made_of : (p : PeerHandle) (parts : ClientParts) (requests : List Asked)
    → parts ≡ record { context = client_in p.server.server.slot.context; life_ms = p.life_ms; clock = p.clock; next = next_in p; apart = None; pending = [] } → record parts { pending = requests } ≡ parts_of_peer p requests
made_of p parts requests is = ap (λ (x : ClientParts). record x { pending = requests }) is
