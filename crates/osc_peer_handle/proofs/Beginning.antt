-- A peer in bytes that begins, and that goes on after a save. p are the bytes, o its numbers before a save, new those after it.
use Rattle.std.proofs.Common.{◌≡◌, ◌∙◌, ◌<◌, ◌≤◌, ◌^◌, inl, inr, sym, ap, subst, refl, arith, ℕ, List, [], Some, true}
use Rattle.std.proofs.lemmas.Option.{same_Some}
use Rattle.osc_context.specs.Reserving.{next_limit}
use Rattle.osc_context.specs.SecurityContext.{SecurityContext}
use Rattle.osc_client.specs.ClientHistory as asked
use Rattle.osc_life.specs.Life.{Life, born, next_own}
use Rattle.osc_life.specs.ServerHistory.{Add, Added, Begin, History, Then}
use Rattle.osc_life.specs.declared.start.Start.{Start}
use Rattle.osc_life.specs.declared.start.Start.TheVariants as starts
use Rattle.osc_window.specs.declared.window_size.WindowSize.{WindowSize}
use Rattle.osc_context_handle.specs.ContextBytes.{client_in, server_in}
use Rattle.osc_context_handle.specs.declared.context_handle.ContextHandle.{ContextHandle}
use Rattle.osc_handle.specs.ServerBytes.{AddsIn}
use Rattle.osc_handle.specs.SingleServerBytes.{server_of_one}
use Rattle.osc_handle.specs.SlotBytes.{IsSlotBytes}
use Rattle.osc_kept_ends.specs.Numbering.{Own, Load, Reserve, after, nothing_drawn, upcoming}
use Rattle.osc_kept_ends.specs.Peering.{IsPeerStart}
use Rattle.osc_handle.proofs.NumberSteps.{can_reserve, comes_next, loaded, reserved_more}
use Rattle.osc_handle.proofs.ServerSteps.{serves_with}
use Rattle.osc_handle.specs.KeptServerBytes.{ServesWith}
use Rattle.osc_handle.specs.Reserved.{AreReserved, WantsSave}
use Rattle.osc_peer_handle.proofs.AnswerSteps.{exchanged_in, life_of, not_behind}
use Rattle.osc_peer_handle.specs.PeerBytes.{AsksBehind, HasNumbers, IsSavedAs, ServesBehind, next_in}
use Rattle.osc_peer_handle.specs.declared.peer_handle.PeerHandle.{PeerHandle}

-- ---- a start

first_own : (context : SecurityContext) (start : Start) (size : WindowSize) (sender received : ℕ) → IsPeerStart 0 start sender received → next_own (born context start size) ≡ sender
first_own context (starts.Fresh first) size sender received is = let same = is.0 in omega (arith, same)
first_own context (starts.Restarted first) size sender received is = let same = is.0 in omega (arith, same)
first_own context (starts.Received first highest) size sender received is = let same = is.0 in omega (arith, same)
first_own context (starts.Reserved first highest kept) size sender received is = absurd (is.3 refl)

born_context : (context : SecurityContext) (start : Start) (size : WindowSize) → (born context start size).context ≡ context
born_context context (starts.Fresh first) size = refl
born_context context (starts.Restarted first) size = refl
born_context context (starts.Received first highest) size = refl
born_context context (starts.Reserved first highest kept) size = refl

begun_with : (p : PeerHandle) (context : SecurityContext) (start : Start) (size : WindowSize) (sender floor : ℕ) → AddsIn Begin context start size (Added 0) (server_of_one p.server.server)
    → IsSlotBytes p.server.server.slot → IsPeerStart 0 start sender p.received → p.server.reserved ≡ sender → sender ≤ 2 ^ 40 → floor ≤ sender
    → ServesWith p.server (after (Load sender) (nothing_drawn floor)) (Then Begin (Add context start size 1) (Added 0))
begun_with p context start size sender floor (row, serves) bytes starts reserved top least =
    let o = after (Load sender) (nothing_drawn floor) in
    serves_with p.server o (Then Begin (Add context start size 1) (Added 0)) serves bytes refl (ap (λ n. Some n) (first_own context start size sender p.received starts))
    (subst (AreReserved o) (sym reserved) (loaded sender floor least)) (omega (arith, reserved, top))

pub begun : (p : PeerHandle) (context : SecurityContext) (start : Start) (size : WindowSize) (sender floor : ℕ) → AddsIn Begin context start size (Added 0) (server_of_one p.server.server)
    → IsSlotBytes p.server.server.slot → IsPeerStart 0 start sender p.received → p.server.reserved ≡ sender → sender ≤ 2 ^ 40 → p.received ≤ 2 ^ 40 → floor ≤ sender
    → ServesBehind p (after (Load sender) (nothing_drawn floor)) (Then Begin (Add context start size 1) (Added 0))
begun p context start size sender floor adds bytes starts reserved top received least =
    let w = begun_with p context start size sender floor adds bytes starts reserved top least in
    not_behind p (after (Load sender) (nothing_drawn floor)) (Then Begin (Add context start size 1) (Added 0)) (record { server = w.whole; received = received }) w

pub begun_asking : (p : PeerHandle) (context : ContextHandle) (start : Start) (size : WindowSize) (sender floor room life_ms : ℕ) → AddsIn Begin (server_in context) start size (Added 0) (server_of_one p.server.server)
    → IsSlotBytes p.server.server.slot → IsPeerStart 0 start sender p.received → p.server.reserved ≡ sender → sender ≤ 2 ^ 40 → p.received ≤ 2 ^ 40 → floor ≤ sender → p.life_ms ≡ life_ms → p.clock ≡ 0
    → AsksBehind p [] room (after (Load sender) (nothing_drawn floor)) (asked.New (client_in context) sender life_ms)
begun_asking p context start size sender floor room life_ms adds bytes starts reserved top received least life_is clock_is =
    let o = after (Load sender) (nothing_drawn floor) in
    let w = begun_with p (server_in context) start size sender floor adds bytes starts reserved top least in
    let (of, is, context_is) = life_of p.server o (Then Begin (Add (server_in context) start size 1) (Added 0)) w in
    let same : server_in p.server.server.slot.context ≡ server_in context =
    sym context_is ∙ ap (λ (l : Life). l.context) (sym (same_Some (born (server_in context) start size) of is)) ∙ born_context (server_in context) start size in
    record {
      has = (begun p (server_in context) start size sender floor adds bytes starts reserved top received least).has;
      context_is = exchanged_in p.server.server.slot.context context same;
      life_is = life_is;
      clock_is = clock_is;
      apart_is = refl;
      least = omega arith;
      table = refl;
      differ = λ i j d less within. absurd (omega (arith, within));
      answers = tt;
    }

-- ---- a save

-- the bytes after it
abbrev pub saved_as : PeerHandle → ℕ → ℕ → ℕ → PeerHandle
saved_as p sender received generation = record p { server = record p.server { reserved = sender }; received = received; generation = generation }

has_saved : (p : PeerHandle) (o new : Own) (sender received generation : ℕ) → HasNumbers p o → upcoming new ≡ upcoming o → AreReserved new sender → p.server.reserved ≤ sender → sender ≤ 2 ^ 40 → received ≤ 2 ^ 40
    → HasNumbers (saved_as p sender received generation) new
has_saved p o new sender received generation has same numbers more top most =
    record {
      whole = record {
        server = record { bytes = has.whole.server.bytes; next = let within = has.whole.server.next in omega (arith, within, more); reserved = top };
        received = most;
      };
      next_is = has.next_is ∙ sym same;
      numbers = numbers;
    }

serves_saved : (p : PeerHandle) (o new : Own) (sender received generation : ℕ) (h : History) → HasNumbers (saved_as p sender received generation) new → upcoming new ≡ upcoming o → ServesBehind p o h
    → ServesBehind (saved_as p sender received generation) new h
serves_saved p o new sender received generation h has same w =
    record { has = has; reached = w.reached; serves = w.serves; one = w.one; reached_is = w.reached_is; least = let least = w.least in omega (arith, least, same) }

asks_saved : (p : PeerHandle) (o new : Own) (sender received generation : ℕ) (requests : List asked.Asked) (room : ℕ) (a : asked.History) → HasNumbers (saved_as p sender received generation) new → upcoming new ≡ upcoming o
    → AsksBehind p requests room o a → AsksBehind (saved_as p sender received generation) requests room new a
asks_saved p o new sender received generation requests room a has same w =
    record {
      has = has;
      context_is = w.context_is;
      life_is = w.life_is;
      clock_is = w.clock_is;
      apart_is = w.apart_is;
      least = let least = w.least in omega (arith, least, same);
      table = w.table;
      differ = w.differ;
      answers = w.answers;
    }

-- what a save does
abbrev pub Saves : PeerHandle → Own → ℕ → PeerHandle → Type 0
Saves p o sender q = (new : Own) × IsSavedAs sender o new × ((h : History) → ServesBehind p o h → ServesBehind q new h)
    × ((requests : List asked.Asked) (room : ℕ) (a : asked.History) → AsksBehind p requests room o a → AsksBehind q requests room new a)

saves : (p : PeerHandle) (o new : Own) (sender received generation : ℕ) → IsSavedAs sender o new → HasNumbers p o → upcoming new ≡ upcoming o → AreReserved new sender → p.server.reserved ≤ sender → sender ≤ 2 ^ 40
    → received ≤ 2 ^ 40 → Saves p o sender (saved_as p sender received generation)
saves p o new sender received generation is has same numbers more top most =
    let saved = has_saved p o new sender received generation has same numbers more top most in
    (new, is, λ h w. serves_saved p o new sender received generation h saved same w, λ requests room a w. asks_saved p o new sender received generation requests room a saved same w)

-- the Sender Sequence Number that was saved before
pub saves_same : (p : PeerHandle) (o : Own) (sender received generation : ℕ) → sender ≡ p.server.reserved → received ≤ 2 ^ 40 → HasNumbers p o → Saves p o sender (saved_as p sender received generation)
saves_same p o sender received generation is most has =
    let top : p.server.reserved ≤ 2 ^ 40 = has.whole.server.reserved in
    saves p o o sender received generation (inl (is ∙ sym has.numbers.limit_is, refl)) has refl (subst (AreReserved o) (sym is) has.numbers) (omega (arith, is)) (omega (arith, is, top)) most

-- or the next one that has to be
pub saves_more : (p : PeerHandle) (o : Own) (sender received generation : ℕ) → WantsSave true (next_in p) p.server.reserved → sender ≡ next_limit p.server.reserved → received ≤ 2 ^ 40 → HasNumbers p o
    → Saves p o sender (saved_as p sender received generation)
saves_more p o sender received generation wants is most has =
    let can = can_reserve o p.server.reserved has.numbers (subst (λ n. WantsSave true n p.server.reserved) has.next_is wants) in
    let comes : upcoming o ≡ o.next = comes_next o can.0 in
    let below : p.server.reserved < 2 ^ 40 = wants.1 in
    saves p o (after Reserve o) sender received generation (inr (is ∙ ap next_limit (sym has.numbers.limit_is), (can, refl))) has (sym comes)
    (subst (AreReserved (after Reserve o)) (sym is) (reserved_more o p.server.reserved has.numbers can)) (omega (arith, is, below)) (omega (arith, is)) most
