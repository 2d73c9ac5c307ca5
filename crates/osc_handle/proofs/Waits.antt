-- What the numbers of a server's contexts stand for, after each event. u and v are the numbers of one context, us and vs those of all, w says
-- which numbers wait in a life of this count.
use Rattle.std.proofs.Common.{◌≡◌, ◌≢◌, ◌∙◌, ◌<◌, ◌≤◌, ◌+◌, sym, ap, subst, refl, arith, ℕ, zero, suc, Bool, true, false, not, ◌&&◌, ◌||◌, ◌==◌, List, [], ◌∷◌, Option, Some, None, length, slice_set, inl, inr, if◌then◌else◌}
use Rattle.std.specs.Prelude.{max, nat_le, slice_get}
use Rattle.std.specs.List.{All}
use Rattle.std.specs.Option.{option_map}
use Rattle.std.proofs.lemmas.Bool.Decides.{nat_tests}
use Rattle.std.proofs.lemmas.Bool.{and_left, both_ways, cases_eq, cond-false, eq-eqb, ne_eqb}
use Rattle.std.proofs.lemmas.List.Elements.{All-head, All-tail}
use Rattle.std.proofs.lemmas.Option.{none-some, same_Some, slice_get_within}
use Rattle.osc_coap.specs.Datagram.{Parts}
use Rattle.osc_window.specs.declared.window_size.WindowSize.{WindowSize}
use Rattle.osc_endpoint.proofs.Places.{same_life, slice_get-set_other}
use Rattle.osc_life.specs.Deciding.{Decides}
use Rattle.osc_context.specs.SecurityContext.{SecurityContext}
use Rattle.osc_life.specs.Life.{Answered, Challenged, Delivered, Life, Mark, PassedOver, Spoiled, born, marked, opened, spent}
use Rattle.osc_observe.specs.Received.{Received}
use Rattle.osc_endpoint.specs.ServerAnswer.{ServerAnswer}
use Rattle.osc_life.specs.ServerHistory as server
use Rattle.osc_laws.proofs.DeliveredNumbers.{admitted_near}
use Rattle.osc_laws.specs.Waiting.{is_far_above, is_to, lies_far_back, waits}
use Rattle.osc_life.specs.declared.decision.Decision.{Decision}
use Rattle.osc_life.specs.declared.start.Start.{Start}
use Rattle.osc_life.specs.declared.decision.Decision.TheVariants as decisions
use Rattle.osc_handle.specs.Noting.{AddsNumber, Notes, NotesTicket}
use Rattle.osc_handle.specs.ServerBytes.{Remembers, RemembersAt, RemembersLife}
use Rattle.osc_handle.specs.UnansweredBytes.{holds}
use Rattle.osc_handle.specs.declared.unanswered_handle.UnansweredHandle.{UnansweredHandle}

-- ---- one life

-- what is spent in a life stays so
all_before : (P : ℕ → Type 0) (fresh : Bool) (mark : Mark) (marks : List Mark) → All P (spent fresh (mark ∷ marks)) → All P (spent fresh marks)
all_before P fresh (Delivered n) marks h = All-tail P n (spent fresh marks) h
all_before P fresh (Spoiled n) marks h = all_shut (opened fresh marks) h where
  all_shut : (b : Bool) → All P (if b then n ∷ spent fresh marks else spent fresh marks) → All P (spent fresh marks)
  all_shut true k = All-tail P n (spent fresh marks) k
  all_shut false k = k
all_before P fresh (Challenged echo issued) marks h = h
all_before P fresh Answered marks h = h
all_before P fresh (PassedOver count) marks h = h

life_marked : (u : UnansweredHandle) (of : Life) (m : Option Mark) (w b : ℕ → Bool) → RemembersLife u of w b → RemembersLife u (marked m of) w b
life_marked u of None w b r = r
life_marked u of (Some mark) w b r = record { held = r.held; far = r.far; reach = λ bound some all. r.reach bound some (all_before (λ m. m < bound) of.open_at_birth mark of.marks all) }

marked_count : (m : Option Mark) (of : Life) → (marked m of).count ≡ of.count
marked_count None of = refl
marked_count (Some mark) of = refl

at_marked : (u : UnansweredHandle) (o : Option Life) (m : Option Mark) (w b : ℕ → ℕ → Bool) → RemembersAt u o w b → RemembersAt u (option_map (marked m) o) w b
at_marked u None m w b r = tt
at_marked u (Some of) m w b r = subst (λ c. RemembersLife u (marked m of) (w c) (b c)) (sym (marked_count m of)) (life_marked u of m (w of.count) (b of.count) r)

at_same : (u : UnansweredHandle) (o : Option Life) (w x b c : ℕ → ℕ → Bool) → ((k n : ℕ) → w k n ≡ x k n) → ((k n : ℕ) → b k n ≡ c k n) → RemembersAt u o w b → RemembersAt u o x c
at_same u None w x b c same back r = tt
at_same u (Some of) w x b c same back r = record { held = λ n. r.held n ∙ same of.count n; far = λ n. r.far n ∙ back of.count n; reach = r.reach }

-- ---- tickets to a request of one context

cond_or : (x y : Bool) → (if x then true else y) ≡ (x || y)
cond_or true y = refl
cond_or false y = refl

cond_and : (x y : Bool) → (if x then false else y) ≡ (not x && y)
cond_and true y = refl
cond_and false y = refl

same_and : (x y : Bool) → x ≡ true → (x && y) ≡ y
same_and true y e = refl
same_and false y e = absurd (both_ways false refl e)

to_same : (t : server.TicketValues) (c n : ℕ) → t.life ≡ c → is_to t.context c n t ≡ (n == t.number)
to_same t c n e =
    same_and (t.context == t.context) ((c == t.life) && (n == t.number)) (eq-eqb t.context t.context refl) ∙ same_and (c == t.life) (n == t.number) (eq-eqb c t.life (sym e))

far_same : (t : server.TicketValues) (c n : ℕ) → t.life ≡ c → is_far_above t.context c n t ≡ nat_le (n + 64) t.number
far_same t c n e =
    same_and (t.context == t.context) ((c == t.life) && nat_le (n + 64) t.number) (eq-eqb t.context t.context refl) ∙ same_and (c == t.life) (nat_le (n + 64) t.number) (eq-eqb c t.life (sym e))

to_other : (t : server.TicketValues) (j c n : ℕ) → j ≢ t.context → is_to j c n t ≡ false
to_other t j c n other = and_left (j == t.context) ((c == t.life) && (n == t.number)) (ne_eqb j t.context other)

far_other : (t : server.TicketValues) (j c n : ℕ) → j ≢ t.context → is_far_above j c n t ≡ false
far_other t j c n other = and_left (j == t.context) ((c == t.life) && nat_le (n + 64) t.number) (ne_eqb j t.context other)

and_not : (x b : Bool) → b ≡ false → (x && not b) ≡ x
and_not true false e = refl
and_not false false e = refl
and_not x true e = absurd (both_ways true e refl)

-- ---- a delivery

-- what is so far below the greater of two is so far below one of them
below_max : (n a b : ℕ) → nat_le n (max a b) ≡ (nat_le n b || nat_le n a)
below_max n a b = grind (arith, nat_tests)

delivered_here : (u v : UnansweredHandle) (of : Life) (t : server.TicketValues) (w x b c : ℕ → Bool) → RemembersLife u of w b → AddsNumber u v t.number → All (λ k. k < t.number + 64) (spent of.open_at_birth of.marks)
    → ((n : ℕ) → x n ≡ ((n == t.number) || (w n && not (nat_le (n + 64) t.number)))) → ((n : ℕ) → c n ≡ (nat_le (n + 64) t.number || b n)) → RemembersLife v (marked (Some (Delivered t.number)) of) x c
delivered_here u v of t w x b c r adds near is far =
    record {
      far = λ n. ap (nat_le (n + 64)) adds.highest ∙ (below_max (n + 64) u.highest t.number ∙ (ap (λ y. nat_le (n + 64) t.number || y) (r.far n) ∙ sym (far n)));
      held = λ n. adds.held (r.reach (t.number + 64) (omega arith) near) n ∙ (ap (λ b. (n == t.number) || (b && not (nat_le (n + 64) t.number))) (r.held n) ∙ sym (is n));
      reach = λ bound some all.
          let below = All-head (λ m. m < bound) t.number (spent of.open_at_birth of.marks) all in
          let old = r.reach bound some (All-tail (λ m. m < bound) t.number (spent of.open_at_birth of.marks) all) in
          subst (λ n. n < bound) (sym adds.highest) (max_below u.highest t.number bound old below);
    } where
      max_below : (a b bound : ℕ) → a < bound → b < bound → max a b < bound
      max_below a b bound p q = omega (arith, p, q)

remembers_delivery : (us vs : List UnansweredHandle) (h : server.History) (now mid : ℕ) (echo d : List ℕ) (received : Received) (t : server.TicketValues) (reply : List ℕ)
    → ServerAnswer h (server.Datagram now echo mid d) (server.Took (server.Deliver received t) reply) → NotesTicket us vs t → Remembers us h
    → Remembers vs (server.Then h (server.Datagram now echo mid d) (server.Took (server.Deliver received t) reply))
remembers_delivery us vs h now mid echo d received t reply ((i, n, of, request, (receives, admits, values)), none) notes r =
    let g = server.Then h (server.Datagram now echo mid d) (server.Took (server.Deliver received t) reply) in
    let there : server.life h t.context ≡ Some of = ap (λ (v : server.TicketValues). server.life h v.context) values ∙ request.life_is in
    let count : t.life ≡ of.count = ap (λ (v : server.TicketValues). v.life) values in
    let number : t.number ≡ n = ap (λ (v : server.TicketValues). v.number) values in
    let near : All (λ k. k < t.number + 64) (spent of.open_at_birth of.marks) = subst (λ m. All (λ k. k < m + 64) (spent of.open_at_birth of.marks)) (sym number) (admitted_near of (max (server.clock h) now) n received.message admits) in
    record {
      at = λ j v e. elim (cases_eq j t.context) [
        | inl same ↦
            let (u, was, adds) = notes.at v (sym (ap (slice_get vs) same) ∙ e) in
            let old : RemembersLife u of (waits h t.context of.count) (lies_far_back h t.context of.count) = subst (λ o. RemembersAt u o (waits h t.context) (lies_far_back h t.context)) there (r.at t.context u was) in
            let new : RemembersLife v (marked (Some (Delivered t.number)) of) (waits g t.context of.count) (lies_far_back g t.context of.count) =
            delivered_here u v of t (waits h t.context of.count) (waits g t.context of.count) (lies_far_back h t.context of.count) (lies_far_back g t.context of.count) old adds near
            (λ m. cond_or (is_to t.context of.count m t) (waits h t.context of.count m && not (is_far_above t.context of.count m t))
            ∙ (ap (λ b. b || (waits h t.context of.count m && not (is_far_above t.context of.count m t))) (to_same t of.count m count)
            ∙ ap (λ b. (m == t.number) || (waits h t.context of.count m && not b)) (far_same t of.count m count)))
            (λ m. ap (λ b. b || lies_far_back h t.context of.count m) (far_same t of.count m count)) in
            let life_is : server.life g t.context ≡ Some (marked (Some (Delivered t.number)) of) =
            ap (λ b. option_map (marked (if b then Some (Delivered t.number) else None)) (server.life h t.context)) (eq-eqb t.context t.context refl) ∙ ap (option_map (marked (Some (Delivered t.number)))) there in
            subst (λ k. RemembersAt v (server.life g k) (waits g k) (lies_far_back g k)) (sym same) (subst (λ o. RemembersAt v o (waits g t.context) (lies_far_back g t.context)) (sym life_is) new)
        | inr other ↦
            let old = r.at j v (sym (notes.others j other) ∙ e) in
            let life_is : server.life g j ≡ server.life h j =
            same_life (server.life h j) (if j == t.context then Some (Delivered t.number) else None) (cond-false (j == t.context) (Some (Delivered t.number)) None (ne_eqb j t.context other)) in
            let same : (c m : ℕ) → waits h j c m ≡ waits g j c m =
            λ c m. sym (cond-false (is_to j c m t) true (waits h j c m && not (is_far_above j c m t)) (to_other t j c m other) ∙ and_not (waits h j c m) (is_far_above j c m t) (far_other t j c m other)) in
            let back : (c m : ℕ) → lies_far_back h j c m ≡ lies_far_back g j c m = λ c m. sym (ap (λ b. b || lies_far_back h j c m) (far_other t j c m other)) in
            subst (λ o. RemembersAt v o (waits g j) (lies_far_back g j)) (sym life_is) (at_same v (server.life h j) (waits h j) (waits g j) (lies_far_back h j) (lies_far_back g j) same back old)
      ];
    }

-- ---- other answers

-- an answer that delivers nothing leaves what waits
remembers_other : (us vs : List UnansweredHandle) (h g : server.History) (m : ℕ → Option Mark) → vs ≡ us → ((i : ℕ) → server.life g i ≡ option_map (marked (m i)) (server.life h i))
    → ((i c n : ℕ) → waits h i c n ≡ waits g i c n) → ((i c n : ℕ) → lies_far_back h i c n ≡ lies_far_back g i c n) → Remembers us h → Remembers vs g
remembers_other us vs h g m same life_is waits_is back_is r =
    record {
      at = λ i u e.
          subst (λ o. RemembersAt u o (waits g i) (lies_far_back g i)) (sym (life_is i))
          (at_marked u (server.life h i) (m i) (waits g i) (lies_far_back g i) (at_same u (server.life h i) (waits h i) (waits g i) (lies_far_back h i) (lies_far_back g i) (waits_is i) (back_is i) (r.at i u (sym (ap (λ (xs : List UnansweredHandle). slice_get xs i) same) ∙ e))));
    }

pub remembers_took : (us vs : List UnansweredHandle) (h : server.History) (now mid : ℕ) (echo d new : List ℕ) (decision : Decision) (answer : server.Answer) (reply : List ℕ)
    → ServerAnswer h (server.Datagram now echo mid d) (server.Took answer reply) → Decides decision new answer → Notes us vs decision → Remembers us h
    → Remembers vs (server.Then h (server.Datagram now echo mid d) (server.Took answer reply))
remembers_took us vs h now mid echo d new (decisions.Deliver x t) (server.Deliver received ticket) reply row decides notes r =
    remembers_delivery us vs h now mid echo d received ticket reply row (subst (NotesTicket us vs) decides.1 notes) r
remembers_took us vs h now mid echo d new (decisions.Malformed e) (server.Malformed fault place) reply row decides notes r = remembers_other us vs h _ (λ i. None) notes (λ i. refl) (λ i c n. refl) (λ i c n. refl) r
remembers_took us vs h now mid echo d new decisions.NotRequest server.NotRequest reply row decides notes r = remembers_other us vs h _ (λ i. None) notes (λ i. refl) (λ i c n. refl) (λ i c n. refl) r
remembers_took us vs h now mid echo d new decisions.Plain server.Plain reply row decides notes r = remembers_other us vs h _ (λ i. None) notes (λ i. refl) (λ i c n. refl) (λ i c n. refl) r
remembers_took us vs h now mid echo d new decisions.Undecodable server.Undecodable reply row decides notes r = remembers_other us vs h _ (λ i. None) notes (λ i. refl) (λ i c n. refl) (λ i c n. refl) r
remembers_took us vs h now mid echo d new decisions.NoContext server.NoContext reply row decides notes r = remembers_other us vs h _ (λ i. None) notes (λ i. refl) (λ i c n. refl) (λ i c n. refl) r
remembers_took us vs h now mid echo d new decisions.Replay server.Replay reply row decides notes r = remembers_other us vs h _ (λ i. None) notes (λ i. refl) (λ i c n. refl) (λ i c n. refl) r
remembers_took us vs h now mid echo d new decisions.BadTag server.BadTag reply row decides notes r = remembers_other us vs h _ (λ i. None) notes (λ i. refl) (λ i c n. refl) (λ i c n. refl) r
remembers_took us vs h now mid echo d new decisions.BadInner (server.BadInner k m) reply row decides notes r =
    remembers_other us vs h _ (λ i. server.mark_at i (server.BadInner k m)) notes (λ i. refl) (λ i c n. refl) (λ i c n. refl) r
remembers_took us vs h now mid echo d new (decisions.Challenge given issued) (server.Challenge k m value moment) reply row decides notes r =
    remembers_other us vs h _ (λ i. server.mark_at i (server.Challenge k m value moment)) notes (λ i. refl) (λ i c n. refl) (λ i c n. refl) r
remembers_took us vs h now mid echo d new decisions.SequenceExhausted server.SequenceExhausted reply row decides notes r = remembers_other us vs h _ (λ i. None) notes (λ i. refl) (λ i c n. refl) (λ i c n. refl) r
remembers_took us vs h now mid echo d new decision answer reply row decides notes r = absurd decides

pub remembers_notified : (us : List UnansweredHandle) (h : server.History) (t : server.TicketValues) (room : ℕ) (plain : Parts) (bytes : List ℕ) → Remembers us h
    → Remembers us (server.Then h (server.Notify t plain room) (server.Replied bytes))
remembers_notified us h t room plain bytes r = remembers_other us us h _ (λ i. server.reply_mark_at i t true) refl (λ i. refl) (λ i c n. refl) (λ i c n. refl) r

-- numbers that are passed over leave what waits
pub remembers_skipped : (us : List UnansweredHandle) (h : server.History) (i count : ℕ) → Remembers us h → Remembers us (server.Then h (server.Skip i count) server.Skipped)
remembers_skipped us h i count r = remembers_other us us h _ (λ j. server.skip_mark_at j i count) refl (λ j. refl) (λ j c n. refl) (λ j c n. refl) r

-- ---- what is noted

-- what stands where something was written
set_is : (xs : List UnansweredHandle) (k : ℕ) (x y : UnansweredHandle) → slice_get (slice_set xs k x) k ≡ Some y → y ≡ x
set_is [] k x y e = absurd (let e' : None ≡ Some y = e in cc)
set_is (z ∷ xs) zero x y e = sym (same_Some x y e)
set_is (z ∷ xs) (suc k) x y e = set_is xs k x y e

-- the number of a ticket is added to those of its context
notes_added : (us : List UnansweredHandle) (t : server.TicketValues) (u v : UnansweredHandle) → slice_get us t.context ≡ Some u → AddsNumber u v t.number → NotesTicket us (slice_set us t.context v) t
notes_added us t u v there adds =
    record {
      at = λ x e. (u, there, subst (λ y. AddsNumber u y t.number) (sym (set_is us t.context v x e)) adds);
      others = λ j other. slice_get-set_other us t.context j v other;
    }

-- the same, where the index and the number are given by values that are those of the ticket
pub notes_added_at : (us : List UnansweredHandle) (t : server.TicketValues) (i n : ℕ) (u v : UnansweredHandle) → i ≡ t.context → n ≡ t.number → slice_get us i ≡ Some u
    → (u.highest < n + 64 → (m : ℕ) → holds v m ≡ ((m == n) || (holds u m && not (nat_le (m + 64) n)))) → v.highest ≡ max u.highest n → NotesTicket us (slice_set us i v) t
notes_added_at us t i n u v same number there held highest =
    subst (λ k. NotesTicket us (slice_set us k v) t) (sym same)
    (notes_added us t u v (ap (slice_get us) (sym same) ∙ there) (subst (AddsNumber u v) number (record { held = held; highest = highest })))

-- no context has the index
notes_none : (us : List UnansweredHandle) (t : server.TicketValues) → length us ≤ t.context → NotesTicket us us t
notes_none us t past =
    record {
      at = λ x e. absurd (let there = slice_get_within us t.context x e in omega (arith, past, there));
      others = λ j other. refl;
    }

pub notes_none_at : (us : List UnansweredHandle) (t : server.TicketValues) (i : ℕ) → i ≡ t.context → length us ≤ i → NotesTicket us us t
notes_none_at us t i same past = notes_none us t (subst (λ k. length us ≤ k) same past)

-- ---- a context that begins a life

bare_life : (u : UnansweredHandle) (l : Life) → ((n : ℕ) → holds u n ≡ false) → u.highest ≡ 0 → RemembersLife u l (λ n. false) (λ n. false)
bare_life u l none low = record { held = none; far = λ n. ap (nat_le (n + 64)) low ∙ above_none n; reach = λ bound some all. subst (λ n. n < bound) (sym low) some } where
  above_none : (n : ℕ) → nat_le (n + 64) 0 ≡ false
  above_none n = grind (arith, nat_tests)

-- the numbers of the one context, once it is added
pub remembers_begun : (u : UnansweredHandle) (context : SecurityContext) (start : Start) (size : WindowSize) → ((n : ℕ) → holds u n ≡ false) → u.highest ≡ 0
    → Remembers (u ∷ []) (server.Then server.Begin (server.Add context start size 1) (server.Added 0))
remembers_begun u context start size none low = record { at = at } where
  at : (i : ℕ) (v : UnansweredHandle) → slice_get (u ∷ []) i ≡ Some v
      → RemembersAt v (server.life (server.Then server.Begin (server.Add context start size 1) (server.Added 0)) i) (waits (server.Then server.Begin (server.Add context start size 1) (server.Added 0)) i) (lies_far_back (server.Then server.Begin (server.Add context start size 1) (server.Added 0)) i)
  at zero v e = subst (λ (x : UnansweredHandle). RemembersLife x (born context start size) (λ n. false) (λ n. false)) (same_Some u v e) (bare_life u (born context start size) none low)
  at (suc i) v e = absurd (none-some v e)

-- ---- a reply

removed_here : (u v : UnansweredHandle) (of : Life) (number : ℕ) (w x b : ℕ → Bool) → RemembersLife u of w b → ((n : ℕ) → holds v n ≡ (not (n == number) && holds u n)) → v.highest ≡ u.highest
    → ((n : ℕ) → x n ≡ (not (n == number) && w n)) → RemembersLife v of x b
removed_here u v of number w x b r removes low is =
    record {
      far = λ n. ap (nat_le (n + 64)) low ∙ r.far n;
      held = λ n. removes n ∙ (ap (λ b. not (n == number) && b) (r.held n) ∙ sym (is n));
      reach = λ bound some all. subst (λ n. n < bound) (sym low) (r.reach bound some all);
    }

pub remembers_replied : (us : List UnansweredHandle) (h : server.History) (t : server.TicketValues) (own : Bool) (mid room : ℕ) (plain : Parts) (bytes : List ℕ) (u v : UnansweredHandle) (of : Life)
    → slice_get us t.context ≡ Some u → server.life h t.context ≡ Some of → t.life ≡ of.count → ((n : ℕ) → holds v n ≡ (not (n == t.number) && holds u n)) → v.highest ≡ u.highest
    → Remembers us h → Remembers (slice_set us t.context v) (server.Then h (server.Reply t own mid plain room) (server.Replied bytes))
remembers_replied us h t own mid room plain bytes u v of was there count removes low r =
    let g = server.Then h (server.Reply t own mid plain room) (server.Replied bytes) in
    record {
      at = λ j x e. elim (cases_eq j t.context) [
        | inl same ↦
            let is : x ≡ v = set_is us t.context v x (sym (ap (slice_get (slice_set us t.context v)) same) ∙ e) in
            let back = lies_far_back g t.context in
            let old : RemembersLife u of (waits h t.context of.count) (back of.count) = subst (λ o. RemembersAt u o (waits h t.context) back) there (r.at t.context u was) in
            let new : RemembersAt v (server.life h t.context) (waits g t.context) back =
            subst (λ o. RemembersAt v o (waits g t.context) back) (sym there)
            (removed_here u v of t.number (waits h t.context of.count) (waits g t.context of.count) (back of.count) old removes low
            (λ m. cond_and (is_to t.context of.count m t) (waits h t.context of.count m) ∙ ap (λ b. not b && waits h t.context of.count m) (to_same t of.count m count))) in
            subst (λ y. RemembersAt y (server.life g j) (waits g j) (lies_far_back g j)) (sym is)
            (subst (λ k. RemembersAt v (server.life g k) (waits g k) (lies_far_back g k)) (sym same) (at_marked v (server.life h t.context) (server.reply_mark_at t.context t own) (waits g t.context) back new))
        | inr other ↦
            at_marked x (server.life h j) (server.reply_mark_at j t own) (waits g j) (lies_far_back g j)
            (at_same x (server.life h j) (waits h j) (waits g j) (lies_far_back h j) (lies_far_back g j) (λ c m. sym (cond-false (is_to j c m t) false (waits h j c m) (to_other t j c m other))) (λ c m. refl) (r.at j x (sym (slice_get-set_other us t.context j v other) ∙ e)))
      ];
    }
