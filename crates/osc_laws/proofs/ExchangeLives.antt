-- The life of the server's context in an exchange: which numbers are new in it.
use Rattle.std.proofs.Common.{◌≡◌, ◌≢◌, ℕ, ◌+◌, ◌<◌, ◌≤◌, ◌∙◌, sym, ap, subst, refl, arith, Bool, true, false, Option, Some, None, List, ◌∷◌, inl, inr, ◌&&◌, if◌then◌else◌}
use Rattle.std.specs.Prelude.{◌==◌, All}
use Rattle.std.specs.Option.{option_map}
use Rattle.std.proofs.lemmas.Bool.{cases_Bool, cond_both, eqb-true}
use Rattle.std.proofs.lemmas.List.Elements.{All-cons, All-head, All-nil, All-tail}
use Rattle.osc_context.specs.SecurityContext.{SecurityContext}
use Rattle.osc_window.specs.Views.{places_of}
use Rattle.osc_client.specs.ClientHistory as client
use Rattle.osc_laws.specs.Exchange.{Request, AtClient, AtServer, Brings, Exchange, Starts, Then, AreInStep, IsElsewhere, IsHonest, IsOfThese, LeavesNew, StaysOpen, client_of, sent, server_of, tickets}
use Rattle.osc_life.specs.Life.{Life, Mark, Answered, Challenged, Delivered, IsNewIn, PassedOver, Spoiled, born, is_open, marked, renewed, succeeding, spent}
use Rattle.osc_endpoint.specs.ServerAnswer.{ServerAnswer}
use Rattle.osc_life.specs.ServerHistory as server
use Rattle.osc_laws.proofs.DeliveredNumbers.{HasNoneBeyond}
use Rattle.osc_life.proofs.Lives.{closed_bare, floor_closed, floor_open}

pub some_is : {A : Type 0} {a b : A} → Some a ≡ Some b → a ≡ b
some_is e = cc

-- ---- lives that are in step

-- the life is of this context, and if it is open, the numbers from the first one on are new in it
pub record Fits (s : SecurityContext) (first : ℕ) (of : Life) : Type 0 where
  pub same : of.context ≡ s
  pub new : is_open of ≡ true → (k : ℕ) → first ≤ k → IsNewIn of k

-- the mark leaves no number from this one on
abbrev pub Allowed : ℕ → Option Mark → Type 0
Allowed first (Some (Delivered n)) = n < first
Allowed first (Some (Spoiled n)) = ⊥
Allowed first mark = Unit {0}

pub allowed_if : (b : Bool) (first : ℕ) (mark : Mark) → (b ≡ true → Allowed first (Some mark)) → Allowed first (if b then Some mark else None)
allowed_if true first mark h = h refl
allowed_if false first mark h = tt

pub new_beside : (of : Life) (k n : ℕ) → is_open of ≡ true → k ≢ n → k < n + places_of of.size → IsNewIn of n → IsNewIn (marked (Some (Delivered k)) of) n
new_beside of k n is apart less new = record {
  above = subst (λ f. f ≤ n) (sym (floor_open of.least of.open_at_birth of.marks k is)) new.above;
  unspent = All-cons (λ m. m ≢ n) k (spent of.open_at_birth of.marks) apart new.unspent;
  within = All-cons (λ m. m < n + places_of of.size) k (spent of.open_at_birth of.marks) less new.within;
}

pub new_after : (of : Life) (k n : ℕ) → is_open of ≡ true → k < n → IsNewIn of n → IsNewIn (marked (Some (Delivered k)) of) n
new_after of k n is less new = new_beside of k n is (λ e. omega (arith, less, e)) (omega (arith, less)) new

pub new_first : (of : Life) (k n : ℕ) → is_open of ≡ false → k < n → IsNewIn (marked (Some (Delivered k)) of) n
new_first of k n shut less =
    let none = sym (closed_bare of.open_at_birth of.marks shut).spent_is in
    record {
      above = subst (λ f. f ≤ n) (sym (floor_closed of.least of.open_at_birth of.marks k shut)) (omega (arith, less));
      unspent = All-cons (λ m. m ≢ n) k (spent of.open_at_birth of.marks) (λ e. omega (arith, less, e)) (subst (All (λ m. m ≢ n)) none (All-nil (λ m. m ≢ n)));
      within = All-cons (λ m. m < n + places_of of.size) k (spent of.open_at_birth of.marks) (omega (arith, less))
          (subst (All (λ m. m < n + places_of of.size)) none (All-nil (λ m. m < n + places_of of.size)));
    }

pub new_delivered : (of : Life) (k n : ℕ) → k < n → (is_open of ≡ true → IsNewIn of n) → IsNewIn (marked (Some (Delivered k)) of) n
new_delivered of k n less new = elim (cases_Bool (is_open of)) [
  | inl is ↦ new_after of k n is less (new is)
  | inr shut ↦ new_first of k n shut less
]

pub after_mark : (m : Option Mark) (s : SecurityContext) (first : ℕ) (of : Life) → Allowed first m → Fits s first of → Fits s first (marked m of)
after_mark None s first of h f = f
after_mark (Some (Delivered n)) s first of h f = record { same = f.same; new = λ _ k above. new_delivered of n k (omega (arith, h, above)) (λ is. f.new is k above) }
after_mark (Some (Spoiled n)) s first of h f = absurd h
after_mark (Some (Challenged echo issued)) s first of h f = record { same = f.same; new = f.new }
after_mark (Some Answered) s first of h f = record { same = f.same; new = f.new }
after_mark (Some (PassedOver count)) s first of h f = record { same = f.same; new = f.new }

pub after_restart : (s : SecurityContext) (first next : ℕ) (of : Life) → Fits s first of → Fits s first (renewed next of)
after_restart s first next of f = record { same = f.same; new = λ is k above. absurd (let never : false ≡ true = is in cc) }

pub in_step : (i : ℕ) (h : client.History) (g : server.History) (of : Life) → server.life g i ≡ Some of → Fits (client.context h) (client.next h) of → AreInStep i h g
in_step i h g of life f = record { of = of; life_is = life; same = f.same; new = f.new }

pub fits : (i : ℕ) (h : client.History) (g : server.History) (t : AreInStep i h g) → Fits (client.context h) (client.next h) t.of
fits i h g t = record { same = t.same; new = t.new }

-- ---- what happens at one end

pub elsewhere : (i first : ℕ) (answer : server.Answer) → IsElsewhere i answer → Allowed first (server.mark_at i answer)
elsewhere i first (server.BadInner j n) apart = allowed_if (i == j) first (Spoiled n) (λ e. absurd (apart (eqb-true i j e)))
elsewhere i first (server.Deliver received t) apart = allowed_if (i == t.context) first (Delivered t.number) (λ e. absurd (apart (eqb-true i t.context e)))
elsewhere i first (server.Challenge j n value issued) apart = allowed_if (i == j) first (Challenged value issued) (λ e. tt)
elsewhere i first answer apart = tt

pub replies : (i first : ℕ) (t : server.TicketValues) (own : Bool) → Allowed first (server.reply_mark_at i t own)
replies i first t own = allowed_if (own && (i == t.context)) first Answered (λ e. tt)

pub skips : (i first context count : ℕ) → Allowed first (server.skip_mark_at i context count)
skips i first context count = allowed_if (i == context) first (PassedOver count) (λ e. tt)

-- a life that is there, and fits
abbrev pub IsFitting : SecurityContext → ℕ → Option Life → Type 0
IsFitting s first o = (of : Life) × (o ≡ Some of) × Fits s first of

pub marked_fits : (s : SecurityContext) (first : ℕ) (o : Option Life) (m : Option Mark) → Allowed first m → IsFitting s first o → IsFitting s first (option_map (marked m) o)
marked_fits s first o m h (of, is, f) = (marked m of, ap (option_map (marked m)) is, after_mark m s first of h f)

pub at_server : (i : ℕ) (s : SecurityContext) (first : ℕ) (g : server.History) (ts : List server.TicketValues) (event : server.Event) (entry : server.Entry) → HasNoneBeyond g
    → ServerAnswer g event entry → IsOfThese i ts event entry → IsFitting s first (server.life g i) → IsFitting s first (server.life (server.Then g event entry) i)
at_server i s first g ts (server.Add context start size places) (server.Added index) none row of_these f =
    cond_both (i == index) (Some (born context start size)) (server.life g i) (IsFitting s first)
    (λ e.
    let next : index ≡ server.added g = row.1.2 in
    let never : None ≡ Some f.0 = sym (none i (omega (arith, eqb-true i index e, next))) ∙ f.1 in
    absurd (let g : None ≡ Some f.0 = never in cc))
    (λ e. f)
at_server i s first g ts (server.Datagram now echo mid d) (server.Took answer reply) none row of_these f =
    marked_fits s first (server.life g i) (server.mark_at i answer) (elsewhere i first answer of_these) f
at_server i s first g ts (server.Reply t own mid p room) (server.Replied bytes) none row of_these f =
    marked_fits s first (server.life g i) (server.reply_mark_at i t own) (replies i first t own) f
at_server i s first g ts (server.Notify t p room) (server.Replied bytes) none row of_these f =
    marked_fits s first (server.life g i) (server.reply_mark_at i t true) (replies i first t true) f
at_server i s first g ts (server.Restart j next) server.Restarted none row of_these (of, is, f) =
    cond_both (i == j) (option_map (renewed next) (server.life g i)) (server.life g i) (IsFitting s first)
    (λ e. (renewed next of, ap (option_map (renewed next)) is, after_restart s first next of f)) (λ e. (of, is, f))
at_server i s first g ts (server.Replace context by start size) server.Replaced none row of_these f =
    cond_both (i == context) (option_map (succeeding by start size) (server.life g i)) (server.life g i) (IsFitting s first)
    (λ e. absurd (of_these (sym (eqb-true i context e)))) (λ e. f)
at_server i s first g ts (server.Skip context count) server.Skipped none row of_these f =
    marked_fits s first (server.life g i) (server.skip_mark_at i context count) (skips i first context count) f
at_server i s first g ts event entry none row of_these f = f

-- ---- what is new in a window that stays open

-- the client's next number before the exchange
abbrev pub first_of_all : Exchange → ℕ
first_of_all (Starts h g held) = client.next h
first_of_all (Then x step) = first_of_all x

pub not_lowered : (n i : ℕ) (x : Exchange) → IsHonest n i x → first_of_all x ≤ client.next (client_of x)
not_lowered n i (Starts h g held) honest = omega arith
not_lowered n i (Then x (AtClient event entry)) honest = let less = not_lowered n i x honest.0 in let more = honest.1.1 in omega (arith, less, more)
not_lowered n i (Then x (AtServer event entry)) honest = not_lowered n i x honest.0
not_lowered n i (Then x (Brings s now echo mid answer reply)) honest = not_lowered n i x honest.0

pub numbers_from : (n i : ℕ) (x : Exchange) → IsHonest n i x → All (λ (s : Request). first_of_all x ≤ s.number) (sent x)
numbers_from n i (Starts h g held) honest = All-nil (λ (s : Request). client.next h ≤ s.number)
numbers_from n i (Then x (AtClient (client.Request now plain room) (client.Sent d))) honest =
    All-cons (λ (s : Request). first_of_all x ≤ s.number) (record { number = client.next (client_of x); plain = plain; bytes = d }) (sent x) (not_lowered n i x honest.0)
    (numbers_from n i x honest.0)
numbers_from n i (Then x (AtClient event entry)) honest = numbers_from n i x honest.0
numbers_from n i (Then x (AtServer event entry)) honest = numbers_from n i x honest.0
numbers_from n i (Then x (Brings s now echo mid answer reply)) honest = numbers_from n i x honest.0

-- the life is open, and in it each number from the first one on is new that these tickets leave in its window
pub record IsWide (i first : ℕ) (ts : List server.TicketValues) (o : Option Life) : Type 0 where
  pub life : Life
  pub is : o ≡ Some life
  pub open_is : is_open life ≡ true
  pub new : (k : ℕ) → first ≤ k → All (LeavesNew i (places_of life.size) k) ts → IsNewIn life k

pub still_wide : (m : Option Mark) (i first : ℕ) (ts : List server.TicketValues) (o : Option Life) → Allowed 0 m → IsWide i first ts o → IsWide i first ts (option_map (marked m) o)
still_wide None i first ts o h w = record { life = w.life; is = ap (option_map (marked None)) w.is; open_is = w.open_is; new = w.new }
still_wide (Some (Delivered n)) i first ts o h w = absurd (omega (arith, h))
still_wide (Some (Spoiled n)) i first ts o h w = absurd h
still_wide (Some (Challenged echo issued)) i first ts o h w =
    record { life = marked (Some (Challenged echo issued)) w.life; is = ap (option_map (marked (Some (Challenged echo issued)))) w.is; open_is = w.open_is; new = w.new }
still_wide (Some Answered) i first ts o h w = record { life = marked (Some Answered) w.life; is = ap (option_map (marked (Some Answered))) w.is; open_is = w.open_is; new = w.new }
still_wide (Some (PassedOver count)) i first ts o h w =
    record { life = marked (Some (PassedOver count)) w.life; is = ap (option_map (marked (Some (PassedOver count)))) w.is; open_is = w.open_is; new = w.new }

pub wide_by_one : (b : Bool) (i first : ℕ) (t : server.TicketValues) (ts : List server.TicketValues) (o : Option Life) → (i == t.context) ≡ b → IsWide i first ts o
    → IsWide i first (t ∷ ts) (option_map (marked (if b then Some (Delivered t.number) else None)) o)
wide_by_one true i first t ts o e w = record {
  life = marked (Some (Delivered t.number)) w.life;
  is = ap (option_map (marked (Some (Delivered t.number)))) w.is;
  open_is = refl;
  new = λ k above all.
      let (apart, less) = All-head (LeavesNew i (places_of w.life.size) k) t ts all (sym (eqb-true i t.context e)) in
      new_beside w.life t.number k w.open_is apart less (w.new k above (All-tail (LeavesNew i (places_of w.life.size) k) t ts all));
}
wide_by_one false i first t ts o e w = record {
  life = w.life;
  is = ap (option_map (marked None)) w.is;
  open_is = w.open_is;
  new = λ k above all. w.new k above (All-tail (LeavesNew i (places_of w.life.size) k) t ts all);
}

pub wide_at_server : (i first : ℕ) (x : Exchange) (event : server.Event) (entry : server.Entry) → HasNoneBeyond (server_of x) → ServerAnswer (server_of x) event entry
    → IsOfThese i (tickets x) event entry → (StaysOpen i x → IsWide i first (tickets x) (server.life (server_of x) i)) → StaysOpen i (Then x (AtServer event entry))
    → IsWide i first (tickets x) (server.life (server.Then (server_of x) event entry) i)
wide_at_server i first x (server.Add context start size places) (server.Added index) none row of_these is stays =
    let g = server_of x in
    let w = is stays in
    cond_both (i == index) (Some (born context start size)) (server.life g i) (IsWide i first (tickets x))
    (λ e.
    let next : index ≡ server.added g = row.1.2 in
    absurd (let never : None ≡ Some w.life = sym (none i (omega (arith, eqb-true i index e, next))) ∙ w.is in cc))
    (λ e. w)
wide_at_server i first x (server.Datagram now echo mid d) (server.Took answer reply) none row of_these is stays =
    still_wide (server.mark_at i answer) i first (tickets x) (server.life (server_of x) i) (elsewhere i 0 answer of_these) (is stays)
wide_at_server i first x (server.Reply t own mid p room) (server.Replied bytes) none row of_these is stays =
    still_wide (server.reply_mark_at i t own) i first (tickets x) (server.life (server_of x) i) (replies i 0 t own) (is stays)
wide_at_server i first x (server.Notify t p room) (server.Replied bytes) none row of_these is stays =
    still_wide (server.reply_mark_at i t true) i first (tickets x) (server.life (server_of x) i) (replies i 0 t true) (is stays)
wide_at_server i first x (server.Restart j next) server.Restarted none row of_these is (stays, apart) =
    cond_both (i == j) (option_map (renewed next) (server.life (server_of x) i)) (server.life (server_of x) i) (IsWide i first (tickets x))
    (λ e. absurd (apart (eqb-true i j e))) (λ e. is stays)
wide_at_server i first x (server.Replace context by start size) server.Replaced none row of_these is stays =
    cond_both (i == context) (option_map (succeeding by start size) (server.life (server_of x) i)) (server.life (server_of x) i) (IsWide i first (tickets x))
    (λ e. absurd (of_these (sym (eqb-true i context e)))) (λ e. is stays)
wide_at_server i first x (server.Skip context count) server.Skipped none row of_these is stays =
    still_wide (server.skip_mark_at i context count) i first (tickets x) (server.life (server_of x) i) (skips i 0 context count) (is stays)
wide_at_server i first x event entry none row of_these is stays = is stays
