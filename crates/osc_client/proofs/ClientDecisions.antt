-- What a client decides of a datagram, after a history.
use Rattle.std.proofs.Common.{◌≡◌, ℕ, ◌+◌, ◌<◌, ◌≤◌, ◌∙◌, arith, inl, inr, sym, ap, subst, refl, bytes_eq, not, Bool, true, false, Option, Some, None, List, if◌then◌else◌}
use Rattle.std.specs.Prelude.{Contains, max, remove}
use Rattle.std.specs.Option.{option_map}
use Rattle.osc_coap.specs.Code.{is_response}
use Rattle.osc_coap.specs.Datagram.{Parts, IsDatagram}
use Rattle.osc_coap.specs.Inner.{InnerParts}
use Rattle.osc_coap.specs.Laws.{DatagramIsOneMessage}
use Rattle.osc_context.specs.OscoreValue.{OscoreParts}
use Rattle.osc_context.specs.SecurityContext.{SecurityContext}
use Rattle.osc_context.specs.Views.{number_of}
use Rattle.osc_protect.specs.Head.{Head, HasResponseHead}
use Rattle.osc_protect.specs.Laws.{NotificationsShowHeads, OneNotification, OneResponse, OneResponseHead, ResponsesShowHeads}
use Rattle.osc_protect.specs.Opening.{Opens}
use Rattle.osc_protect.specs.Protection.{Protection, Protects, responses_to}
use Rattle.osc_protect.specs.StageViews.{AcceptsResponseAfter, CanLendResponse, DecryptsResponse}
use Rattle.osc_protect.specs.Views.{message_of, opened_number, seen_response_head}
use Rattle.osc_protect.specs.declared.opened.Opened.{Opened}
use Rattle.osc_protect.specs.declared.response_head.ResponseHead.{ResponseHead}
use Rattle.osc_protect.specs.declared.stages.DecryptedResponse.{DecryptedResponse}
use Rattle.osc_protect.specs.declared.stages.ReadResponse.{ReadResponse}
use Rattle.osc_client.specs.declared.decision.ClientDecision.TheVariants as decisions
use Rattle.osc_client.specs.declared.pending.Found.{Found}
use Rattle.osc_client.specs.declared.pending.Wait.{Wait}
use Rattle.osc_client.specs.declared.pending.Wait.TheVariants.{Once, Observing}
use Rattle.osc_client.specs.Agrees.{ClientParts, PartsAgree, TokensDiffer}
use Rattle.osc_client.specs.Awaited.{AwaitedShowHeads, OneAwaited}
use Rattle.osc_client.specs.ClientAnswer.{IsAmong, IsAnswerTo, IsFirstAgain, IsInPlace, MayAwait, SaysAwaited, SaysOwn, awaited, continues}
use Rattle.osc_client.specs.ClientDeciding.{DecidesAmong, IsDecryptedFor, IsFoundIn, IsOpenedAmong, OfWhatWasRead, ReadsAs, wait_after}
use Rattle.osc_client.specs.ClientHistory.{Advance, Advanced, Asked, Datagram, Deliver, History, Notified, Old, Then, Took, after_place, alive, asked, clock, context, first_place, life_ms, observes, pending_at, without}
use Rattle.osc_observe.specs.Observing.{is_notification, place_of}
use Rattle.osc_observe.specs.Received.{Received}
use Rattle.osc_observe.proofs.Receiving.{said, receives_said, opened_said}
use Rattle.osc_client.proofs.Asking.{contains_at, contains_filter, differ_filter, differ_heard, ended, heard, heard_alive, moved, removed}

-- a fact of the client's context and a request's number, in the words of the history
pub in_history : (P : Protection (Option ℕ) → Type 0) (s t : SecurityContext) (r b : Bool) (k n m : ℕ) → s ≡ t → r ≡ b → k ≡ n → m ≡ n
    → P (responses_to s r k) → P (responses_to t b m)
in_history P s t r b k n m e same f g h = subst (λ x. P (responses_to t b x)) (f ∙ sym g) (subst (λ x. P (responses_to x b k)) e (subst (λ c. P (responses_to s c k)) same h))

-- what is sealed for one whose registration is known, or not
pub responses_law : OneResponse → OneNotification → OneAwaited
responses_law response notification s true n = notification s n
responses_law response notification s false n = response s n

pub heads_law : ResponsesShowHeads → NotificationsShowHeads → AwaitedShowHeads
heads_law response notification s true n = notification s n
heads_law response notification s false n = response s n

-- a head says one Partial IV, or none
pub same_own : (s : SecurityContext) (r q : Asked) (d : List ℕ) (a b : Option ℕ) → OneResponseHead → SaysOwn s r d a → SaysOwn s q d b → a ≡ b
same_own s r q d a b one (head, has, names) (other, there, says) =
    ap (λ (x : OscoreParts). x.piv) (sym names ∙ ap (λ (x : Head). x.parts) (one.head _ head other has there) ∙ says)

-- what a datagram protects may be awaited, if its head says so
pub may_await : (s : SecurityContext) (r : Asked) (d : List ℕ) (own : Option ℕ) (m : InnerParts) → OneResponseHead → AwaitedShowHeads
    → Protects (awaited s r) own m d → SaysAwaited s r d → MayAwait r.wait own
may_await s r d own m one shows protects (other, says, later) =
    subst (MayAwait r.wait) (same_own s r r d other own one says ((shows s (observes r.wait) r.number).protects d own m protects)) later

-- the last response is in place
pub last_in_place : (r : Asked) (own : Option ℕ) (m : InnerParts) → MayAwait r.wait own → continues r.wait m ≡ false → IsInPlace r own m
last_in_place r None m may last = inr (refl, last)
last_in_place r (Some own) m may last = inl may

-- a notification isn't, if it has no Partial IV and the registration waits for later ones
pub first_again : (s : SecurityContext) (r : Asked) (d : List ℕ) (own : Option ℕ) (m : InnerParts) → Protects (awaited s r) own m d → MayAwait r.wait own → continues r.wait m ≡ true
    → place_of own < first_place r.wait → IsFirstAgain s r d
first_again s r d None m protects may more before = (m, protects, more, omega (arith, before))
first_again s r d (Some own) m protects may more before = absurd (omega (arith, may, before))

-- the place behind a response
pub place_after : (place : ℕ) (wait : Wait) (m : InnerParts) → continues wait m ≡ true → first_place (after_place place wait) ≡ place + 1
place_after place Once m more = absurd (let e = more in cc)
place_after place (Observing from) m more = refl

-- what was found at a place of the table is found among its requests
pub there : (xs : List Asked) (f : Found) (t token : List ℕ) → t ≡ token → IsFoundIn xs t f
    → (r : Asked) × Contains xs r × (r.token ≡ token) × (r.number ≡ number_of f.number) × (r.wait ≡ f.wait)
there xs f t token is (r, at, token_is, number_is, wait_is) = (r, contains_at xs f.place r at, token_is ∙ is, number_is, wait_is)

-- the Partial IV of a head, and whether the request that was found waits for it
pub says_own : (s : SecurityContext) (r : Asked) (d : List ℕ) (head : ResponseHead) → HasResponseHead d (seen_response_head head) → SaysOwn s r d (option_map number_of head.number)
says_own s r d head has = (seen_response_head head, has, refl)

pub says_awaited : (s : SecurityContext) (r : Asked) (d : List ℕ) (head : ResponseHead) (f : Found) → HasResponseHead d (seen_response_head head) → r.wait ≡ f.wait
    → MayAwait f.wait (option_map number_of head.number) → SaysAwaited s r d
says_awaited s r d head f has is later =
    let own = option_map number_of head.number in
    (own, says_own s r d head has, subst (λ w. MayAwait w own) (sym is) later)

pub not_there : (c : ClientParts) (h : History) (now : ℕ) (t token : List ℕ) → PartsAgree c (Then h (Advance now) Advanced) → t ≡ token → (IsAmong t c.pending → ⊥)
    → IsAmong token (pending_at h (max (clock h) now)) → ⊥
not_there c h now t token a is none (r, has, token_is) = none (r, subst (λ ys. Contains ys r) (sym a.table) has, token_is ∙ sym is)

-- the pending request that the token names
pub answers : (c : ClientParts) (h : History) (now : ℕ) (d : List ℕ) (p : Parts) (r : Asked) → PartsAgree c (Then h (Advance now) Advanced)
    → IsDatagram p d → is_response p.kind p.code ≡ true → r.token ≡ p.token → Contains c.pending r → IsAnswerTo h (max (clock h) now) d r
answers c h now d p r a datagram response token has = ((p, datagram, response, sym token), subst (λ xs. Contains xs r) a.table has)

-- what is opened says what the datagram protects
pub opened_is : (s : SecurityContext) (r : Bool) (n : ℕ) (d : List ℕ) (own : Option ℕ) (m : InnerParts) (o : Opened) → OneAwaited
    → Opens (responses_to s r n) d o → Protects (responses_to s r n) own m d → (opened_number o ≡ own) × (message_of o ≡ m)
opened_is s r n d own m o laws a p =
    let law = laws s r n in
    (a.number_is ∙ law.number d a.number own (message_of o) m a.protects p, law.message d a.number own (message_of o) m a.protects p)

-- whether the wait continues
pub continued_by : (wait : Wait) (own : Option ℕ) (m : InnerParts) (place : ℕ) → observes wait ≡ true → is_notification m.code m.options ≡ true → place ≡ place_of own
    → Some (Observing (place + 1)) ≡ wait_after wait own m
continued_by Once own m place waits notifies is = absurd (let e = waits in cc)
continued_by (Observing from) own m place waits notifies is =
    ap (λ k. Some (Observing (k + 1))) is ∙ ap (λ b. if b then Some (Observing (place_of own + 1)) else None) (sym notifies)

pub awaits_one : (wait : Wait) (own : Option ℕ) (m : InnerParts) → observes wait ≡ false → None ≡ wait_after wait own m
awaits_one Once own m none = refl
awaits_one (Observing from) own m none = absurd (let e = none in cc)

pub notifies_nothing : (wait : Wait) (own : Option ℕ) (m : InnerParts) → is_notification m.code m.options ≡ false → None ≡ wait_after wait own m
notifies_nothing Once own m none = refl
notifies_nothing (Observing from) own m none = ap (λ b. if b then Some (Observing (place_of own + 1)) else None) (sym none)

is_last : (b : Bool) (w : Wait) → None ≡ (if b then Some w else None) → b ≡ false
is_last true w e = cc
is_last false w e = refl

is_more : (b : Bool) (v w : Wait) → Some v ≡ (if b then Some w else None) → (b ≡ true) × (v ≡ w)
is_more true v w e = (refl, cc)
is_more false v w e = absurd (let f = e in cc)

-- what was decrypted and read, and continues the wait behind what it waits for, is old
pub overtaken : (c : ClientParts) (h : History) (now : ℕ) (d new : List ℕ) (x : DecryptedResponse) (f : Found) → IsDecryptedFor h now d x f new c → (y : ReadResponse) (wait : Wait)
    → OneResponseHead → AwaitedShowHeads → CanLendResponse new x y → AcceptsResponseAfter new x → OfWhatWasRead new y (λ own m. Some wait ≡ wait_after f.wait own m)
    → first_place wait ≤ first_place f.wait → DecidesAmong h now d decisions.Old new c
overtaken c h now d new x f was y wait head shows can accepts over behind =
    let s = context h in
    let r = was.to in
    let (own, m, p) = accepts s (observes r.wait) r.number d was.decrypts in
    let (more, wait_is) = is_more (continues f.wait m) wait (after_place (place_of own) f.wait) (over x s (observes r.wait) r.number d own m can was.decrypts p) in
    let place : first_place wait ≡ place_of own + 1 = ap first_place wait_is ∙ place_after (place_of own) f.wait m more in
    let from : first_place r.wait ≡ first_place f.wait = ap first_place was.wait_is in
    record {
      answer = Old;
      row = (r, was.answers, inr (first_again s r d own m p (may_await s r d own m head shows p was.awaits) (ap (λ w. continues w m) was.wait_is ∙ more) (omega (arith, behind, place, from))));
      decides = tt;
      agrees = moved c h now _ _ refl refl refl refl was.agrees;
    }

module _ (c after : ClientParts) (h : History) (now : ℕ) (d new : List ℕ) (x : DecryptedResponse) (f : Found) (was : IsDecryptedFor h now d x f new c) where
  abbrev moment : ℕ
  moment = max (clock h) now

  -- the request that is answered, the Partial IV or none, and the message that the datagram protects
  module _ (own : Option ℕ) (m : InnerParts) (p : Protects (awaited (context h) was.to) own m d) where
    abbrev seen : Received
    seen = said (awaited (context h) was.to) own m d p

    -- the response has the token of the request that it answers
    token_is : DatagramIsOneMessage → was.to.token ≡ p.outer.token
    token_is one = let (q, datagram, response, named) = was.answers.0 in sym named ∙ ap (λ (z : Parts). z.token) (one q p.outer d datagram p.datagram)

    -- what was decrypted and read
    reads : (y : ReadResponse) → DatagramIsOneMessage → OneAwaited → CanLendResponse new x y → ReadsAs y new seen
    reads y one laws can = (
      x,
      can,
      λ q opens. opened_said (awaited (context h) was.to) own m d p one (laws (context h) (observes was.to.wait) was.to.number) q
          (opens (context h) (observes was.to.wait) was.to.number d was.decrypts),
    )

    module _ (same_context : after.context ≡ c.context) (same_life : after.life_ms ≡ c.life_ms) (same_clock : after.clock ≡ c.clock) (same_next : after.next ≡ c.next) (same_apart : after.apart ≡ c.apart) where
      -- a delivery ends the request that it answers
      ends : DatagramIsOneMessage → after.pending ≡ remove c.pending f.place
          → PartsAgree after (Then h (Datagram now d) (Took (Deliver seen (number_of f.number))))
      ends one items =
          let a = was.agrees in
          let r = was.to in
          let table = removed c.pending f.place r r.token (subst TokensDiffer (sym a.table) a.differ) was.at_place refl in
          let left = ended h moment r.token ∙ ap (λ t. alive moment (life_ms h) (without t (asked h))) (token_is one) in
          record {
            context_is = same_context ∙ a.context_is;
            life_is = same_life ∙ a.life_is;
            clock_is = same_clock ∙ a.clock_is;
            next_is = same_next ∙ a.next_is;
            apart_is = same_apart ∙ a.apart_is;
            table = items ∙ table ∙ ap (without r.token) a.table ∙ left;
            differ = subst TokensDiffer left (differ_filter (λ q. not (bytes_eq q.token r.token)) (pending_at h moment) a.differ);
          }

      -- a notification leaves the registration pending, which waits for later ones
      goes_on : DatagramIsOneMessage → after.pending ≡ heard was.to.token (place_of own) c.pending
          → PartsAgree after (Then h (Datagram now d) (Took (Notified seen (number_of f.number))))
      goes_on one items =
          let a = was.agrees in
          let r = was.to in
          let left = ap (λ t. heard t (place_of own) (pending_at h moment)) (token_is one) ∙ sym (heard_alive moment (life_ms h) (place_of own) p.outer.token (asked h)) in
          record {
            context_is = same_context ∙ a.context_is;
            life_is = same_life ∙ a.life_is;
            clock_is = same_clock ∙ a.clock_is;
            next_is = same_next ∙ a.next_is;
            apart_is = same_apart ∙ a.apart_is;
            table = items ∙ ap (heard r.token (place_of own)) a.table ∙ left;
            differ = subst TokensDiffer left (differ_heard r.token (place_of own) (pending_at h moment) a.differ);
          }

  -- what was decrypted and read, and ends the wait, is delivered
  pub delivered : (y : ReadResponse) → DatagramIsOneMessage → OneAwaited → OneResponseHead → AwaitedShowHeads → CanLendResponse new x y → AcceptsResponseAfter new x
      → OfWhatWasRead new y (λ own m. None ≡ wait_after f.wait own m)
      → after.context ≡ c.context → after.life_ms ≡ c.life_ms → after.clock ≡ c.clock → after.next ≡ c.next → after.apart ≡ c.apart
      → after.pending ≡ remove c.pending f.place
      → DecidesAmong h now d (decisions.Deliver y f.number) new after
  delivered y one laws head shows can accepts over same_context same_life same_clock same_next same_apart items =
      let s = context h in
      let r = was.to in
      let (own, m, p) = accepts s (observes r.wait) r.number d was.decrypts in
      let last = is_last (continues f.wait m) (after_place (place_of own) f.wait) (over x s (observes r.wait) r.number d own m can was.decrypts p) in
      record {
        answer = Deliver (seen own m p) (number_of f.number);
        row = (
          r,
          was.answers,
          (
            sym was.number_is,
            own,
            last_in_place r own m (may_await s r d own m head shows p was.awaits) (ap (λ w. continues w m) was.wait_is ∙ last),
            receives_said (awaited s r) own m d p,
            ap (λ w. continues w m) was.wait_is ∙ last,
          ),
        );
        decides = (reads own m p y one laws can, refl);
        agrees = ends own m p same_context same_life same_clock same_next same_apart one items;
      }

  -- what was decrypted and read, and continues the wait, is notified
  pub notified : (y : ReadResponse) (wait : Wait) → DatagramIsOneMessage → OneAwaited → OneResponseHead → AwaitedShowHeads → CanLendResponse new x y → AcceptsResponseAfter new x
      → first_place f.wait < first_place wait → OfWhatWasRead new y (λ own m. Some wait ≡ wait_after f.wait own m)
      → after.context ≡ c.context → after.life_ms ≡ c.life_ms → after.clock ≡ c.clock → after.next ≡ c.next → after.apart ≡ c.apart
      → ((place : ℕ) → wait ≡ after_place place was.to.wait → after.pending ≡ heard was.to.token place c.pending)
      → DecidesAmong h now d (decisions.Notified y f.number) new after
  notified y wait one laws head shows can accepts ahead over same_context same_life same_clock same_next same_apart noted =
      let s = context h in
      let r = was.to in
      let (own, m, p) = accepts s (observes r.wait) r.number d was.decrypts in
      let (more, wait_is) = is_more (continues f.wait m) wait (after_place (place_of own) f.wait) (over x s (observes r.wait) r.number d own m can was.decrypts p) in
      let place : first_place wait ≡ place_of own + 1 = ap first_place wait_is ∙ place_after (place_of own) f.wait m more in
      let from : first_place r.wait ≡ first_place f.wait = ap first_place was.wait_is in
      record {
        answer = Notified (seen own m p) (number_of f.number);
        row = (
          r,
          was.answers,
          (
            sym was.number_is,
            own,
            omega (arith, ahead, place, from),
            receives_said (awaited s r) own m d p,
            ap (λ w. continues w m) was.wait_is ∙ more,
          ),
        );
        decides = (reads own m p y one laws can, refl);
        agrees = goes_on own m p same_context same_life same_clock same_next same_apart one (noted (place_of own) (wait_is ∙ ap (after_place (place_of own)) (sym was.wait_is)));
      }

-- what decryption leaves; old is the client before those were dropped whose time has passed
pub opened_by : (old : ClientParts) (clock k : ℕ) (asks : Bool) (f : Found) (xs : List Asked) (d new : List ℕ) (r : Asked) (x : DecryptedResponse)
    → xs ≡ alive clock old.life_ms old.pending → Contains xs r → r.number ≡ number_of f.number → r.wait ≡ f.wait → asks ≡ observes f.wait → k ≡ number_of f.number
    → DecryptsResponse (responses_to old.context asks k) d x new → IsOpenedAmong old d new
opened_by old clock k asks f xs d new r x left has number wait registers request decrypts = (
  r,
  contains_filter _ old.pending r (subst (λ ys. Contains ys r) left has),
  option_map number_of x.number,
  x.len,
  (in_history (λ p. DecryptsResponse p d x new) old.context old.context asks (observes r.wait) k (number_of f.number) r.number refl (registers ∙ ap observes (sym wait)) request number decrypts).1,
)
