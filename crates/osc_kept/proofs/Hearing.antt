-- What a client hears over all its lives: each response once, and those to one request in the order in which they were sealed. w is a world that
-- meets the premises, ds are its deeds, hs what was heard, h is the history of the client that runs, r a request that it asked.
use Rattle.std.proofs.Common.{◌≡◌, ◌≢◌, ℕ, ◌+◌, ◌<◌, ◌≤◌, ◌∙◌, sym, ap, subst, refl, arith, bytes_eq, Bool, true, false, Option, Some, None, List, [], ◌∷◌, ◌&&◌, inl, inr, if◌then◌else◌}
use Rattle.std.specs.Prelude.{All, AllPairs, Contains, IfSome, filter, max, not, slice_index_or}
use Rattle.std.specs.Option.{option_map}
use Rattle.std.proofs.lemmas.Bool.{not_from_true}
use Rattle.std.proofs.lemmas.List.Elements.{All-contains, All-contains_itself, All-filter, All-map, All-nil, All-push, All-weaker, filter_passes}
use Rattle.std.proofs.lemmas.List.Kept.{AllPairs-filter}
use Rattle.std.proofs.lemmas.List.Quantifiers.{all_pairs_push}
use Rattle.std.proofs.lemmas.Slice.Eq.{bytes_eq-Decides}
use Rattle.osc_coap.specs.Datagram.{Parts}
use Rattle.osc_coap.specs.Inner.{InnerParts}
use Rattle.osc_coap.specs.Laws.{DatagramIsOneMessage}
use Rattle.osc_context.specs.SecurityContext.{SecurityContext}
use Rattle.osc_protect.specs.Sealed.{inside}
use Rattle.osc_client.specs.declared.pending.Wait.{Wait}
use Rattle.osc_client.specs.declared.pending.Wait.TheVariants.{Once, Observing}
use Rattle.osc_client.specs.Agrees.{TokensDiffer}
use Rattle.osc_client.specs.ClientAnswer.{ClientAnswer, IsAnswerTo, IsAwaited, awaited, continues}
use Rattle.osc_client.specs.ClientHistory as client
use Rattle.osc_laws.specs.ClientLaws.{AllClientAnswers}
use Rattle.osc_observe.specs.Observing.{is_notification, place_of, registers}
use Rattle.osc_observe.specs.Received.{Received, Receives}
use Rattle.osc_client.proofs.Asking.{contains_filter, differ_later, differ_mapped, one_of, one_of_token}
use Rattle.osc_laws.proofs.OneClientAnswers.{tokens_differ}
use Rattle.osc_kept.specs.Claims.{BothEnds, DeliversOnce, ended, IsAfter, IsForThatRequest, IsNext, IsUnended, IsUnheard, NotifiesRegistrations}
use Rattle.osc_kept.specs.Freshness.{OpensFresh}
use Rattle.osc_kept.specs.Premises.{AtEach, Answers, IsLawful}
use Rattle.osc_kept.specs.World.{World, Event, Begin, Then, ClientStarts, AtClient, AtServer, Has, Request, Response, client_history, heard, heard_in, sent, server_life}
use Rattle.osc_client.proofs.GivingWay.{All-beside}
use Rattle.osc_kept.proofs.Claims.{AnswersThatRequest, SealsUnderNewNonce, answers_that, delivers_once, nonces_apart, seals_new}
use Rattle.osc_kept.proofs.Deeds.{AllFit, Challenges, Deed, IsSent, Nothing, Notifies, Replies, Sends, answers, not_shared, owned, owns, sends}
use Rattle.osc_kept.proofs.Digest.{answered_is, client_deed, deed, digest, sends_server, sent_is}
use Rattle.osc_kept.proofs.Fitting.{LawsBelow, all_fit, before, fits_client}
use Rattle.osc_kept.proofs.Freshness.{opens_fresh}
use Rattle.osc_laws.proofs.Inside.{registers_inside}
use Rattle.osc_kept.proofs.Lives.{some_is}
use Rattle.osc_kept.proofs.Owned.{runs, same_number, still_sent}

-- ---- in the list of what was sealed, what has a greater own Partial IV was sealed later

after_step : (z x y : Response) (rs : List Response) (k j : ℕ) → x.own ≡ Some k → y.own ≡ Some j → j < k
    → ((i : ℕ) → z.own ≡ Some i → (u : Response) (l : ℕ) → Has u rs → u.own ≡ Some l → l < i)
    → (Has x rs → Has y rs → IsAfter x y rs) → Has x (z ∷ rs) → Has y (z ∷ rs) → IsAfter x y (z ∷ rs)
after_step z x y rs k j x_own y_own less above rest (inl e) (inl f) =
    let same : k ≡ j = some_is (sym x_own ∙ ap (λ (u : Response). u.own) (e ∙ sym f) ∙ y_own) in
    absurd (omega (arith, less, same))
after_step z x y rs k j x_own y_own less above rest (inl e) (inr h) = inl (e, h)
after_step z x y rs k j x_own y_own less above rest (inr h) (inl f) =
    let below : k < j = above j (sym (ap (λ (u : Response). u.own) f) ∙ y_own) x k h x_own in
    absurd (omega (arith, less, below))
after_step z x y rs k j x_own y_own less above rest (inr h) (inr g) = inr (rest h g)

no_own : (n : ℕ) (m : InnerParts) (rs : List Response) (i : ℕ) → None ≡ Some i → (u : Response) (l : ℕ) → Has u rs → u.own ≡ Some l → l < i
no_own n m rs i e u l h f = absurd (let g : None ≡ Some i = e in cc)

own_above_all : (ds : List Deed) (own : ℕ) → ((o : ℕ) → Has o (owns ds) → o < own) → (i : ℕ) → Some own ≡ Some i → (u : Response) (l : ℕ) → Has u (answers ds) → u.own ≡ Some l → l < i
own_above_all ds own above i e u l h f = subst (λ x. l < x) (some_is e) (above l (owned ds u l h f))

after : (s : SecurityContext) (ds : List Deed) (x y : Response) (k j : ℕ) → AllFit s ds → x.own ≡ Some k → y.own ≡ Some j → j < k
    → Has x (answers ds) → Has y (answers ds) → IsAfter x y (answers ds)
after s (Challenges n echo issued own m ∷ ds) x y k j a x_own y_own less h g =
    after_step (record { number = n; own = Some own; message = m }) x y (answers ds) k j x_own y_own less (own_above_all ds own a.1.1) (after s ds x y k j a.0 x_own y_own less) h g
after s (Replies t None m ∷ ds) x y k j a x_own y_own less h g =
    after_step (record { number = t.number; own = None; message = m }) x y (answers ds) k j x_own y_own less (no_own t.number m (answers ds)) (after s ds x y k j a.0 x_own y_own less) h g
after s (Replies t (Some own) m ∷ ds) x y k j a x_own y_own less h g =
    after_step (record { number = t.number; own = Some own; message = m }) x y (answers ds) k j x_own y_own less (own_above_all ds own a.1.1) (after s ds x y k j a.0 x_own y_own less) h g
after s (Notifies t own m ∷ ds) x y k j a x_own y_own less h g =
    after_step (record { number = t.number; own = Some own; message = m }) x y (answers ds) k j x_own y_own less (own_above_all ds own a.1.1) (after s ds x y k j a.0 x_own y_own less) h g
after s (d ∷ ds) x y k j a x_own y_own less h g = after s ds x y k j a.0 x_own y_own less h g
after s [] x y k j a x_own y_own less h g = absurd h

-- a notification has a Partial IV of its own
notified_own : (s : SecurityContext) (ds : List Deed) (y : Response) (o : Option ℕ) → AllFit s ds → Has y (answers ds) → is_notification y.message.code y.message.options ≡ true
    → y.own ≡ o → (j : ℕ) × (y.own ≡ Some j)
notified_own s ds y (Some j) a h is e = (j, e)
notified_own s (Challenges n echo issued own m ∷ ds) y None a (inl f) is e = (own, ap (λ (u : Response). u.own) f)
notified_own s (Challenges n echo issued own m ∷ ds) y None a (inr h) is e = notified_own s ds y None a.0 h is e
notified_own s (Replies t None m ∷ ds) y None a (inl f) is e =
    let not : is_notification y.message.code y.message.options ≡ false = ap (λ (u : Response). is_notification u.message.code u.message.options) f ∙ a.1.1 in
    absurd (let g : true ≡ false = sym is ∙ not in cc)
notified_own s (Replies t None m ∷ ds) y None a (inr h) is e = notified_own s ds y None a.0 h is e
notified_own s (Replies t (Some own) m ∷ ds) y None a (inl f) is e = (own, ap (λ (u : Response). u.own) f)
notified_own s (Replies t (Some own) m ∷ ds) y None a (inr h) is e = notified_own s ds y None a.0 h is e
notified_own s (Notifies t own m ∷ ds) y None a (inl f) is e = (own, ap (λ (u : Response). u.own) f)
notified_own s (Notifies t own m ∷ ds) y None a (inr h) is e = notified_own s ds y None a.0 h is e
notified_own s (d ∷ ds) y None a h is e = notified_own s ds y None a.0 h is e
notified_own s [] y None a h is e = absurd h

-- a reply is the last that is sealed for its request: what was notified for it was sealed before one without a Partial IV
last_after : (s : SecurityContext) (ds : List Deed) (x y : Response) → AllFit s ds → x.own ≡ None → x.number ≡ y.number → (j : ℕ) → y.own ≡ Some j
    → is_notification y.message.code y.message.options ≡ true → Has x (answers ds) → Has y (answers ds) → IsAfter x y (answers ds)
last_after s (Challenges n echo issued own m ∷ ds) x y a none same j some is (inl f) g = let e : None ≡ Some own = sym none ∙ ap (λ (u : Response). u.own) f in cc
last_after s (Challenges n echo issued own m ∷ ds) x y a none same j some is (inr h) (inl f) =
    let e : true ≡ false = sym is ∙ ap (λ (u : Response). is_notification u.message.code u.message.options) f ∙ a.1.3 in cc
last_after s (Challenges n echo issued own m ∷ ds) x y a none same j some is (inr h) (inr g) = inr (last_after s ds x y a.0 none same j some is h g)
last_after s (Replies t None m ∷ ds) x y a none same j some is h (inl f) = let e : None ≡ Some j = sym (ap (λ (u : Response). u.own) f) ∙ some in cc
last_after s (Replies t None m ∷ ds) x y a none same j some is (inl f) (inr g) = inl (f, g)
last_after s (Replies t None m ∷ ds) x y a none same j some is (inr h) (inr g) = inr (last_after s ds x y a.0 none same j some is h g)
last_after s (Replies t (Some own) m ∷ ds) x y a none same j some is (inl f) g = let e : None ≡ Some own = sym none ∙ ap (λ (u : Response). u.own) f in cc
last_after s (Replies t (Some own) m ∷ ds) x y a none same j some is (inr h) (inl f) = absurd (not_shared s ds t x a.0 a.1.0 h none (same ∙ ap (λ (u : Response). u.number) f))
last_after s (Replies t (Some own) m ∷ ds) x y a none same j some is (inr h) (inr g) = inr (last_after s ds x y a.0 none same j some is h g)
last_after s (Notifies t own m ∷ ds) x y a none same j some is (inl f) g = let e : None ≡ Some own = sym none ∙ ap (λ (u : Response). u.own) f in cc
last_after s (Notifies t own m ∷ ds) x y a none same j some is (inr h) (inl f) = absurd (not_shared s ds t x a.0 a.1.0 h none (same ∙ ap (λ (u : Response). u.number) f))
last_after s (Notifies t own m ∷ ds) x y a none same j some is (inr h) (inr g) = inr (last_after s ds x y a.0 none same j some is h g)
last_after s (d ∷ ds) x y a none same j some is h g = last_after s ds x y a.0 none same j some is h g
last_after s [] x y a none same j some is h g = absurd h

-- ---- what was heard was sealed, for a request that was sent

record WasFor (ds : List Deed) (y : Response) : Type 0 where
  pub sealed : Has y (answers ds)
  pub sent : IsSent ds y.number

still_sealed : (d : Deed) (ds : List Deed) (y : Response) → Has y (answers ds) → Has y (answers (d ∷ ds))
still_sealed (Challenges n echo issued own m) ds y h = inr h
still_sealed (Replies t own m) ds y h = inr h
still_sealed (Notifies t own m) ds y h = inr h
still_sealed d ds y h = h

still_for : (d : Deed) (ds : List Deed) (y : Response) → WasFor ds y → WasFor (d ∷ ds) y
still_for d ds y x = record { sealed = still_sealed d ds y x.sealed; sent = still_sent d ds y.number x.sent }

for_that : (s : SecurityContext) (w : World) (number : ℕ) (own : Option ℕ) (m : InnerParts) → IsForThatRequest s w (record { number = number; own = own; message = m }) → WasFor (digest s w) (record { number = number; own = own; message = m })
for_that s w number own m x = record {
  sealed = subst (λ rs. Has (record { number = number; own = own; message = m }) rs) (answered_is s w) x.was_answered;
  sent = (x.request, subst (λ rs. Has x.request rs) (sent_is s w) x.was_sent, x.number_is);
}

heard_for : LawsBelow → (n : ℕ) (s : SecurityContext) (w : World) (y : Response) → IsLawful n s w → Has y (heard w) → WasFor (digest s w) y
heard_for laws n s (Then w (AtClient (client.Datagram now d) (client.Took (client.Notified received number)))) y i (inl e) =
    still_for _ (digest s w) y (subst (WasFor (digest s w)) (sym e)
    (for_that s w number received.number received.message (answers_that laws n s w (AtClient (client.Datagram now d) (client.Took (client.Notified received number))) i)))
heard_for laws n s (Then w (AtClient (client.Datagram now d) (client.Took (client.Notified received number)))) y i (inr h) =
    still_for _ (digest s w) y (heard_for laws n s w y (before n s w _ i) h)
heard_for laws n s (Then w (AtClient (client.Datagram now d) (client.Took (client.Deliver received number)))) y i (inl e) =
    still_for _ (digest s w) y (subst (WasFor (digest s w)) (sym e)
    (for_that s w number received.number received.message (answers_that laws n s w (AtClient (client.Datagram now d) (client.Took (client.Deliver received number))) i)))
heard_for laws n s (Then w (AtClient (client.Datagram now d) (client.Took (client.Deliver received number)))) y i (inr h) =
    still_for _ (digest s w) y (heard_for laws n s w y (before n s w _ i) h)
heard_for laws n s (Then w event) y i h = still_for (deed s w event) (digest s w) y (heard_for laws n s w y (before n s w event i) h)
heard_for laws n s Begin y i h = absurd h

-- ---- a request that was asked, and what was heard for it

-- what was heard for it is a notification with a Partial IV of its own, and its place is before the one from which it waits; if it waits for notifications, it registers
record Follows (s : SecurityContext) (ds : List Deed) (hs : List Response) (r : client.Asked) : Type 0 where
  pub own : (y : Response) → Has y hs → y.number ≡ r.number → (j : ℕ) × (y.own ≡ Some j)
  pub notified : (y : Response) → Has y hs → y.number ≡ r.number → is_notification y.message.code y.message.options ≡ true
  pub earlier : (y : Response) → Has y hs → y.number ≡ r.number → place_of y.own < client.first_place r.wait
  pub registered : client.observes r.wait ≡ true → (q : Request) → Has q (sends ds) → q.number ≡ r.number → registers s.features q.message.code q.message.options ≡ true

abbrev NumbersDiffer : List client.Asked → Type 0
NumbersDiffer xs = AllPairs (λ (r q : client.Asked). r.number ≢ q.number) xs

record Listens (s : SecurityContext) (ds : List Deed) (hs : List Response) (h : client.History) : Type 0 where
  pub follow : All (Follows s ds hs) (client.asked h)
  pub apart : NumbersDiffer (client.asked h)

follows_same : (s : SecurityContext) (ds es : List Deed) (hs : List Response) (r : client.Asked) → sends es ≡ sends ds → Follows s ds hs r → Follows s es hs r
follows_same s ds es hs r same f = record {
  own = f.own;
  notified = f.notified;
  earlier = f.earlier;
  registered = λ observing q h e. f.registered observing q (subst (λ rs. Has q rs) same h) e;
}

listens_same : (s : SecurityContext) (ds es : List Deed) (hs : List Response) (h : client.History) → sends es ≡ sends ds → Listens s ds hs h → Listens s es hs h
listens_same s ds es hs h same x = record { follow = All-weaker (Follows s ds hs) (Follows s es hs) (λ r f. follows_same s ds es hs r same f) (client.asked h) x.follow; apart = x.apart }

no_pairs : NumbersDiffer []
no_pairs = λ i j d below within. absurd (omega (arith, within))

both : (P Q : client.Asked → Type 0) (xs : List client.Asked) → All P xs → All Q xs → All (λ r. P r × Q r) xs
both P Q xs a b = λ k d less. (a k d less, b k d less)

-- ---- what each event leaves

-- what the client of this history heard, after this event
abbrev hearing : client.Event → client.Entry → List Response → List Response
hearing (client.Datagram now d) (client.Took (client.Notified received number)) hs = record { number = number; own = received.number; message = received.message } ∷ hs
hearing (client.Datagram now d) (client.Took (client.Deliver received number)) hs = record { number = number; own = received.number; message = received.message } ∷ hs
hearing event entry hs = hs

hearing_is : (w : World) (event : client.Event) (entry : client.Entry) → heard (Then w (AtClient event entry)) ≡ hearing event entry (heard w)
hearing_is w (client.Datagram now d) (client.Took (client.Notified received number)) = refl
hearing_is w (client.Datagram now d) (client.Took (client.Deliver received number)) = refl
hearing_is w event entry = refl

registers_if : (b : Bool) → client.observes (if b then Observing 0 else Once) ≡ true → b ≡ true
registers_if true e = refl
registers_if false e = absurd (let f : false ≡ true = e in cc)

place_behind : (place : ℕ) (wait : Wait) → client.observes wait ≡ true → client.first_place (client.after_place place wait) ≡ place + 1
place_behind place Once e = absurd (let f : false ≡ true = e in cc)
place_behind place (Observing from) e = refl

still_observes : (place : ℕ) (wait : Wait) → client.observes (client.after_place place wait) ≡ true → client.observes wait ≡ true
still_observes place Once e = e
still_observes place (Observing from) e = refl

yes_to_both : (a b : Bool) → (a && b) ≡ true → (a ≡ true) × (b ≡ true)
yes_to_both true b e = (refl, e)
yes_to_both false b e = absurd (let f : false ≡ true = e in cc)

module _ (s : SecurityContext) (ds : List Deed) (hs : List Response) (g : client.History) (context_is : client.context g ≡ s) (sent : All (λ (r : client.Asked). IsSent ds r.number) (client.asked g))
    (known : (y : Response) → Has y hs → IsSent ds y.number) (x : Listens s ds hs g) where
  -- a request is sealed with a number that is above all others
  asks : (now room : ℕ) (p : Parts) (bytes : List ℕ) → ((q : Request) → Has q (sends ds) → q.number < client.next g)
      → Listens s (Sends (client.next g) (inside p) ∷ ds) hs (client.Then g (client.Request now p room) (client.Sent bytes))
  asks now room p bytes above =
      let k = client.next g in
      let es = Sends k (inside p) ∷ ds in
      let new : client.Asked = record { token = p.token; number = k; moment = max (client.clock g) now; wait = client.wait_of (client.context g).features p } in
      let below : (i : ℕ) → IsSent ds i → i < k = λ i is. subst (λ z. z < k) is.2 (above is.0 is.1) in
      let stay = client.beside (client.context g).features p (client.asked g) in
      record {
        follow = All-push (Follows s es hs) stay new
            (All-beside (Follows s es hs) (client.context g).features p (client.asked g) (All-weaker (λ (r : client.Asked). Follows s ds hs r × IsSent ds r.number) (Follows s es hs) (λ r f. record {
              own = f.0.own;
              notified = f.0.notified;
              earlier = f.0.earlier;
              registered = λ observing q. elim [
                | inl e ↦ λ same.
                    let less : r.number < k = below r.number f.1 in
                    let is : q.number ≡ k = ap (λ (z : Request). z.number) e in
                    absurd (omega (arith, less, is, same))
                | inr h ↦ λ same. f.0.registered observing q h same
              ];
            }) (client.asked g) (both (Follows s ds hs) (λ (r : client.Asked). IsSent ds r.number) (client.asked g) x.follow sent)))
            (record {
              own = λ y h e. let less : y.number < k = below y.number (known y h) in absurd (omega (arith, less, e));
              notified = λ y h e. let less : y.number < k = below y.number (known y h) in absurd (omega (arith, less, e));
              earlier = λ y h e. let less : y.number < k = below y.number (known y h) in absurd (omega (arith, less, e));
              registered = λ observing q. elim [
                | inl e ↦ λ same.
                    ap (λ (z : Request). registers s.features z.message.code z.message.options) e ∙ registers_inside s.features p
                    ∙ ap (λ (c : SecurityContext). registers c.features p.code p.options) (sym context_is)
                    ∙ registers_if (registers (client.context g).features p.code p.options) observing
                | inr h ↦ λ same. let less : q.number < k = above q h in absurd (omega (arith, less, same))
              ];
            });
        apart = all_pairs_push (λ (r q : client.Asked). r.number ≢ q.number) stay new
            (AllPairs-filter (λ (r q : client.Asked). r.number ≢ q.number) (λ r. not (client.gives_way (client.context g).features p r)) (client.asked g) x.apart)
            (λ i d within same.
            let less : (slice_index_or stay i d).number < k = below _ (All-beside (λ (r : client.Asked). IsSent ds r.number) (client.context g).features p (client.asked g) sent i d within) in
            omega (arith, less, same));
      }

  -- some of them are left
  leaves : (p : client.Asked → Bool) (event : client.Event) (entry : client.Entry) → client.asked (client.Then g event entry) ≡ filter p (client.asked g)
      → Listens s ds hs (client.Then g event entry)
  leaves p event entry is = record {
    follow = subst (All (Follows s ds hs)) (sym is) (All-filter p (Follows s ds hs) (client.asked g) x.follow);
    apart = subst NumbersDiffer (sym is) (AllPairs-filter (λ (r q : client.Asked). r.number ≢ q.number) p (client.asked g) x.apart);
  }

  module _ (laws : DatagramIsOneMessage) (differ : TokensDiffer (client.pending g)) (now : ℕ) (d : List ℕ) (received : Received) (number : ℕ) (r : client.Asked)
      (at : IsAnswerTo g (max (client.clock g) now) d r) (number_is : number ≡ r.number) (own : Option ℕ) (receives : Receives (awaited (client.context g) r) own d received) where
    abbrev response : Response
    response = record { number = number; own = received.number; message = received.message }

    -- it has the token of the request that it answers
    token_is : r.token ≡ received.token
    token_is =
        let (q, datagram, is, named) = at.0 in
        sym named ∙ ap (λ (z : Parts). z.token) (laws q receives.outer d datagram receives.datagram) ∙ sym receives.token

    was_asked : Contains (client.asked g) r
    was_asked = contains_filter (client.is_alive (max (client.clock g) now) (client.life_ms g)) (client.asked g) r at.1

    -- of what was asked, it answers the request with that number alone
    is_that : (q : client.Asked) → Contains (client.asked g) q → number ≡ q.number → q.token ≡ received.token
    is_that q has e = ap (λ (z : client.Asked). z.token) (one_of (λ z. z.number) (client.asked g) q r x.apart has was_asked (sym e ∙ number_is)) ∙ token_is

    -- a delivery ends the wait
    ends : Listens s ds (response ∷ hs) (client.Then g (client.Datagram now d) (client.Took (client.Deliver received number)))
    ends =
        let p : client.Asked → Bool = λ q. not (bytes_eq q.token received.token) in
        let xs = client.asked g in
        let others = both (λ q. Follows s ds hs q × Contains xs q) (λ q. p q ≡ true) (filter p xs)
        (All-filter p (λ q. Follows s ds hs q × Contains xs q) xs (both (Follows s ds hs) (Contains xs) xs x.follow (All-contains_itself xs))) (filter_passes p xs) in
        let never : (q : client.Asked) → (Follows s ds hs q × Contains xs q) × (p q ≡ true) → number ≡ q.number → ⊥ =
        λ q f e. let none = not_from_true _ ((bytes_eq-Decides q.token received.token).1 (is_that q f.0.1 e)) in let g' : true ≡ false = sym f.1 ∙ none in cc in
        record {
          follow = All-weaker (λ q. (Follows s ds hs q × Contains xs q) × (p q ≡ true)) (Follows s ds (response ∷ hs)) (λ q f. record {
            own = λ y. elim [
              | inl e ↦ λ same. absurd (never q f (sym (ap (λ (z : Response). z.number) e) ∙ same))
              | inr h ↦ λ same. f.0.0.own y h same
            ];
            notified = λ y. elim [
              | inl e ↦ λ same. absurd (never q f (sym (ap (λ (z : Response). z.number) e) ∙ same))
              | inr h ↦ λ same. f.0.0.notified y h same
            ];
            earlier = λ y. elim [
              | inl e ↦ λ same. absurd (never q f (sym (ap (λ (z : Response). z.number) e) ∙ same))
              | inr h ↦ λ same. f.0.0.earlier y h same
            ];
            registered = f.0.0.registered;
          }) (filter p xs) others;
          apart = AllPairs-filter (λ (z q : client.Asked). z.number ≢ q.number) p xs x.apart;
        }

    -- a notification leaves the registration pending, from the next place on
    goes_on : IsAwaited r own → continues r.wait received.message ≡ true → (j : ℕ) × (received.number ≡ Some j)
        → Listens s ds (response ∷ hs) (client.Then g (client.Datagram now d) (client.Took (client.Notified received number)))
    goes_on later goes numbered =
        let place = place_of received.number in
        let f = client.after_response received.token place in
        let xs = client.asked g in
        let ys = client.pending_at g (max (client.clock g) now) in
        let reached : client.first_place r.wait ≤ place = subst (λ o. client.first_place r.wait ≤ place_of o) (sym receives.number) later in
        let observing = (yes_to_both (client.observes r.wait) (is_notification received.message.code received.message.options) goes).0 in
        let notifies = (yes_to_both (client.observes r.wait) (is_notification received.message.code received.message.options) goes).1 in
        let all = both (λ q. Follows s ds hs q × Contains xs q) (Contains ys) ys
        (All-filter _ (λ q. Follows s ds hs q × Contains xs q) xs (both (Follows s ds hs) (Contains xs) xs x.follow (All-contains_itself xs))) (All-contains_itself ys) in
        let there : (q : client.Asked) → Follows s ds hs q → Contains ys q → q.token ≡ received.token → Follows s ds (response ∷ hs) (record q { wait = client.after_place place q.wait }) =
        λ q k has e.
        let same : q ≡ r = one_of_token ys q r (differ_later g now differ) has at.1 (e ∙ sym token_is) in
        let waits : client.observes q.wait ≡ true = ap (λ (z : client.Asked). client.observes z.wait) same ∙ observing in
        let from : client.first_place q.wait ≤ place = subst (λ (z : client.Asked). client.first_place z.wait ≤ place) (sym same) reached in
        let behind : client.first_place (client.after_place place q.wait) ≡ place + 1 = place_behind place q.wait waits in
        record {
          own = λ y. elim [
            | inl e ↦ λ n. (numbered.0, ap (λ (z : Response). z.own) e ∙ numbered.1)
            | inr h ↦ λ n. k.own y h n
          ];
          notified = λ y. elim [
            | inl e ↦ λ n. ap (λ (z : Response). is_notification z.message.code z.message.options) e ∙ notifies
            | inr h ↦ λ n. k.notified y h n
          ];
          earlier = λ y. elim [
            | inl e ↦ λ n. let at_place : place_of y.own ≡ place = ap (λ (z : Response). place_of z.own) e in omega (arith, at_place, behind)
            | inr h ↦ λ n. let before = k.earlier y h n in omega (arith, before, from, behind)
          ];
          registered = λ o. k.registered (still_observes place q.wait o);
        } in
        let other : (q : client.Asked) → Follows s ds hs q → Contains xs q → bytes_eq q.token received.token ≡ false → Follows s ds (response ∷ hs) q =
        λ q k has none.
        let never : number ≡ q.number → ⊥ = λ e. let g' : true ≡ false = sym ((bytes_eq-Decides q.token received.token).1 (is_that q has e)) ∙ none in cc in
        record {
          own = λ y. elim [ inl e ↦ λ n. absurd (never (sym (ap (λ (z : Response). z.number) e) ∙ n)) | inr h ↦ λ n. k.own y h n ];
          notified = λ y. elim [ inl e ↦ λ n. absurd (never (sym (ap (λ (z : Response). z.number) e) ∙ n)) | inr h ↦ λ n. k.notified y h n ];
          earlier = λ y. elim [ inl e ↦ λ n. absurd (never (sym (ap (λ (z : Response). z.number) e) ∙ n)) | inr h ↦ λ n. k.earlier y h n ];
          registered = k.registered;
        } in
        record {
          follow = All-map (Follows s ds (response ∷ hs)) f ys (All-weaker (λ q. (Follows s ds hs q × Contains xs q) × Contains ys q) (λ q. Follows s ds (response ∷ hs) (f q)) (λ q k.
              rewaited q (λ e. there q k.0.0 k.1 ((bytes_eq-Decides q.token received.token).0 e)) (λ e. other q k.0.0 k.0.1 e)) ys all);
          apart = differ_mapped (λ z. z.number) f (same_number received.token place) ys (AllPairs-filter (λ (z q : client.Asked). z.number ≢ q.number) _ xs x.apart);
        }
      where
        rewaited : (q : client.Asked) → (bytes_eq q.token received.token ≡ true → Follows s ds (response ∷ hs) (record q { wait = client.after_place (place_of received.number) q.wait }))
            → (bytes_eq q.token received.token ≡ false → Follows s ds (response ∷ hs) q) → Follows s ds (response ∷ hs) (client.after_response received.token (place_of received.number) q)
        rewaited q that other = by_test (bytes_eq q.token received.token) refl
          where
            by_test : (c : Bool) → bytes_eq q.token received.token ≡ c → Follows s ds (response ∷ hs) (client.after_response received.token (place_of received.number) q)
            by_test true e = rw (e) (that e)
            by_test false e = rw (e) (other e)

-- ---- over a world

lawful_client : (n : ℕ) (s : SecurityContext) (w : World) (h : client.History) → AtEach (Answers n s) w → client_history s w ≡ Some h → AllClientAnswers n h
lawful_client n s Begin h a e = let f : None ≡ Some h = e in cc
lawful_client n s (Then w (ClientStarts loaded ms)) h a e = subst (AllClientAnswers n) (some_is e) tt
lawful_client n s (Then w (AtClient event entry)) h a e =
    subst (AllClientAnswers n) (some_is (sym (ap (λ o. option_map (λ g. client.Then g event entry) o) a.1.1) ∙ e)) (lawful_client n s w a.1.0 a.0 a.1.1, a.1.2)
lawful_client n s (Then w event) h a e = lawful_client n s w h a.0 e

listens_at : LawsBelow → (n : ℕ) (s : SecurityContext) (w : World) (g : client.History) (event : client.Event) (entry : client.Entry) → IsLawful n s (Then w (AtClient event entry))
    → client_history s w ≡ Some g → ClientAnswer n g event entry → Listens s (digest s w) (heard w) g
    → Listens s (client_deed (Some g) event entry ∷ digest s w) (hearing event entry (heard w)) (client.Then g event entry)
listens_at laws n s w g event entry i f answer x = by_event event entry i answer
  where
    context_is : AtEach (Answers n s) w → client.context g ≡ s
    context_is a = (runs n s w g a f).context_is

    sent_all : AtEach (Answers n s) w → All (λ (r : client.Asked). IsSent (digest s w) r.number) (client.asked g)
    sent_all a = (runs n s w g a f).all_sent

    known : IsLawful n s w → (y : Response) → Has y (heard w) → IsSent (digest s w) y.number
    known j y h = (heard_for laws n s w y j h).sent

    same : (event : client.Event) (entry : client.Entry) → client_deed (Some g) event entry ≡ Nothing → Listens s (digest s w) (hearing event entry (heard w)) (client.Then g event entry)
        → Listens s (client_deed (Some g) event entry ∷ digest s w) (hearing event entry (heard w)) (client.Then g event entry)
    same event entry is y = subst (λ d. Listens s (d ∷ digest s w) (hearing event entry (heard w)) (client.Then g event entry)) (sym is) (listens_same s (digest s w) (Nothing ∷ digest s w) _ _ refl y)

    by_event : (event : client.Event) (entry : client.Entry) → IsLawful n s (Then w (AtClient event entry)) → ClientAnswer n g event entry
        → Listens s (client_deed (Some g) event entry ∷ digest s w) (hearing event entry (heard w)) (client.Then g event entry)
    by_event (client.Request now p room) (client.Sent bytes) i answer =
        let j = before n s w _ i in
        asks s (digest s w) (heard w) g (context_is j.answers) (sent_all j.answers) (known j) x now room p bytes
        (fits_client n s w (Some g) (client.Request now p room) (client.Sent bytes) f i.answers.0 i.above.0)
    by_event (client.Datagram now d) (client.Took (client.Notified received number)) i (r, at, (is, own, later, receives, goes)) =
        let j = before n s w _ i in
        let was = for_that s w number received.number received.message (answers_that laws n s w (AtClient (client.Datagram now d) (client.Took (client.Notified received number))) i) in
        let notifies = (yes_to_both (client.observes r.wait) (is_notification received.message.code received.message.options) goes).1 in
        same (client.Datagram now d) (client.Took (client.Notified received number)) refl
        (goes_on s (digest s w) (heard w) g (context_is j.answers) (sent_all j.answers) (known j) x laws.one (tokens_differ n g (lawful_client n s w g j.answers f)) now d received number r at is own receives
        later goes (notified_own s (digest s w) (record { number = number; own = received.number; message = received.message }) received.number (all_fit laws n s w j) was.sealed notifies refl))
    by_event (client.Datagram now d) (client.Took (client.Deliver received number)) i (r, at, (is, own, later, receives, goes)) =
        let j = before n s w _ i in
        same (client.Datagram now d) (client.Took (client.Deliver received number)) refl
        (ends s (digest s w) (heard w) g (context_is j.answers) (sent_all j.answers) (known j) x laws.one (tokens_differ n g (lawful_client n s w g j.answers f)) now d received number r at is own receives)
    by_event (client.Forget token) entry i answer =
        let j = before n s w _ i in
        same (client.Forget token) entry refl
        (leaves s (digest s w) (heard w) g (context_is j.answers) (sent_all j.answers) (known j) x (λ q. not (bytes_eq q.token token)) (client.Forget token) entry refl)
    by_event (client.Restart first) entry i answer = same (client.Restart first) entry refl (record { follow = All-nil (Follows s (digest s w) (heard w)); apart = no_pairs })
    by_event event entry i answer = same event entry refl (record { follow = x.follow; apart = x.apart })

listens : LawsBelow → (n : ℕ) (s : SecurityContext) (w : World) (h : client.History) → IsLawful n s w → client_history s w ≡ Some h → Listens s (digest s w) (heard w) h
listens laws n s Begin h i e = let f : None ≡ Some h = e in cc
listens laws n s (Then w (ClientStarts loaded ms)) h i e =
    subst (Listens s (digest s (Then w (ClientStarts loaded ms))) (heard w)) (some_is e)
    (record { follow = All-nil (Follows s (digest s (Then w (ClientStarts loaded ms))) (heard w)); apart = no_pairs })
listens laws n s (Then w (AtClient event entry)) h i e =
    let g = i.answers.1.0 in
    let f = i.answers.1.1 in
    let same : client.Then g event entry ≡ h = some_is (sym (ap (λ x. option_map (λ k. client.Then k event entry) x) f) ∙ e) in
    subst (Listens s (digest s (Then w (AtClient event entry))) (heard (Then w (AtClient event entry)))) same
    (subst (λ hs. Listens s (digest s (Then w (AtClient event entry))) hs (client.Then g event entry)) (sym (hearing_is w event entry))
    (subst (λ o. Listens s (client_deed o event entry ∷ digest s w) (hearing event entry (heard w)) (client.Then g event entry)) (sym f)
    (listens_at laws n s w g event entry i f i.answers.1.2 (listens laws n s w g (before n s w _ i) f))))
listens laws n s (Then w (AtServer event entry)) h i e =
    listens_same s (digest s w) (digest s (Then w (AtServer event entry))) (heard w) h (sends_server (server_life s w) event entry (digest s w)) (listens laws n s w h (before n s w _ i) e)
listens laws n s (Then w event) h i e = listens_same s (digest s w) (digest s (Then w event)) (heard w) h refl (listens laws n s w h (before n s w event i) e)

-- ---- what a client hears

later_own : (j : ℕ) (o : Option ℕ) → place_of (Some j) < place_of o → (k : ℕ) × (o ≡ Some k) × (j < k)
later_own j None less = absurd (omega (arith, less))
later_own j (Some k) less = (k, refl, omega (arith, less))

is_next : LawsBelow → (n : ℕ) (s : SecurityContext) (w : World) (h : client.History) (now number : ℕ) (d : List ℕ) (received : Received) (r : client.Asked) (own : Option ℕ) → IsLawful n s w
    → client_history s w ≡ Some h → IsAnswerTo h (max (client.clock h) now) d r → number ≡ r.number → IsAwaited r own → Receives (awaited (client.context h) r) own d received
    → IsForThatRequest s w (record { number = number; own = received.number; message = received.message }) → IsNext s w (record { number = number; own = received.number; message = received.message })
is_next laws n s w h now number d received r own i f at is later receives was =
    let x : Response = record { number = number; own = received.number; message = received.message } in
    let was_asked = contains_filter (client.is_alive (max (client.clock h) now) (client.life_ms h)) (client.asked h) r at.1 in
    let follows = All-contains (Follows s (digest s w) (heard w)) (client.asked h) r (listens laws n s w h i f).follow was_asked in
    let reached : client.first_place r.wait ≤ place_of received.number = subst (λ o. client.first_place r.wait ≤ place_of o) (sym receives.number) later in
    record {
      once = λ has. let before = follows.earlier x has is in omega (arith, before, reached);
      in_order = λ y has same.
          let (j, y_own) = follows.own y has (same ∙ is) in
          let before : place_of y.own < client.first_place r.wait = follows.earlier y has (same ∙ is) in
          let (k, x_own, less) = later_own j received.number (subst (λ o. place_of o < place_of received.number) y_own (omega (arith, before, reached))) in
          subst (IsAfter x y) (sym (answered_is s w))
          (after s (digest s w) x y k j (all_fit laws n s w i) x_own y_own less (for_that s w number received.number received.message was).sealed (heard_for laws n s w y i has).sealed);
    }

-- the last response has no Partial IV, and what was heard before it does
is_last : LawsBelow → (n : ℕ) (s : SecurityContext) (w : World) (h : client.History) (now number : ℕ) (d : List ℕ) (received : Received) (r : client.Asked) (own : Option ℕ) → IsLawful n s w
    → client_history s w ≡ Some h → IsAnswerTo h (max (client.clock h) now) d r → number ≡ r.number → own ≡ None → Receives (awaited (client.context h) r) own d received
    → IsForThatRequest s w (record { number = number; own = received.number; message = received.message }) → IsNext s w (record { number = number; own = received.number; message = received.message })
is_last laws n s w h now number d received r own i f at is none receives was =
    let x : Response = record { number = number; own = received.number; message = received.message } in
    let was_asked = contains_filter (client.is_alive (max (client.clock h) now) (client.life_ms h)) (client.asked h) r at.1 in
    let follows = All-contains (Follows s (digest s w) (heard w)) (client.asked h) r (listens laws n s w h i f).follow was_asked in
    let x_own : received.number ≡ None = receives.number ∙ none in
    record {
      once = λ has. let (j, some) = follows.own x has is in let e : None ≡ Some j = sym x_own ∙ some in cc;
      in_order = λ y has same.
          let (j, y_own) = follows.own y has (same ∙ is) in
          subst (IsAfter x y) (sym (answered_is s w))
          (last_after s (digest s w) x y (all_fit laws n s w i) x_own (sym same) j y_own (follows.notified y has (same ∙ is))
          (for_that s w number received.number received.message was).sealed (heard_for laws n s w y i has).sealed);
    }

hears_in_order : LawsBelow → (n : ℕ) (s : SecurityContext) (w : World) (event : Event) → IsLawful n s (Then w event) → IfSome (heard_in event) (IsNext s w)
hears_in_order laws n s w (AtClient (client.Datagram now d) (client.Took (client.Notified received number))) i =
    let (r, at, (is, own, later, receives, goes)) = i.answers.1.2 in
    is_next laws n s w i.answers.1.0 now number d received r own (before n s w _ i) i.answers.1.1 at is later receives
    (answers_that laws n s w (AtClient (client.Datagram now d) (client.Took (client.Notified received number))) i)
hears_in_order laws n s w (AtClient (client.Datagram now d) (client.Took (client.Deliver received number))) i =
    let (r, at, (is, own, place, receives, goes)) = i.answers.1.2 in
    let that = answers_that laws n s w (AtClient (client.Datagram now d) (client.Took (client.Deliver received number))) i in
    elim place [
      | inl later ↦ is_next laws n s w i.answers.1.0 now number d received r own (before n s w _ i) i.answers.1.1 at is later receives that
      | inr last ↦ is_last laws n s w i.answers.1.0 now number d received r own (before n s w _ i) i.answers.1.1 at is last.0 receives that
    ]
hears_in_order laws n s w event i = tt

notifies_registrations : LawsBelow → (n : ℕ) (s : SecurityContext) (w : World) (event : Event) → IsLawful n s (Then w event) → NotifiesRegistrations s w event
notifies_registrations laws n s w (AtClient (client.Datagram now d) (client.Took (client.Notified received number))) i = λ q has same.
    let h = i.answers.1.0 in
    let (r, at, (is, own, later, receives, goes)) = i.answers.1.2 in
    let was_asked = contains_filter (client.is_alive (max (client.clock h) now) (client.life_ms h)) (client.asked h) r at.1 in
    let follows = All-contains (Follows s (digest s w) (heard w)) (client.asked h) r (listens laws n s w h (before n s w _ i) i.answers.1.1).follow was_asked in
    let observing = (yes_to_both (client.observes r.wait) (is_notification received.message.code received.message.options) goes).0 in
    follows.registered observing q (subst (λ rs. Has q rs) (sent_is s w) has) (same ∙ is)
notifies_registrations laws n s w event i = tt

unheard : LawsBelow → (n : ℕ) (s : SecurityContext) (w : World) (h : client.History) (now number : ℕ) (d : List ℕ) (r : client.Asked) → IsLawful n s w → client_history s w ≡ Some h
    → IsAnswerTo h (max (client.clock h) now) d r → number ≡ r.number → (y : Option ℕ) (m : InnerParts) → IsUnheard s w (record { number = number; own = y; message = m })
unheard laws n s w h now number d r i f at is o m = λ q has same plain y was y_is. by_wait q has same plain y was y_is r.wait refl
  where
    was_asked : Contains (client.asked h) r
    was_asked = contains_filter (client.is_alive (max (client.clock h) now) (client.life_ms h)) (client.asked h) r at.1

    follows : Follows s (digest s w) (heard w) r
    follows = All-contains (Follows s (digest s w) (heard w)) (client.asked h) r (listens laws n s w h i f).follow was_asked

    by_wait : (q : Request) → Has q (sent s w) → q.number ≡ number → registers s.features q.message.code q.message.options ≡ false
        → (y : Response) → Has y (heard w) → y.number ≡ number → (wait : Wait) → r.wait ≡ wait → ⊥
    by_wait q has same plain y was y_is Once e =
        let before : place_of y.own < client.first_place r.wait = follows.earlier y was (y_is ∙ is) in
        let none : client.first_place r.wait ≡ 0 = ap client.first_place e in
        omega (arith, before, none)
    by_wait q has same plain y was y_is (Observing from) e =
        let registering = follows.registered (ap client.observes e) q (subst (λ rs. Has q rs) (sent_is s w) has) (same ∙ is) in
        let g : true ≡ false = sym registering ∙ plain in cc

hears_plain_once : LawsBelow → (n : ℕ) (s : SecurityContext) (w : World) (event : Event) → IsLawful n s (Then w event) → IfSome (heard_in event) (IsUnheard s w)
hears_plain_once laws n s w (AtClient (client.Datagram now d) (client.Took (client.Notified received number))) i =
    let (r, at, (is, own, later, receives, goes)) = i.answers.1.2 in
    unheard laws n s w i.answers.1.0 now number d r (before n s w _ i) i.answers.1.1 at is received.number received.message
hears_plain_once laws n s w (AtClient (client.Datagram now d) (client.Took (client.Deliver received number))) i =
    let (r, at, (is, own, later, receives, goes)) = i.answers.1.2 in
    unheard laws n s w i.answers.1.0 now number d r (before n s w _ i) i.answers.1.1 at is received.number received.message
hears_plain_once laws n s w event i = tt

-- ---- behind the last response

ended_heard : (w : World) (k : ℕ) → Has k (ended w) → (y : Response) × Has y (heard w) × (y.number ≡ k)
ended_heard (Then w (AtClient (client.Datagram now d) (client.Took (client.Deliver received number)))) k (inl e) = (record { number = number; own = received.number; message = received.message }, inl refl, sym e)
ended_heard (Then w (AtClient (client.Datagram now d) (client.Took (client.Deliver received number)))) k (inr h) = let (y, has, is) = ended_heard w k h in (y, inr has, is)
ended_heard (Then w (AtClient (client.Datagram now d) (client.Took (client.Notified received number)))) k h = let (y, has, is) = ended_heard w k h in (y, inr has, is)
ended_heard (Then w event) k h = ended_heard w k h
ended_heard Begin k h = absurd h

abbrev IsOpen : List ℕ → client.Asked → Type 0
IsOpen es r = Has r.number es → ⊥

open_after : LawsBelow → (n : ℕ) (s : SecurityContext) (w : World) (g : client.History) (event : client.Event) (entry : client.Entry) → IsLawful n s (Then w (AtClient event entry))
    → client_history s w ≡ Some g → ClientAnswer n g event entry → All (IsOpen (ended w)) (client.asked g)
    → All (IsOpen (ended (Then w (AtClient event entry)))) (client.asked (client.Then g event entry))
open_after laws n s w g (client.Request now p room) (client.Sent bytes) i f answer x =
    let j = before n s w _ i in
    let above = fits_client n s w (Some g) (client.Request now p room) (client.Sent bytes) f i.answers.0 i.above.0 in
    All-push (IsOpen (ended w)) (client.beside (client.context g).features p (client.asked g)) _ (All-beside (IsOpen (ended w)) (client.context g).features p (client.asked g) x) (λ has.
    let (y, was, is) = ended_heard w _ has in
    let sent_is = (heard_for laws n s w y j was).sent in
    let less = above sent_is.0 sent_is.1 in
    let same = sent_is.2 in
    omega (arith, less, same, is))
open_after laws n s w g (client.Datagram now d) (client.Took (client.Notified received number)) i f answer x =
    let ys = client.pending_at g (max (client.clock g) now) in
    let change = client.after_response received.token (place_of received.number) in
    All-map (IsOpen (ended w)) change ys
    (All-weaker (IsOpen (ended w)) (λ q. IsOpen (ended w) (change q)) (λ q k has. k (subst (λ z. Has z (ended w)) (same_number received.token (place_of received.number) q) has)) ys
    (All-filter (client.is_alive (max (client.clock g) now) (client.life_ms g)) (IsOpen (ended w)) (client.asked g) x))
open_after laws n s w g (client.Datagram now d) (client.Took (client.Deliver received number)) i f (r, at, (is, own, later, receives, goes)) x =
    let j = before n s w _ i in
    let a = j.answers in
    let p : client.Asked → Bool = λ q. not (bytes_eq q.token received.token) in
    let xs = client.asked g in
    let ctx = (runs n s w g a f).context_is in
    let all_sent = (runs n s w g a f).all_sent in
    let known : (y : Response) → Has y (heard w) → IsSent (digest s w) y.number = λ y h. (heard_for laws n s w y j h).sent in
    let listening = listens laws n s w g j f in
    let differ = tokens_differ n g (lawful_client n s w g a f) in
    All-weaker (λ q. (IsOpen (ended w) q × Contains xs q) × (p q ≡ true)) (IsOpen (number ∷ ended w)) (λ q k. elim [
      | inl e ↦
          let token = is_that s (digest s w) (heard w) g ctx all_sent known listening laws.one differ now d received number r at is own receives q k.0.1 (sym e) in
          let none = not_from_true _ ((bytes_eq-Decides q.token received.token).1 token) in
          let g' : true ≡ false = sym k.1 ∙ none in cc
      | inr h ↦ k.0.0 h
    ]) (filter p xs)
    (both (λ q. IsOpen (ended w) q × Contains xs q) (λ q. p q ≡ true) (filter p xs)
    (All-filter p (λ q. IsOpen (ended w) q × Contains xs q) xs (both (IsOpen (ended w)) (Contains xs) xs x (All-contains_itself xs))) (filter_passes p xs))
open_after laws n s w g (client.Forget token) entry i f answer x = All-filter (λ q. not (bytes_eq q.token token)) (IsOpen (ended w)) (client.asked g) x
open_after laws n s w g (client.Restart first) entry i f answer x = All-nil (IsOpen (ended w))
open_after laws n s w g event entry i f answer x = x

open_at : LawsBelow → (n : ℕ) (s : SecurityContext) (w : World) (h : client.History) → IsLawful n s w → client_history s w ≡ Some h → All (IsOpen (ended w)) (client.asked h)
open_at laws n s Begin h i e = let f : None ≡ Some h = e in cc
open_at laws n s (Then w (ClientStarts loaded ms)) h i e = subst (λ g. All (IsOpen (ended w)) (client.asked g)) (some_is e) (All-nil (IsOpen (ended w)))
open_at laws n s (Then w (AtClient event entry)) h i e =
    let g = i.answers.1.0 in
    let f = i.answers.1.1 in
    let same : client.Then g event entry ≡ h = some_is (sym (ap (λ x. option_map (λ k. client.Then k event entry) x) f) ∙ e) in
    subst (λ k. All (IsOpen (ended (Then w (AtClient event entry)))) (client.asked k)) same
    (open_after laws n s w g event entry i f i.answers.1.2 (open_at laws n s w g (before n s w _ i) f))
open_at laws n s (Then w event) h i e = open_at laws n s w h (before n s w event i) e

still_open : LawsBelow → (n : ℕ) (s : SecurityContext) (w : World) (h : client.History) (now number : ℕ) (d : List ℕ) (r : client.Asked) → IsLawful n s w → client_history s w ≡ Some h
    → IsAnswerTo h (max (client.clock h) now) d r → number ≡ r.number → Has number (ended w) → ⊥
still_open laws n s w h now number d r i f at is has =
    All-contains (IsOpen (ended w)) (client.asked h) r (open_at laws n s w h i f)
    (contains_filter (client.is_alive (max (client.clock h) now) (client.life_ms h)) (client.asked h) r at.1) (subst (λ z. Has z (ended w)) is has)

hears_no_more : LawsBelow → (n : ℕ) (s : SecurityContext) (w : World) (event : Event) → IsLawful n s (Then w event) → IfSome (heard_in event) (IsUnended w)
hears_no_more laws n s w (AtClient (client.Datagram now d) (client.Took (client.Notified received number))) i =
    let (r, at, (is, own, later, receives, goes)) = i.answers.1.2 in
    still_open laws n s w i.answers.1.0 now number d r (before n s w _ i) i.answers.1.1 at is
hears_no_more laws n s w (AtClient (client.Datagram now d) (client.Took (client.Deliver received number))) i =
    let (r, at, (is, own, later, receives, goes)) = i.answers.1.2 in
    still_open laws n s w i.answers.1.0 now number d r (before n s w _ i) i.answers.1.1 at is
hears_no_more laws n s w event i = tt

-- ---- all of it

each : (P : World → Event → Type 0) (n : ℕ) (s : SecurityContext) → ((w : World) (event : Event) → IsLawful n s (Then w event) → P w event) → (w : World) → IsLawful n s w → AtEach P w
each P n s f Begin i = tt
each P n s f (Then w event) i = (each P n s f w (before n s w event i), f w event i)

pub both_ends_hold : LawsBelow → (n : ℕ) (s : SecurityContext) (w : World) → IsLawful n s w → BothEnds s w
both_ends_hold laws n s w i =
    record {
      once = each (DeliversOnce s) n s (delivers_once laws n s) w i;
      that_request = each (AnswersThatRequest s) n s (answers_that laws n s) w i;
      nonces = nonces_apart s w (each (SealsUnderNewNonce s) n s (seals_new laws n s) w i);
      in_order = each (λ v event. IfSome (heard_in event) (IsNext s v)) n s (hears_in_order laws n s) w i;
      registered = each (NotifiesRegistrations s) n s (notifies_registrations laws n s) w i;
      plain_once = each (λ v event. IfSome (heard_in event) (IsUnheard s v)) n s (hears_plain_once laws n s) w i;
      no_more = each (λ v event. IfSome (heard_in event) (IsUnended v)) n s (hears_no_more laws n s) w i;
      opens_fresh = each (OpensFresh s) n s (opens_fresh laws n s) w i;
    }
