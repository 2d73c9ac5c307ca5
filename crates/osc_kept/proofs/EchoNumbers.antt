-- Echo values that are made of Sender Sequence Numbers are new. ds are the deeds so far, value is an Echo value, p a number.
use Rattle.std.proofs.Common.{◌≡◌, ℕ, ◌<◌, ◌≤◌, ◌^◌, ◌∙◌, sym, ap, subst, arith, refl, Bool, true, false, Option, Some, None, List, [], ◌∷◌, ◌⊎◌, inl, inr, if◌then◌else◌}
use Rattle.std.proofs.lemmas.Nat.{from_be_bytes-to_be_bytes_8}
use Rattle.std.specs.Int.{from_be_bytes, w64}
use Rattle.std.specs.Prelude.{length, max, unwrap_or}
use Rattle.std.specs.List.{cons_option}
use Rattle.std.specs.Option.{option_map}
use Rattle.osc_coap.specs.Datagram.{Parts}
use Rattle.osc_coap.specs.Interpreted.{is_valid_length}
use Rattle.osc_coap.specs.OptionNumbers as options
use Rattle.osc_context.specs.SecurityContext.{SecurityContext}
use Rattle.osc_protect.specs.Sealed.{inside}
use Rattle.osc_client.specs.ClientHistory as client
use Rattle.osc_life.specs.Life.{Life, challenge, in_force, is_open, next_own}
use Rattle.osc_life.specs.LifeAnswer.{challenge_given, own_number}
use Rattle.osc_life.specs.Replies.{challenge_message}
use Rattle.osc_life.specs.ServerHistory as server
use Rattle.osc_endpoint.specs.ServerAnswer.{ServerAnswer}
use Rattle.osc_kept_ends.specs.EchoNumber.{echo_of}
use Rattle.osc_kept.specs.Claims.{AtEachHeard, IsForThatRequest, TwoEnds}
use Rattle.osc_kept.specs.EchoNumbers.{CountedGoesOn, EchoByNumbers, EchoesAreNumbers, EchoesHeard, IsLawfulByNumbers, MakesEcho, NumberIsUnseen, EchoesItsNumber, sealed_echo}
use Rattle.osc_kept.specs.GoingOn.{IsDrawn}
use Rattle.osc_kept.specs.InWorld.{IsUnseen}
use Rattle.osc_kept.specs.Premises.{AtEach, Answers, BeginsAbove, EchoIsNew, IsLawful}
use Rattle.osc_kept.specs.World.{World, Event, Begin, Then, Server, ServerStarts, ClientStarts, AtClient, AtServer, Draws, Reserves, Has, Request, Response, client_history, heard, heard_in, sent, server_history, server_life}
use Rattle.osc_kept.proofs.Above.{own_low, owns_below}
use Rattle.osc_kept.proofs.Deeds.{Deed, Begins, Challenges, Delivers, Notifies, Nothing, Renews, Skips, Replies, Sends, Spoils, answers, born_challenge, carried, life_in, owns, replied_challenge}
use Rattle.osc_kept.proofs.Digest.{answered_is, client_deed, deed, digest, server_deed}
use Rattle.osc_kept.proofs.Fitting.{again_or_new, same_life, still_in_force}
use Rattle.osc_kept.proofs.Lives.{OnlyFirst, Stands, life_known, some_is, stands}
use Rattle.osc_kept.proofs.WorldSteps.{heard_now, more_heard}

none_some : {A : Type 0} (x : A) → None ≡ Some x → ⊥
none_some x e = cc

-- ---- one value, one number

one_value : (n k : ℕ) → n ≤ 2 ^ 40 → k ≤ 2 ^ 40 → echo_of n ≡ echo_of k → n ≡ k
one_value n k a b e = sym (from_be_bytes-to_be_bytes_8 n (omega (arith, a))) ∙ ap (from_be_bytes w64) e ∙ from_be_bytes-to_be_bytes_8 k (omega (arith, b))

-- ---- over deeds: each challenge gives the life's last value again, or one of its own number, and so may a reply; nothing else that the server seals has one

abbrev pub Makes : SecurityContext → List Deed → Deed → Type 0
Makes s ds (Challenges n echo issued own m) = ((value : List ℕ) → carried m ≡ Some value → value ≡ echo) × ((challenge (life_in s ds).marks ≡ Some (echo, issued)) ⊎ (echo ≡ echo_of own))
Makes s ds (Replies t own m) = (carried m ≡ None) ⊎ ((k : ℕ) × (own ≡ Some k) × (carried m ≡ Some (echo_of k)))
Makes s ds (Notifies t own m) = carried m ≡ None
Makes s ds d = Unit {0}

abbrev pub AllMake : SecurityContext → List Deed → Type 0
AllMake s [] = Unit {0}
AllMake s (d ∷ ds) = AllMake s ds × Makes s ds d

-- the value is of a number of its own with which the server sealed
abbrev pub IsNumbered : List Deed → List ℕ → Type 0
IsNumbered ds value = (p : ℕ) × (value ≡ echo_of p) × Has p (owns ds)

numbered_more : (d : Deed) (ds : List Deed) (value : List ℕ) → IsNumbered ds value → IsNumbered (d ∷ ds) value
numbered_more (Challenges n echo issued own m) ds value (p, e, h) = (p, e, inr h)
numbered_more (Replies t (Some own) m) ds value (p, e, h) = (p, e, inr h)
numbered_more (Replies t None m) ds value (p, e, h) = (p, e, h)
numbered_more (Notifies t own m) ds value (p, e, h) = (p, e, inr h)
numbered_more d ds value x = x

last_numbered : (s : SecurityContext) (ds : List Deed) (c : List ℕ × ℕ) → AllMake s ds → challenge (life_in s ds).marks ≡ Some c → IsNumbered ds c.0
last_numbered s [] c a e = absurd (none_some c e)
last_numbered s (Begins start size ∷ ds) c a e = absurd (none_some c (sym (born_challenge s start size) ∙ e))
last_numbered s (Renews next ∷ ds) c a e = absurd (none_some c e)
last_numbered s (Challenges n echo issued own m ∷ ds) c a e = elim a.1.1 [
  | inl same ↦ numbered_more (Challenges n echo issued own m) ds c.0 (last_numbered s ds c a.0 (same ∙ e))
  | inr made ↦ (own, sym (ap (λ (x : List ℕ × ℕ). x.0) (some_is e)) ∙ made, inl refl)
]
last_numbered s (Replies t own m ∷ ds) c a e = numbered_more (Replies t own m) ds c.0 (last_numbered s ds c a.0 (sym (replied_challenge own (life_in s ds)) ∙ e))
last_numbered s (Notifies t own m ∷ ds) c a e = numbered_more (Notifies t own m) ds c.0 (last_numbered s ds c a.0 e)
last_numbered s (Skips count ∷ ds) c a e = last_numbered s ds c a.0 e
last_numbered s (Spoils n ∷ ds) c a e = last_numbered s ds c a.0 e
last_numbered s (Delivers t m ∷ ds) c a e = last_numbered s ds c a.0 e
last_numbered s (Sends n m ∷ ds) c a e = last_numbered s ds c a.0 e
last_numbered s (Nothing ∷ ds) c a e = last_numbered s ds c a.0 e

read_of : (x : Response) (m : _) (value : List ℕ) → x.message ≡ m → carried x.message ≡ Some value → carried m ≡ Some value
read_of x m value f e = sym (ap carried f) ∙ e

-- each Echo value that the server sealed is of a number of its own
answer_numbered : (s : SecurityContext) (ds : List Deed) (x : Response) (value : List ℕ) → AllMake s ds → Has x (answers ds) → carried x.message ≡ Some value → IsNumbered ds value
answer_numbered s [] x value a h e = absurd h
answer_numbered s (Challenges n echo issued own m ∷ ds) x value a (inl f) e =
    let same : value ≡ echo = a.1.0 value (read_of x m value (ap (λ (r : Response). r.message) f) e) in
    elim a.1.1 [
      | inl last ↦ subst (IsNumbered (Challenges n echo issued own m ∷ ds)) (sym same) (numbered_more (Challenges n echo issued own m) ds echo (last_numbered s ds (echo, issued) a.0 last))
      | inr made ↦ (own, same ∙ made, inl refl)
    ]
answer_numbered s (Challenges n echo issued own m ∷ ds) x value a (inr h) e = numbered_more (Challenges n echo issued own m) ds value (answer_numbered s ds x value a.0 h e)
answer_numbered s (Replies t own m ∷ ds) x value a (inl f) e =
    let says : carried m ≡ Some value = read_of x m value (ap (λ (r : Response). r.message) f) e in
    elim a.1 [
      | inl none ↦ absurd (none_some value (sym none ∙ says))
      | inr (k, is, made) ↦ (k, some_is (sym says ∙ made), subst (λ o. Has k (owns (Replies t o m ∷ ds))) (sym is) (inl refl))
    ]
answer_numbered s (Replies t own m ∷ ds) x value a (inr h) e = numbered_more (Replies t own m) ds value (answer_numbered s ds x value a.0 h e)
answer_numbered s (Notifies t own m ∷ ds) x value a (inl f) e = absurd (none_some value (sym a.1 ∙ read_of x m value (ap (λ (r : Response). r.message) f) e))
answer_numbered s (Notifies t own m ∷ ds) x value a (inr h) e = numbered_more (Notifies t own m) ds value (answer_numbered s ds x value a.0 h e)
answer_numbered s (d ∷ ds) x value a h e = numbered_more d ds value (answer_numbered s ds x value a.0 h e)

-- ---- over worlds

known_life : (n : ℕ) (s : SecurityContext) (w : World) (h : server.History) → AtEach (Answers n s) w → server_history s w ≡ Some h → server_life s w ≡ Some (life_in s (digest s w))
known_life n s w h a e = life_known s w h (life_in s (digest s w)) e (stands n s w h a e).present

given_alone : (b : Bool) (given value : List ℕ) → (if b then Some given else None) ≡ Some value → value ≡ given
given_alone true given value e = sym (some_is e)
given_alone false given value e = absurd (none_some value e)

challenge_makes : (n : ℕ) (s : SecurityContext) (w : World) (now mid i k issued : ℕ) (echo d given reply : List ℕ) → AtEach (Answers n s) w
    → Answers n s w (AtServer (server.Datagram now echo mid d) (server.Took (server.Challenge i k given issued) reply))
    → MakesEcho s w (AtServer (server.Datagram now echo mid d) (server.Took (server.Challenge i k given issued) reply))
    → Makes s (digest s w) (Challenges k given issued (next_own (life_in s (digest s w))) (inside (challenge_message given)))
challenge_makes n s w now mid i k issued echo d given reply all answer makes =
    let x = answer.2.0 in
    let h : server.History = answer.0 in
    let l : Life = life_in s (digest s w) in
    let clock : ℕ = max (server.clock h) now in
    let e : x.2 ≡ l = same_life s (digest s w) h x.0 x.2 (stands n s w h all answer.1) x.3.life_is in
    let last : (given, issued) ≡ challenge_given l clock echo = x.4.2 ∙ ap (λ z. challenge_given z clock echo) e in
    let life_i : server.life h i ≡ Some l = ap (λ j. server.life h j) x.4.3 ∙ x.3.life_is ∙ ap (λ z. Some z) e in (
      given_alone (is_valid_length options.echo (length given)) given,
      elim (again_or_new (in_force l clock) (challenge l.marks) (echo, clock) (given, issued) (λ c f. still_in_force (is_open l) (challenge l.marks) clock c f) last) [
        | inl same ↦ inl same
        | inr new ↦ inr (makes h l answer.1 life_i new.0)
      ],
    )

reply_makes : (s : SecurityContext) (ds : List Deed) (t : server.TicketValues) (own : Bool) (p : Parts) (known : Option Life) → known ≡ Some (life_in s ds)
    → (sealed_echo p ≡ None) ⊎ ((own ≡ true) × ((of : Life) → known ≡ Some of → sealed_echo p ≡ Some (echo_of (next_own of))))
    → Makes s ds (Replies t (own_number own (life_in s ds)) (inside p))
reply_makes s ds t own p known e (inl none) = inl none
reply_makes s ds t own p known e (inr (asked, made)) = inr (next_own (life_in s ds), ap (λ b. own_number b (life_in s ds)) asked, made (life_in s ds) e)

server_makes : (n : ℕ) (s : SecurityContext) (w : World) (event : server.Event) (entry : server.Entry) → AtEach (Answers n s) w → Answers n s w (AtServer event entry)
    → MakesEcho s w (AtServer event entry) → EchoesItsNumber s w (AtServer event entry) → Makes s (digest s w) (server_deed (Some (life_in s (digest s w))) event entry)
server_makes n s w (server.Datagram now echo mid d) (server.Took (server.Challenge i k given issued) reply) all answer makes replies =
    challenge_makes n s w now mid i k issued echo d given reply all answer makes
server_makes n s w (server.Reply t own mid p room) (server.Replied bytes) all answer makes replies =
    reply_makes s (digest s w) t own p (server_life s w) (known_life n s w answer.0 all answer.1) replies
server_makes n s w (server.Notify t p room) (server.Replied bytes) all answer makes replies = replies
server_makes n s w (server.Restart i next) server.Restarted all answer makes replies = tt
server_makes n s w (server.Skip i count) server.Skipped all answer makes replies = tt
server_makes n s w event entry all answer makes replies = tt

client_makes : (s : SecurityContext) (ds : List Deed) (o : Option client.History) (event : client.Event) (entry : client.Entry) → Makes s ds (client_deed o event entry)
client_makes s ds (Some h) (client.Request now p room) (client.Sent bytes) = tt
client_makes s ds o event entry = tt

pub numbered_before : (s : SecurityContext) (w : World) (event : Event) → EchoesAreNumbers s (Then w event) → EchoesAreNumbers s w
numbered_before s w event i = record { makes = i.makes.0; echoes = i.echoes.0; replies = i.replies.0 }

all_make : (n : ℕ) (s : SecurityContext) (w : World) → AtEach (Answers n s) w → EchoesAreNumbers s w → AllMake s (digest s w)
all_make n s Begin a i = tt
all_make n s (Then w (AtServer event entry)) a i = (
  all_make n s w a.0 (numbered_before s w _ i),
  subst (λ l. Makes s (digest s w) (server_deed l event entry)) (sym (known_life n s w a.1.0 a.0 a.1.1)) (server_makes n s w event entry a.0 a.1 i.makes.1 i.replies.1),
)
all_make n s (Then w (AtClient event entry)) a i = (all_make n s w a.0 (numbered_before s w _ i), client_makes s (digest s w) (client_history s w) event entry)
all_make n s (Then w (ServerStarts start size)) a i = (all_make n s w a.0 (numbered_before s w _ i), tt)
all_make n s (Then w (ClientStarts loaded ms)) a i = (all_make n s w a.0 (numbered_before s w _ i), tt)
all_make n s (Then w (Draws of)) a i = (all_make n s w a.0 (numbered_before s w _ i), tt)
all_make n s (Then w (Reserves of)) a i = (all_make n s w a.0 (numbered_before s w _ i), tt)

-- ---- what was heard was sealed

more_answers : (d : Deed) (ds : List Deed) (x : Response) → Has x (answers ds) → Has x (answers (d ∷ ds))
more_answers (Challenges n echo issued own m) ds x h = inr h
more_answers (Replies t own m) ds x h = inr h
more_answers (Notifies t own m) ds x h = inr h
more_answers d ds x h = h

heard_sealed : (s : SecurityContext) (w : World) (x : Response) → AtEachHeard (IsForThatRequest s) w → Has x (heard w) → Has x (answers (digest s w))
heard_sealed s Begin x a h = absurd h
heard_sealed s (Then w event) x a h = elim (heard_now s w (heard_in event) x a.1 h) [
  | inl k ↦ more_answers (deed s w event) (digest s w) x (subst (λ rs. Has x rs) (answered_is s w) k)
  | inr k ↦ more_answers (deed s w event) (digest s w) x (heard_sealed s w x a.0 k)
]

-- ---- what a request carries was heard

abbrev WasHeard : World → List ℕ → Type 0
WasHeard w value = (x : Response) × Has x (heard w) × (carried x.message ≡ Some value)

heard_still : (w : World) (event : Event) (value : List ℕ) → WasHeard w value → WasHeard (Then w event) value
heard_still w event value (x, h, e) = (x, more_heard (heard_in event) (heard w) x h, e)

asked_now : (s : SecurityContext) (w : World) (o : Option client.History) (p : Parts) (r : Request)
    → Has r (cons_option (option_map (λ (h : client.History). record { number = client.next h; message = inside p }) o) (sent s w)) → (r.message ≡ inside p) ⊎ Has r (sent s w)
asked_now s w None p r h = inr h
asked_now s w (Some g) p r (inl e) = inl (ap (λ (x : Request). x.message) e)
asked_now s w (Some g) p r (inr h) = inr h

carries_heard : (s : SecurityContext) (w : World) (r : Request) (value : List ℕ) → AtEach EchoesHeard w → Has r (sent s w) → carried r.message ≡ Some value → WasHeard w value
carries_heard s Begin r value a h e = absurd h
carries_heard s (Then w (AtClient (client.Request now p room) (client.Sent bytes))) r value a h e = elim (asked_now s w (client_history s w) p r h) [
  | inl is ↦ a.1 value (sym (ap carried is) ∙ e)
  | inr k ↦ carries_heard s w r value a.0 k e
]
carries_heard s (Then w event) r value a h e = heard_still w event value (carries_heard s w r value a.0 h e)

-- ---- the value of the next number is new

number_unseen : (n : ℕ) (s : SecurityContext) (w : World) → AtEach (Answers n s) w → AtEach (BeginsAbove s) w → EchoesAreNumbers s w → AtEachHeard (IsForThatRequest s) w
    → next_own (life_in s (digest s w)) ≤ 2 ^ 40 → IsUnseen s w (echo_of (next_own (life_in s (digest s w))))
number_unseen n s w a b i that most r q e =
    let next : ℕ = next_own (life_in s (digest s w)) in
    let x = carries_heard s w r (echo_of next) i.echoes q e in
    let p = answer_numbered s (digest s w) x.0 (echo_of next) (all_make n s w a i) (heard_sealed s w x.0 that x.1) x.2 in
    let less : p.0 < next = (owns_below n s w a b).below p.0 p.2 in
    let is : p.0 ≡ next = one_value p.0 next (omega (arith, less, most)) most (sym p.1) in
    omega (arith, less, is)

-- the premises of two ends, one event earlier
pub earlier : (n : ℕ) (s : SecurityContext) (w : World) (event : Event) → IsLawfulByNumbers n s (Then w event) → IsLawfulByNumbers n s w
earlier n s w event i =
    record { usable = i.usable; answers = i.answers.0; sealed = i.sealed.0; numbered = numbered_before s w event i.numbered; above = i.above.0; fresh = i.fresh.0 }

lawful : (n : ℕ) (s : SecurityContext) (w : World) → IsLawfulByNumbers n s w → AtEach (EchoIsNew s) w → IsLawful n s w
lawful n s w i unseen = record { usable = i.usable; answers = i.answers; sealed = i.sealed; unseen = unseen; above = i.above; fresh = i.fresh }

-- a new value that a challenge gives is that of its number
echo_is_new : (n : ℕ) (s : SecurityContext) (w : World) (event : Event) → IsLawfulByNumbers n s (Then w event) → AtEachHeard (IsForThatRequest s) w → EchoIsNew s w event
echo_is_new n s w (AtServer (server.Datagram now echo mid d) (server.Took (server.Challenge i k given issued) reply)) y that = λ h of f life_is none r q e.
    let event : server.Event = server.Datagram now echo mid d in
    let entry : server.Entry = server.Took (server.Challenge i k given issued) reply in
    let l : Life = life_in s (digest s w) in
    let stood : Stands s (digest s w) y.answers.1.0 = stands n s w y.answers.1.0 y.answers.0 y.answers.1.1 in
    let there : Stands s (digest s w) h = stands n s w h y.answers.0 f in
    let made : given ≡ echo_of (next_own l) = y.numbered.makes.1 h of f life_is none ∙ ap (λ z. echo_of (next_own z)) (same_life s (digest s w) h i of there life_is) in
    let less : next_own l < 2 ^ 40 = own_low s (digest s w) y.answers.1.0 event entry (next_own l) stood.present stood.only y.answers.1.2 refl in
    number_unseen n s w y.answers.0 y.above.0 (numbered_before s w (AtServer event entry) y.numbered) that (omega (arith, less)) r q (e ∙ ap (λ z. Some z) made)
echo_is_new n s w event y that = tt

all_new : TwoEnds → (n : ℕ) (s : SecurityContext) (w : World) → IsLawfulByNumbers n s w → AtEach (EchoIsNew s) w
all_new two n s Begin i = tt
all_new two n s (Then w event) i =
    let j = earlier n s w event i in
    let unseen : AtEach (EchoIsNew s) w = all_new two n s w j in
    (unseen, echo_is_new n s w event i (two n s w (lawful n s w j unseen)).that_request)

pub echo_by_numbers : TwoEnds → EchoByNumbers
echo_by_numbers two n s w i = let x = lawful n s w i (all_new two n s w i) in (x, two n s w x)

pub number_is_unseen : TwoEnds → NumberIsUnseen
number_is_unseen two n s w h next i e f most =
    let is : next ≡ next_own (life_in s (digest s w)) = sym (some_is (sym (ap (λ l. option_map next_own l) (stands n s w h i.answers e).present) ∙ f)) in
    subst (λ k. IsUnseen s w (echo_of k)) (sym is)
    (number_unseen n s w i.answers i.above i.numbered (echo_by_numbers two n s w i).1.that_request (subst (λ k. k ≤ 2 ^ 40) is most))

-- ---- a server that counts

drawn_history : (s : SecurityContext) (w b : World) → IsDrawn Server w b → server_history s b ≡ server_history s w
drawn_history s w b (inl e) = ap (server_history s) e
drawn_history s w b (inr (inl e)) = ap (server_history s) e
drawn_history s w b (inr (inr e)) = ap (server_history s) e

drawn_numbered : (s : SecurityContext) (w b : World) → IsDrawn Server w b → EchoesAreNumbers s w → EchoesAreNumbers s b
drawn_numbered s w b (inl e) i = subst (EchoesAreNumbers s) (sym e) i
drawn_numbered s w b (inr (inl e)) i = subst (EchoesAreNumbers s) (sym e) (record { makes = (i.makes, tt); echoes = (i.echoes, tt); replies = (i.replies, tt) })
drawn_numbered s w b (inr (inr e)) i = subst (EchoesAreNumbers s) (sym e) (record { makes = (i.makes, tt); echoes = (i.echoes, tt); replies = (i.replies, tt) })

-- it gives the value of its own number where it gives a new one
pub counted_makes : (s : SecurityContext) (b : World) (h : server.History) (now next mid : ℕ) (d : List ℕ) (entry : server.Entry) → OnlyFirst h → server_history s b ≡ Some h
    → option_map next_own (server.life h 0) ≡ Some next → ServerAnswer h (server.Datagram now (echo_of next) mid d) entry
    → MakesEcho s b (AtServer (server.Datagram now (echo_of next) mid d) entry)
counted_makes s b h now next mid d (server.Took (server.Challenge i k given issued) reply) only e f answer = λ g of g_is life_is none.
    let x = answer.0 in
    let clock : ℕ = max (server.clock h) now in
    let is_h : g ≡ h = some_is (sym g_is ∙ e) in
    let life_i : server.life h i ≡ Some of = subst (λ y. server.life y i ≡ Some of) is_h life_is in
    let same : x.2 ≡ of = some_is (sym x.3.life_is ∙ ap (λ j. server.life h j) (sym x.4.3) ∙ life_i) in
    let number : next_own of ≡ next = some_is (sym (ap (λ l. option_map next_own l) life_i) ∙ ap (λ j. option_map next_own (server.life h j)) (only i of life_i) ∙ f) in
    let none_in_force : in_force of clock ≡ None = subst (λ y. in_force of (max (server.clock y) now) ≡ None) is_h none in
    let made : (given, issued) ≡ (echo_of next, clock) = x.4.2 ∙ ap (λ z. challenge_given z clock (echo_of next)) same ∙ ap (λ o. unwrap_or o (echo_of next, clock)) none_in_force in
    ap (λ (z : List ℕ × ℕ). z.0) made ∙ sym (ap echo_of number)
counted_makes s b h now next mid d entry only e f answer = tt

pub counted_goes_on : CountedGoesOn
counted_goes_on n s w v h now next mid d entry old new a i e f answer goes =
    let before : EchoesAreNumbers s goes.between = drawn_numbered s w goes.between goes.drawn i in
    subst (EchoesAreNumbers s) (sym goes.ends) (record {
      makes = (before.makes, counted_makes s goes.between h now next mid d entry (stands n s w h a e).only (drawn_history s w goes.between goes.drawn ∙ e) f answer);
      echoes = (before.echoes, tt);
      replies = (before.replies, tt);
    })
