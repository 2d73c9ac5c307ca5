-- The premises on two ends can be met with Observe.
use Rattle.std.proofs.Common.{◌≡◌, ℕ, ◌∙◌, sym, ap, subst, refl, arith, Bool, true, false, Option, Some, List, [], inl, inr}
use Rattle.std.specs.Prelude.{All, max}
use Rattle.std.proofs.lemmas.List.Elements.{All-cons, All-contains, All-filter, All-map, All-nil, All-weaker}
use Rattle.osc_coap.specs.Datagram.{Parts}
use Rattle.osc_coap.specs.Inner.{InnerParts}
use Rattle.osc_context.specs.SecurityContext.{SecurityContext}
use Rattle.osc_context.specs.Views.{number_of}
use Rattle.osc_protect.specs.CipherLaws.{response_seal}
use Rattle.osc_protect.specs.Protection.{Protects, as_notified, responses_to}
use Rattle.osc_protect.specs.Sealed.{SealsNotification, SealsRequest, SealsResponse, inside}
use Rattle.osc_life.specs.declared.start.Start.TheVariants as starts
use Rattle.osc_client.specs.ClientHistory as client
use Rattle.osc_life.specs.Life.{Answered as AnsweredMark, Delivered, Life, born, marked, next_own}
use Rattle.osc_observe.specs.Observing.{place_of}
use Rattle.osc_observe.specs.Received.{Received}
use Rattle.osc_life.specs.Replies.{as_reply}
use Rattle.osc_life.specs.LifeAnswer.{as_notification as with_token}
use Rattle.osc_life.specs.ServerHistory as server
use Rattle.osc_kept.specs.Examples.{Answered, ObservationCanBeMet, asks, delivers_registration, hears, hears_old, notifies, notifies_thrice, observing, start_client, start_server}
use Rattle.osc_kept.specs.Premises.{Answers, NobodyForgesResponses, SealedByServer}
use Rattle.osc_kept.specs.World.{World, Begin, Then, Server, Draws, AtServer, Has, answered, client_history, server_history}
use Rattle.osc_laws.proofs.Inside.{as_notification}
use Rattle.osc_kept.proofs.Examples.{OpeningLaws, answered_opens, asked_seals, sent_opens, zero_small}
use Rattle.osc_kept.proofs.Beginning.{is_kept}
use Rattle.osc_kept.proofs.Lives.{some_is}
use Rattle.osc_kept.proofs.Owned.{same_number}

-- ---- what a kept end sealed as a notification is no forgery

-- the Partial IV that a notification to request k has, whether a registration or another request waits for it
pub notified_own : OpeningLaws → (s : SecurityContext) (a : List ℕ) (k : ℕ) (own : Option ℕ) (q : Parts) (b : Bool) (other : Option ℕ) (m : InnerParts) → SealsNotification s k own q a
    → Protects (responses_to s b k) other m a → other ≡ own
notified_own laws s a k own q true other m seals p = ((laws.opens.notification s k own q a seals).nothing_else other m p).0
notified_own laws s a k own q false other m seals p = ((laws.opens.notification s k own q a seals).nothing_else other m (as_notification s k other m a p)).0

notified_under : OpeningLaws → (s : SecurityContext) (w : World) (a : List ℕ) (k : ℕ) (own : Option ℕ) (q : Parts) (b : Bool) (number : ℕ) (other : Option ℕ) (m : InnerParts)
    → SealsNotification s k own q a → Has (record { number = k; own = own; message = inside (as_notified q) }) (answered s w) → number ≡ k
    → (p : Protects (responses_to s b number) other m a) → SealedByServer s w (response_seal s number other) p.outer.payload
notified_under laws s w a k own q b number other m seals has is p =
    let alone = laws.opens.notification s k own q a seals in
    let same = notified_own laws s a k own q b other m seals (subst (λ x. Protects (responses_to s b x) other m a) is p) in
    record {
      registers = true;
      response = record { number = k; own = own; message = inside (as_notified q) };
      was_answered = has;
      input_is = ap (response_seal s k) (sym same) ∙ ap (λ x. response_seal s x other) (sym is);
      bytes = a;
      protects = alone.opens;
      text_is = ap (λ (x : Parts). x.payload) (laws.one alone.opens.outer p.outer a alone.opens.datagram p.datagram);
    }

abbrev pub AllAsk : ℕ → client.History → Type 0
AllAsk k h = All (λ (r : client.Asked). r.number ≡ k) (client.asked h)

waiting : (h : client.History) (k moment : ℕ) → AllAsk k h → All (λ (r : client.Asked). r.number ≡ k) (client.pending_at h moment)
waiting h k moment all = All-filter _ (λ (r : client.Asked). r.number ≡ k) (client.asked h) all

-- after a notification the same requests are asked, of those that were alive
pub heard_asks : (h : client.History) (now k number : ℕ) (d : List ℕ) (v : Received) → AllAsk k h → AllAsk k (client.Then h (client.Datagram now d) (client.Took (client.Notified v number)))
heard_asks h now k number d v all =
    let P = λ (r : client.Asked). r.number ≡ k in
    let xs = client.alive (max (client.clock h) now) (client.life_ms h) (client.asked h) in
    All-map P (client.after_response v.token (place_of v.number)) xs
    (All-weaker P (λ (r : client.Asked). P (client.after_response v.token (place_of v.number) r)) (λ r f. same_number v.token (place_of v.number) r ∙ f) xs (All-filter _ P (client.asked h) all))

-- where all requests that wait have one number
pub notified_all : OpeningLaws → (s : SecurityContext) (w : World) (h : client.History) (k : ℕ) (a : List ℕ) (own : Option ℕ) (q : Parts) → client_history s w ≡ Some h → AllAsk k h
    → SealsNotification s k own q a → Has (record { number = k; own = own; message = inside (as_notified q) }) (answered s w)
    → (g : client.History) → client_history s w ≡ Some g → NobodyForgesResponses s w (client.pending_at g (max (client.clock g) 0)) a
notified_all laws s w h k a own q e all seals has g f =
    subst (λ x. NobodyForgesResponses s w (client.pending_at x (max (client.clock x) 0)) a) (some_is (sym e ∙ f))
    (λ r other m among p. notified_under laws s w a k own q (client.observes r.wait) r.number other m seals has
    (All-contains (λ (x : client.Asked). x.number ≡ k) (client.pending_at h (max (client.clock h) 0)) r (waiting h k (max (client.clock h) 0) all) among) p)

answered_all : OpeningLaws → (s : SecurityContext) (w : World) (h : client.History) (k : ℕ) (a : List ℕ) (own : Option ℕ) (q : Parts) → client_history s w ≡ Some h → AllAsk k h
    → SealsResponse s k own q a → Has (record { number = k; own = own; message = inside q }) (answered s w)
    → (g : client.History) → client_history s w ≡ Some g → NobodyForgesResponses s w (client.pending_at g (max (client.clock g) 0)) a
answered_all laws s w h k a own q e all seals has g f =
    subst (λ x. NobodyForgesResponses s w (client.pending_at x (max (client.clock x) 0)) a) (some_is (sym e ∙ f))
    (answered_opens laws s w a k own q (client.pending_at h (max (client.clock h) 0)) seals has (waiting h k (max (client.clock h) 0) all))

-- ---- what the server sealed by its tickets

pub notified_seals : (n : ℕ) (s : SecurityContext) (w : World) (t : server.TicketValues) (y : Answered) (h : server.History) (l : Life) → server_history s w ≡ Some h
    → server.life h t.context ≡ Some l → l.context ≡ s → Answers n s w (AtServer (server.Notify t y.plain y.room) (server.Replied y.bytes))
    → SealsNotification s t.number (Some (next_own l)) (with_token t.token y.plain) y.bytes
notified_seals n s w t y h l e there c x =
    let same : x.0 ≡ h = some_is (sym x.1 ∙ e) in
    let of : x.2.1.0 ≡ l = some_is (sym x.2.1.1.0 ∙ ap (λ z. server.life z t.context) same ∙ there) in
    subst (λ z. SealsNotification z t.number (Some (next_own l)) (with_token t.token y.plain) y.bytes) (ap (λ (z : Life). z.context) of ∙ c)
    (subst (λ z. SealsNotification x.2.1.0.context t.number (Some (next_own z)) (with_token t.token y.plain) y.bytes) of x.2.1.2.2)

-- a reply with a Partial IV of its own
replied_own_seals : (n : ℕ) (s : SecurityContext) (w : World) (t : server.TicketValues) (y : Answered) (h : server.History) (l : Life) → server_history s w ≡ Some h
    → server.life h t.context ≡ Some l → l.context ≡ s → Answers n s w (AtServer (server.Reply t true 0 y.plain y.room) (server.Replied y.bytes))
    → SealsResponse s t.number (Some (next_own l)) (as_reply t.kind t.message_id t.token 0 y.plain) y.bytes
replied_own_seals n s w t y h l e there c x =
    let same : x.0 ≡ h = some_is (sym x.1 ∙ e) in
    let of : x.2.0 ≡ l = some_is (sym x.2.1.0 ∙ ap (λ z. server.life z t.context) same ∙ there) in
    subst (λ z. SealsResponse z t.number (Some (next_own l)) (as_reply t.kind t.message_id t.token 0 y.plain) y.bytes) (ap (λ (z : Life). z.context) of ∙ c)
    (subst (λ z. SealsResponse x.2.0.context t.number (Some (next_own z)) (as_reply t.kind t.message_id t.token 0 y.plain) y.bytes) of x.2.2.1)

-- ---- the premises can be met

used : {a b : ℕ} → a ≡ b → Some a ≡ Some b
used e = ap (λ (i : ℕ). Some i) e

pub observation_met : OpeningLaws → ObservationCanBeMet
observation_met laws n s x q r v u echo late lost third last usable answers =
    let t : server.TicketValues = observing 0 0 r in
    let z : ℕ = number_of x.zero_number in
    let is_zero : number_of x.zero_number ≡ 0 = x.is_zero in
    let w2 : World = start_client x 0 Begin in
    let w6 : World = delivers_registration 0 0 r echo q.bytes (start_server x (asks q w2)) in
    let w8 : World = Then (notifies t late w6) (Draws Server) in
    let w10 : World = Then (notifies t lost w8) (Draws Server) in
    let w11 : World = notifies_thrice x q r echo late lost third in
    let w14 : World = Then (hears_old late.bytes (hears 0 v third.bytes w11)) (Draws Server) in
    let asked1 : client.History = client.Then (client.New s 0 x.life_ms) (client.Request 0 q.plain q.room) (client.Sent q.bytes) in
    let asked2 : client.History = client.Then asked1 (client.Datagram 0 third.bytes) (client.Took (client.Notified v 0)) in
    let asked3 : client.History = client.Then asked2 (client.Datagram 0 late.bytes) (client.Took client.Old) in
    let served1 : server.History = server.Then (server.Then server.Begin (server.Add s (starts.Fresh x.zero_number) x.size 1) (server.Added 0)) (server.Datagram 0 echo 0 q.bytes)
    (server.Took (server.Deliver r t) []) in
    let served2 : server.History = server.Then served1 (server.Notify t late.plain late.room) (server.Replied late.bytes) in
    let served3 : server.History = server.Then served2 (server.Notify t lost.plain lost.room) (server.Replied lost.bytes) in
    let served4 : server.History = server.Then served3 (server.Notify t third.plain third.room) (server.Replied third.bytes) in
    let life1 : Life = marked (Some (Delivered 0)) (born s (starts.Fresh x.zero_number) x.size) in
    let life2 : Life = marked (Some AnsweredMark) life1 in
    let life3 : Life = marked (Some AnsweredMark) life2 in
    let life4 : Life = marked (Some AnsweredMark) life3 in
    let asks1 : AllAsk 0 asked1 = All-cons (λ (y : client.Asked). y.number ≡ 0) _ [] refl (All-nil (λ (y : client.Asked). y.number ≡ 0)) in
    let asks2 : AllAsk 0 asked2 = heard_asks asked1 0 0 0 third.bytes v asks1 in
    let seals : SealsRequest s 0 q.plain q.bytes = asked_seals n s w2 q (client.New s 0 x.life_ms) 0 refl refl refl answers.0.0.0.0.0.0.0.0.0.0.0.0.0.1 in
    let first = notified_seals n s w6 t late served1 life1 refl refl refl answers.0.0.0.0.0.0.0.0.0.1 in
    let heard = notified_seals n s w10 t third served3 life3 refl refl refl answers.0.0.0.0.0.1 in
    let reply = replied_own_seals n s w14 t last served4 life4 refl refl refl answers.0.1 in
    is_kept n s _ usable answers (
      (
        (
          (
            (
              ((((((((((((tt, tt), tt), tt), tt), tt), sent_opens laws s _ q.bytes 0 q.plain seals (inl refl)), tt), tt), tt), tt), tt)),
              notified_all laws s _ asked1 0 third.bytes (Some (next_own life3)) _ refl asks1 heard (inl refl),
            ),
            notified_all laws s _ asked2 0 late.bytes (Some (next_own life1)) _ refl asks2 first (inr (inr (inl refl))),
          ),
          tt,
        ),
        tt,
      ),
      answered_all laws s _ asked3 0 last.bytes (Some (next_own life4)) _ refl asks2 reply (inl refl),
    )
    ((((((((((((((((tt, tt), tt), tt), tt), tt), tt), tt), tt), tt), tt), tt), tt), tt), tt), tt), tt) (
      (
        (
          (
            (
              (
                (
                  (
                    (
                      (
                        (
                          (
                            (
                              (((tt, record { client = (omega arith, omega arith); server = tt }), record { client = (refl, refl, omega arith); server = tt }), record { client = refl; server = tt }),
                              record { client = tt; server = (omega arith, zero_small x) },
                            ),
                            record { client = tt; server = (refl, refl, zero_small x) },
                          ),
                          record { client = tt; server = tt },
                        ),
                        record { client = tt; server = used (omega arith) },
                      ),
                      record { client = tt; server = (refl, omega (arith, is_zero)) },
                    ),
                    record { client = tt; server = used (omega arith) },
                  ),
                  record { client = tt; server = (refl, omega (arith, is_zero)) },
                ),
                record { client = tt; server = used (omega arith) },
              ),
              record { client = tt; server = tt },
            ),
            record { client = tt; server = tt },
          ),
          record { client = tt; server = (refl, omega (arith, is_zero)) },
        ),
        record { client = tt; server = used (omega arith) },
      ),
      record { client = tt; server = tt },
    )
    ((((((((((((((((tt, tt), tt), tt), refl), tt), tt), tt), tt), tt), tt), tt), tt), tt), tt), tt), tt)
