-- The premises on two ends can be met, and none can be left out.
use Rattle.std.proofs.Common.{◌≡◌, ℕ, ◌<◌, ◌≤◌, ◌^◌, ◌∙◌, sym, ap, subst, refl, arith, Bool, true, false, Option, Some, None, List, [], ◌∷◌, inl, inr}
use Rattle.std.specs.Prelude.{All, max}
use Rattle.std.proofs.lemmas.List.Elements.{All-cons, All-contains, All-filter, All-nil}
use Rattle.osc_coap.specs.Datagram.{Parts}
use Rattle.osc_coap.specs.Inner.{InnerParts}
use Rattle.osc_coap.specs.Interpreted.{interpreted}
use Rattle.osc_coap.specs.OptionNumbers as options
use Rattle.osc_coap.specs.Laws.{DatagramIsOneMessage}
use Rattle.osc_context.specs.Reserving.{next_limit}
use Rattle.osc_context.specs.SecurityContext.{SecurityContext}
use Rattle.osc_context.specs.Views.{number_of}
use Rattle.osc_protect.specs.CipherLaws.{request_seal, response_seal}
use Rattle.osc_protect.specs.Laws.{OneNotification, SealedOpens}
use Rattle.osc_protect.specs.Protection.{Protects, responses_to}
use Rattle.osc_protect.specs.Sealed.{SealsRequest, SealsResponse, inside}
use Rattle.osc_life.specs.declared.start.Start.TheVariants as starts
use Rattle.osc_client.specs.ClientHistory as client
use Rattle.osc_life.specs.Life.{Life, Delivered, born, marked, next_own, renewed}
use Rattle.osc_life.specs.Replies.{as_reply, challenge_message}
use Rattle.osc_life.specs.ServerHistory as server
use Rattle.osc_kept.specs.Examples.{Asked, CarriesValue, Ends, ForgeryBreaks, NumberOutOfOrderBreaks, PremisesCanBeMet, RepeatedValueBreaks, asks, challenges, delivers, exchange, restarts, start_client, start_server, ticket_of}
use Rattle.osc_kept.specs.Premises.{Answers, NobodyForgesRequests, NobodyForgesResponses, SealedByServer}
use Rattle.osc_kept.specs.World.{World, Begin, Then, Client, Server, Draws, Reserves, AtClient, AtServer, Has, Request, answered, client_history, sent, server_history}
use Rattle.osc_laws.proofs.Inside.{as_notification}
use Rattle.osc_kept.proofs.Beginning.{is_kept}
use Rattle.osc_kept.proofs.Lives.{some_is}

-- what is used of the layers below
pub record OpeningLaws : Type 0 where
  pub opens : SealedOpens
  pub one : DatagramIsOneMessage
  pub notification : OneNotification

-- ---- what a kept end sealed is no forgery

pub sent_opens : OpeningLaws → (s : SecurityContext) (w : World) (d : List ℕ) (k : ℕ) (q : Parts) → SealsRequest s k q d → Has (record { number = k; message = inside q }) (sent s w)
    → NobodyForgesRequests s w d
sent_opens laws s w d k q seals has n m p =
    let alone = laws.opens.request s k q d seals in
    let same = alone.nothing_else n m p in
    record {
      request = record { number = k; message = inside q };
      was_sent = has;
      input_is = ap (request_seal s) (sym same.0);
      bytes = d;
      protects = alone.opens;
      text_is = ap (λ (x : Parts). x.payload) (laws.one alone.opens.outer p.outer d alone.opens.datagram p.datagram);
    }

-- a Partial IV of its own that a response to request k has, whether a registration or another request waits for it
same_own : OpeningLaws → (s : SecurityContext) (a : List ℕ) (k : ℕ) (own : Option ℕ) (q : Parts) (b : Bool) (other : Option ℕ) (m : InnerParts) → SealsResponse s k own q a
    → Protects (responses_to s b k) other m a → other ≡ own
same_own laws s a k own q false other m seals p = ((laws.opens.response s k own q a seals).nothing_else other m p).0
same_own laws s a k own q true other m seals p =
    (laws.notification s k).number a other own m (inside q) p (as_notification s k own (inside q) a (laws.opens.response s k own q a seals).opens)

answered_under : OpeningLaws → (s : SecurityContext) (w : World) (a : List ℕ) (k : ℕ) (own : Option ℕ) (q : Parts) (b : Bool) (number : ℕ) (other : Option ℕ) (m : InnerParts) → SealsResponse s k own q a
    → Has (record { number = k; own = own; message = inside q }) (answered s w) → number ≡ k → (p : Protects (responses_to s b number) other m a)
    → SealedByServer s w (response_seal s number other) p.outer.payload
answered_under laws s w a k own q b number other m seals has is p =
    let alone = laws.opens.response s k own q a seals in
    let same = same_own laws s a k own q b other m seals (subst (λ x. Protects (responses_to s b x) other m a) is p) in
    record {
      registers = false;
      response = record { number = k; own = own; message = inside q };
      was_answered = has;
      input_is = ap (response_seal s k) (sym same) ∙ ap (λ x. response_seal s x other) (sym is);
      bytes = a;
      protects = alone.opens;
      text_is = ap (λ (x : Parts). x.payload) (laws.one alone.opens.outer p.outer a alone.opens.datagram p.datagram);
    }

pub answered_opens : OpeningLaws → (s : SecurityContext) (w : World) (a : List ℕ) (k : ℕ) (own : Option ℕ) (q : Parts) (pending : List client.Asked) → SealsResponse s k own q a
    → Has (record { number = k; own = own; message = inside q }) (answered s w) → All (λ (r : client.Asked). r.number ≡ k) pending → NobodyForgesResponses s w pending a
answered_opens laws s w a k own q pending seals has all r other m among p =
    answered_under laws s w a k own q (client.observes r.wait) r.number other m seals has (All-contains (λ (x : client.Asked). x.number ≡ k) pending r all among) p

-- where one request alone waits
answers_one : OpeningLaws → (s : SecurityContext) (w : World) (h : client.History) (only : client.Asked) (a : List ℕ) (own : Option ℕ) (q : Parts) → client_history s w ≡ Some h → client.asked h ≡ only ∷ []
    → SealsResponse s only.number own q a → Has (record { number = only.number; own = own; message = inside q }) (answered s w)
    → (g : client.History) → client_history s w ≡ Some g → NobodyForgesResponses s w (client.pending_at g (max (client.clock g) 0)) a
answers_one laws s w h only a own q e one seals has g f =
    let P = λ (r : client.Asked). r.number ≡ only.number in
    let all : All P (client.asked h) = subst (All P) (sym one) (All-cons P only [] refl (All-nil P)) in
    let waits : All P (client.pending_at h (max (client.clock h) 0)) = All-filter _ P (client.asked h) all in
    subst (λ x. NobodyForgesResponses s w (client.pending_at x (max (client.clock x) 0)) a) (some_is (sym e ∙ f))
    (answered_opens laws s w a only.number own q (client.pending_at h (max (client.clock h) 0)) seals has waits)

-- ---- what both ends sealed

pub asked_seals : (n : ℕ) (s : SecurityContext) (w : World) (q : Asked) (h : client.History) (k : ℕ) → client_history s w ≡ Some h → client.context h ≡ s → client.next h ≡ k
    → Answers n s w (AtClient (client.Request 0 q.plain q.room) (client.Sent q.bytes)) → SealsRequest s k q.plain q.bytes
asked_seals n s w q h k e c f a =
    let same : a.0 ≡ h = some_is (sym a.1 ∙ e) in
    subst (λ x. SealsRequest s x q.plain q.bytes) f
    (subst (λ x. SealsRequest x (client.next h) q.plain q.bytes) c
    (subst (λ x. SealsRequest (client.context x) (client.next x) q.plain q.bytes) same a.2.1))

-- a reply without a Partial IV of its own
replied_seals : (n : ℕ) (s : SecurityContext) (w : World) (t : server.TicketValues) (p : Parts) (room : ℕ) (a : List ℕ) (h : server.History) (l : Life) → server_history s w ≡ Some h
    → server.life h t.context ≡ Some l → l.context ≡ s → Answers n s w (AtServer (server.Reply t false 0 p room) (server.Replied a))
    → SealsResponse s t.number None (as_reply t.kind t.message_id t.token 0 p) a
replied_seals n s w t p room a h l e there c x =
    let same : x.0 ≡ h = some_is (sym x.1 ∙ e) in
    let of : x.2.0 ≡ l = some_is (sym x.2.1.0 ∙ ap (λ y. server.life y t.context) same ∙ there) in
    subst (λ y. SealsResponse y t.number None (as_reply t.kind t.message_id t.token 0 p) a) (ap (λ (y : Life). y.context) of ∙ c) x.2.2.1

-- a challenge
pub record SealsChallenge (s : SecurityContext) (k own : ℕ) (echo reply : List ℕ) : Type 0 where
  pub head : Parts
  pub seals : SealsResponse s k (Some own) (as_reply head.kind head.message_id head.token 0 (challenge_message echo)) reply

challenged_seals : (n : ℕ) (s : SecurityContext) (w : World) (k own : ℕ) (echo d reply : List ℕ) (h : server.History) (l : Life) → server_history s w ≡ Some h
    → server.life h 0 ≡ Some l → l.context ≡ s → next_own l ≡ own → Answers n s w (AtServer (server.Datagram 0 echo 0 d) (server.Took (server.Challenge 0 k echo 0) reply))
    → SealsChallenge s k own echo reply
challenged_seals n s w k own echo d reply h l e there c f x =
    let same : x.0 ≡ h = some_is (sym x.1 ∙ e) in
    let (life_in, is, says) = x.2.1 in
    let of : life_in ≡ l = some_is (sym is ∙ ap (λ z. server.life z 0) same ∙ there) in
    let reply_is : SecurityContext → ℕ → Type 0 = λ z o. SealsResponse z k (Some o) (as_reply says.0.kind says.0.message_id says.0.token 0 (challenge_message echo)) reply in
    record {
      head = says.0;
      seals =
          subst (λ z. reply_is z own) (ap (λ (z : Life). z.context) of ∙ c)
          (subst (λ o. reply_is life_in.context o) (ap next_own of ∙ f) says.2);
    }

-- ---- none can be left out

pub zero_small : (x : Ends) → number_of x.zero_number < 2 ^ 40
zero_small x = let e : number_of x.zero_number ≡ 0 = x.is_zero in omega (arith, e)

pub forgery_breaks : ForgeryBreaks
forgery_breaks n s x r echo d a = (
  (((tt, tt), tt), tt),
  (((tt, record { client = tt; server = (omega arith, zero_small x) }), record { client = tt; server = (refl, refl, zero_small x) }), record { client = tt; server = tt }),
  (((tt, refl), tt), tt),
  λ claims. claims.1.0,
)

-- the numbers of a server that starts at 0, and of its restart at 64
pub floor_of : (x : Ends) → next_limit (number_of x.zero_number) ≤ 64
floor_of x = let e : number_of x.zero_number ≡ 0 = x.is_zero in omega (arith, e)

pub repeated_value_breaks : OpeningLaws → RepeatedValueBreaks
repeated_value_breaks laws n s x q r k echo c a =
    let begin : World = start_client x 0 Begin in
    let seals : SealsRequest s 0 q.plain q.bytes = asked_seals n s begin q (client.New s 0 x.life_ms) 0 refl refl refl a.0.0.0.0.0.0.0.1 in
    let opens : (w : World) → Has (record { number = 0; message = inside q.plain }) (sent s w) → NobodyForgesRequests s w q.bytes = λ w has. sent_opens laws s w q.bytes 0 q.plain seals has in (
      ((((((((((tt, tt), tt), tt), tt), tt), opens _ (inl refl)), tt), tt), opens _ (inl refl)), opens _ (inl refl)),
      (
        (
          (
            (
              (
                (
                  (
                    (((tt, record { client = (omega arith, omega arith); server = tt }), record { client = (refl, refl, omega arith); server = tt }), record { client = refl; server = tt }),
                    record { client = tt; server = (omega arith, zero_small x) },
                  ),
                  record { client = tt; server = (refl, refl, zero_small x) },
                ),
                record { client = tt; server = tt },
              ),
              record { client = tt; server = (floor_of x, omega arith) },
            ),
            record { client = tt; server = (refl, refl, omega arith) },
          ),
          record { client = tt; server = refl },
        ),
        record { client = tt; server = tt },
      ),
      ((((((((((tt, tt), tt), tt), refl), tt), tt), tt), tt), tt), tt),
      λ claims. claims.1.1 (inl refl),
    )

-- none of these requests carries the value
pub none_carries : (q : Asked) (k : ℕ) (echo : List ℕ) (r : Request) → (CarriesValue q echo → ⊥) → r ≡ record { number = k; message = inside q.plain } → interpreted options.echo r.message.options ≡ Some echo → ⊥
none_carries q k echo r f e carries = f (subst (λ (y : Request). interpreted options.echo y.message.options ≡ Some echo) e carries)

pub number_out_of_order_breaks : OpeningLaws → NumberOutOfOrderBreaks
number_out_of_order_breaks laws n s x q later r k m echo c free a =
    let begin : World = start_client x 1 Begin in
    let first : SealsRequest s 1 q.plain q.bytes = asked_seals n s begin q (client.New s 1 x.life_ms) 1 refl refl refl a.0.0.0.0.0.0.0.0.0.0.0.1 in
    let w : World = start_client x 0 (challenges 1 echo q.bytes c (Then (Then (delivers 0 1 r echo q.bytes (start_server x (asks q begin))) (AtServer (server.Restart 0 64) server.Restarted)) (Reserves Server))) in
    let second : SealsRequest s 0 later.plain later.bytes = asked_seals n s w later (client.New s 0 x.life_ms) 0 refl refl refl a.0.0.1 in
    let opens : (w : World) → Has (record { number = 1; message = inside q.plain }) (sent s w) → NobodyForgesRequests s w q.bytes = λ w has. sent_opens laws s w q.bytes 1 q.plain first has in (
      ((((((((((((((tt, tt), tt), tt), tt), tt), opens _ (inl refl)), tt), tt), opens _ (inl refl)), tt), tt), tt), sent_opens laws s _ later.bytes 0 later.plain second (inl refl)), opens _ (inr (inl refl))),
      ((((((((((((((tt, tt), tt), tt), tt), tt), tt), tt), tt), λ h of f l none u has carries. elim has [ inl e ↦ none_carries q 1 echo u free e carries | inr rest ↦ rest ]), tt), tt), tt), tt), tt),
      ((((((((((((((tt, tt), tt), tt), refl), tt), tt), tt), tt), tt), tt), tt), tt), tt), tt),
      λ claims. claims.1.1 (inr (inl refl)),
    )

-- ---- the premises can be met

pub premises_met : OpeningLaws → PremisesCanBeMet
premises_met laws n s x first second again r k v u echo a c p room usable free still_free answers =
    let a15 = answers.0.0.0 in
    let a12 = a15.0.0.0 in
    let a7 = a12.0.0.0.0.0 in
    let a3 = a7.0.0.0.0 in
    let w2 : World = start_client x 0 Begin in
    let w6 : World = delivers 0 0 r echo first.bytes (start_server x (asks first w2)) in
    let w8 : World = exchange x first r echo p room a v in
    let w11 : World = Then (Then (Then w8 (AtServer (server.Restart 0 64) server.Restarted)) (AtClient (client.Restart 64) client.Restarted)) (Reserves Client) in
    let w13 : World = restarts second w8 in
    let w16 : World = Then (Then (challenges 64 echo second.bytes c w13) (AtClient (client.Datagram 0 c) (client.Took (client.Deliver u 64)))) (Draws Client) in
    let asked1 : client.History = client.Then (client.New s 0 x.life_ms) (client.Request 0 first.plain first.room) (client.Sent first.bytes) in
    let asked2 : client.History = client.Then (client.Then asked1 (client.Datagram 0 a) (client.Took (client.Deliver v 0))) (client.Restart 64) client.Restarted in
    let asked3 : client.History = client.Then asked2 (client.Request 0 second.plain second.room) (client.Sent second.bytes) in
    let asked4 : client.History = client.Then asked3 (client.Datagram 0 c) (client.Took (client.Deliver u 64)) in
    let served1 : server.History = server.Then (server.Then server.Begin (server.Add s (starts.Fresh x.zero_number) x.size 1) (server.Added 0)) (server.Datagram 0 echo 0 first.bytes)
    (server.Took (server.Deliver r (ticket_of 0 0 r)) []) in
    let served2 : server.History = server.Then (server.Then served1 (server.Reply (ticket_of 0 0 r) false 0 p room) (server.Replied a)) (server.Restart 0 64) server.Restarted in
    let life1 : Life = marked (Some (Delivered 0)) (born s (starts.Fresh x.zero_number) x.size) in
    let life2 : Life = renewed 64 life1 in
    let seals_first : SealsRequest s 0 first.plain first.bytes = asked_seals n s w2 first (client.New s 0 x.life_ms) 0 refl refl refl a3.1 in
    let seals_second : SealsRequest s 64 second.plain second.bytes = asked_seals n s w11 second asked2 64 refl refl refl a12.1 in
    let seals_again : SealsRequest s 65 again.plain again.bytes = asked_seals n s w16 again asked4 65 refl refl refl answers.0.1 in
    let reply = replied_seals n s w6 (ticket_of 0 0 r) p room a served1 life1 refl refl refl a7.1 in
    let challenge = challenged_seals n s w13 64 64 echo second.bytes c served2 life2 refl refl refl refl a15.0.1 in
    is_kept n s _ usable answers (
      (
        (
          (
            (
              (
                (
                  (
                    (
                      (
                        (
                          (((((((tt, tt), tt), tt), tt), tt), sent_opens laws s _ first.bytes 0 first.plain seals_first (inl refl)), tt),
                          answers_one laws s _ asked1 _ a None _ refl refl reply (inl refl),
                        ),
                        tt,
                      ),
                      tt,
                    ),
                    tt,
                  ),
                  tt,
                ),
                tt,
              ),
              sent_opens laws s _ second.bytes 64 second.plain seals_second (inl refl),
            ),
            answers_one laws s _ asked3 _ c (Some 64) _ refl refl challenge.seals (inl refl),
          ),
          tt,
        ),
        tt,
      ),
      sent_opens laws s _ again.bytes 65 again.plain seals_again (inl refl),
    ) (
      (
        (
          (
            (
              (((((((((((((tt, tt), tt), tt), tt), tt), tt), tt), tt), tt), tt), tt), tt), tt),
              λ h of f l none q has carries. elim has [
                | inl e ↦ none_carries second 64 echo q still_free e carries
                | inr rest ↦ elim rest [ inl e ↦ none_carries first 0 echo q free e carries | inr end ↦ end ]
              ],
            ),
            tt,
          ),
          tt,
        ),
        tt,
      ),
      tt,
    ) (
      (
        (
          (
            (
              (
                (
                  (
                    (
                      (
                        (
                          (
                            (
                              (
                                (
                                  (((tt, record { client = (omega arith, omega arith); server = tt }), record { client = (refl, refl, omega arith); server = tt }), record { client = refl; server = tt }),
                                  record { client = tt; server = (omega arith, zero_small x) },
                                ),
                                record { client = tt; server = (refl, refl, zero_small x) },
                              ),
                              record { client = tt; server = tt },
                            ),
                            record { client = tt; server = tt },
                          ),
                          record { client = tt; server = tt },
                        ),
                        record { client = tt; server = (floor_of x, omega arith) },
                      ),
                      record { client = (omega arith, omega arith); server = tt },
                    ),
                    record { client = (refl, refl, omega arith); server = tt },
                  ),
                  record { client = refl; server = tt },
                ),
                record { client = tt; server = (refl, refl, omega arith) },
              ),
              record { client = tt; server = refl },
            ),
            record { client = tt; server = tt },
          ),
          record { client = (refl, omega arith); server = tt },
        ),
        record { client = refl; server = tt },
      ),
      record { client = tt; server = tt },
    )
    ((((((((((((((((((tt, tt), tt), tt), refl), tt), tt), tt), tt), tt), tt), tt), tt), tt), tt), tt), tt), tt), tt)
