-- The premises on two devices can be met. a is that both ends of an exchange answer by their tables.
use Rattle.std.proofs.Common.{◌≡◌, ℕ, ◌∙◌, sym, ap, subst, refl, arith, true, Option, Some, List, [], ◌∷◌, inl, inr}
use Rattle.std.specs.Prelude.{All, max}
use Rattle.std.proofs.lemmas.List.Elements.{All-cons, All-filter, All-nil}
use Rattle.osc_coap.specs.Datagram.{Parts}
use Rattle.osc_context.specs.SecurityContext.{SecurityContext, IsUsable}
use Rattle.osc_context.specs.Views.{number_of}
use Rattle.osc_protect.specs.Sealed.{SealsRequest, SealsResponse, inside}
use Rattle.osc_life.specs.declared.start.Start.TheVariants as starts
use Rattle.osc_client.specs.ClientHistory as client
use Rattle.osc_life.specs.Life.{Answered as AnsweredMark, Delivered, Life, PassedOver, born, marked, next_own, renewed}
use Rattle.osc_life.specs.Replies.{as_reply, challenge_message}
use Rattle.osc_life.specs.ServerHistory as server
use Rattle.osc_kept.specs.Examples.{Answered, Asked, CarriesValue, Ends, ticket_of}
use Rattle.osc_kept.specs.Premises.{Answers, AtEach, EchoIsNew, NobodyForges, NobodyForgesResponses}
use Rattle.osc_kept.specs.World.{World, Then, Client, Server, Draws, AtServer, Has, answered, client_history, server_history}
use Rattle.osc_kept.proofs.Examples.{OpeningLaws, SealsChallenge, answered_opens, asked_seals, none_carries, sent_opens, zero_small}
use Rattle.osc_kept.proofs.Lives.{some_is}
use Rattle.osc_kept.proofs.Observation.{AllAsk}
use Rattle.osc_peers.specs.Examples.{Challenged, Dialogue, PeerPremisesCanBeMet, asking, both_ask, both_restart, both_start, challenging, client_passes, delivering, far_asks, hearing, near_asks, server_passes}
use Rattle.osc_peers.specs.Peers.{ArePeers, SourcesAreKept, back, forth}
use Rattle.osc_peers.specs.Roles.{turned}
use Rattle.osc_peers.proofs.Crossing.{are_honest}

-- ---- what was sealed opens as that alone

answered_all : OpeningLaws → (s : SecurityContext) (w : World) (h : client.History) (k : ℕ) (a : List ℕ) (own : Option ℕ) (q : Parts) → client_history s w ≡ Some h → AllAsk k h
    → SealsResponse s k own q a → Has (record { number = k; own = own; message = inside q }) (answered s w)
    → (g : client.History) → client_history s w ≡ Some g → NobodyForgesResponses s w (client.pending_at g (max (client.clock g) 0)) a
answered_all laws s w h k a own q e all seals has g f =
    subst (λ x. NobodyForgesResponses s w (client.pending_at x (max (client.clock x) 0)) a) (some_is (sym e ∙ f))
    (answered_opens laws s w a k own q (client.pending_at h (max (client.clock h) 0)) seals has (All-filter _ (λ (r : client.Asked). r.number ≡ k) (client.asked h) all))

-- a reply with a Partial IV of its own
replied_seals : (n : ℕ) (s : SecurityContext) (w : World) (t : server.TicketValues) (y : Answered) (h : server.History) (l : Life) → server_history s w ≡ Some h
    → server.life h t.context ≡ Some l → l.context ≡ s → Answers n s w (AtServer (server.Reply t true 0 y.plain y.room) (server.Replied y.bytes))
    → SealsResponse s t.number (Some (next_own l)) (as_reply t.kind t.message_id t.token 0 y.plain) y.bytes
replied_seals n s w t y h l e there c x =
    let same : x.0 ≡ h = some_is (sym x.1 ∙ e) in
    let of : x.2.0 ≡ l = some_is (sym x.2.1.0 ∙ ap (λ z. server.life z t.context) same ∙ there) in
    subst (λ z. SealsResponse z t.number (Some (next_own l)) (as_reply t.kind t.message_id t.token 0 y.plain) y.bytes) (ap (λ (z : Life). z.context) of ∙ c)
    (subst (λ z. SealsResponse x.2.0.context t.number (Some (next_own z)) (as_reply t.kind t.message_id t.token 0 y.plain) y.bytes) of x.2.2.1)

challenged_seals : (n : ℕ) (s : SecurityContext) (w : World) (k own : ℕ) (echo d reply : List ℕ) (h : server.History) (l : Life) → server_history s w ≡ Some h
    → server.life h 0 ≡ Some l → l.context ≡ s → next_own l ≡ own → Answers n s w (AtServer (server.Datagram 0 echo 0 d) (server.Took (server.Challenge 0 k echo 0) reply))
    → SealsChallenge s k own echo reply
challenged_seals n s w k own echo d reply h l e there c f x =
    let same : x.0 ≡ h = some_is (sym x.1 ∙ e) in
    let (life_in, is, says) = x.2.1 in
    let of : life_in ≡ l = some_is (sym is ∙ ap (λ z. server.life z 0) same ∙ there) in
    let reply_is : SecurityContext → ℕ → Type 0 = λ z o. SealsResponse z k (Some o) (as_reply says.0.kind says.0.message_id says.0.token 0 (challenge_message echo)) reply in
    record {
      head = says.0;
      seals =
          subst (λ z. reply_is z own) (ap (λ (z : Life). z.context) of ∙ c)
          (subst (λ o. reply_is life_in.context o) (ap next_own of ∙ f) says.2);
    }

one_asks : (k : ℕ) (r : client.Asked) → r.number ≡ k → All (λ (y : client.Asked). y.number ≡ k) (r ∷ [])
one_asks k r e = All-cons (λ (y : client.Asked). y.number ≡ k) r [] e (All-nil (λ (y : client.Asked). y.number ≡ k))

-- ---- who sealed

near_sealed : OpeningLaws → (n : ℕ) (s : SecurityContext) (x : Ends) (d : Dialogue) → AtEach (Answers n s) (forth (near_asks d (both_start x)))
    → AtEach (NobodyForges s) (forth (near_asks d (both_start x)))
near_sealed laws n s x d a =
    let begin : World = forth (both_start x) in
    let taken : World = Then (Then begin (asking d.request)) (delivering 0 0 d.delivered d.echo d.request) in
    let asked : client.History = client.Then (client.New s 0 x.life_ms) (client.Request 0 d.request.plain d.request.room) (client.Sent d.request.bytes) in
    let served : server.History = server.Then (server.Then server.Begin (server.Add s (starts.Fresh x.zero_number) x.size 1) (server.Added 0)) (server.Datagram 0 d.echo 0 d.request.bytes)
    (server.Took (server.Deliver d.delivered (ticket_of 0 0 d.delivered)) []) in
    let life : Life = marked (Some (Delivered 0)) (born s (starts.Fresh x.zero_number) x.size) in
    let asks : AllAsk 0 asked = one_asks 0 _ refl in
    let seals : SealsRequest s 0 d.request.plain d.request.bytes = asked_seals n s begin d.request (client.New s 0 x.life_ms) 0 refl refl refl a.0.0.0.1 in
    let reply = replied_seals n s taken (ticket_of 0 0 d.delivered) d.response served life refl refl refl a.0.1 in (
      (((((((tt, tt), tt), tt), tt), tt), sent_opens laws s _ d.request.bytes 0 d.request.plain seals (inl refl)), tt),
      answered_all laws s _ asked 0 d.response.bytes (Some (next_own life)) _ refl asks reply (inl refl),
    )

far_sealed : OpeningLaws → (n : ℕ) (s : SecurityContext) (x : Ends) (d e : Dialogue) → AtEach (Answers n (turned s)) (back (far_asks e (near_asks d (both_start x))))
    → AtEach (NobodyForges (turned s)) (back (far_asks e (near_asks d (both_start x))))
far_sealed laws n s x d e a =
    let begin : World = Then (Then (back (both_start x)) client_passes) (Draws Client) in
    let taken : World = Then (Then (Then (Then begin (asking e.request)) (delivering 0 1 e.delivered e.echo e.request)) server_passes) (Draws Server) in
    let passed : client.History = client.Then (client.New (turned s) 0 x.life_ms) (client.Skip 1) client.Skipped in
    let asked : client.History = client.Then passed (client.Request 0 e.request.plain e.request.room) (client.Sent e.request.bytes) in
    let served : server.History = server.Then (server.Then (server.Then server.Begin (server.Add (turned s) (starts.Fresh x.zero_number) x.size 1) (server.Added 0))
    (server.Datagram 0 e.echo 0 e.request.bytes) (server.Took (server.Deliver e.delivered (ticket_of 0 1 e.delivered)) [])) (server.Skip 0 1) server.Skipped in
    let life : Life = marked (Some (PassedOver 1)) (marked (Some (Delivered 1)) (born (turned s) (starts.Fresh x.zero_number) x.size)) in
    let asks : AllAsk 1 asked = one_asks 1 _ refl in
    let seals : SealsRequest (turned s) 1 e.request.plain e.request.bytes = asked_seals n (turned s) begin e.request passed 1 refl refl refl a.0.0.0.0.0.1 in
    let reply = replied_seals n (turned s) taken (ticket_of 0 1 e.delivered) e.response served life refl refl refl a.0.1 in (
      (((((((((tt, tt), tt), tt), tt), tt), sent_opens laws (turned s) _ e.request.bytes 1 e.request.plain seals (inl refl)), tt), tt), tt),
      answered_all laws (turned s) _ asked 1 e.response.bytes (Some (next_own life)) _ refl asks reply (inl refl),
    )

forth_sealed : OpeningLaws → (n : ℕ) (s : SecurityContext) (x : Ends) (d e : Dialogue) (lost : Asked) (c : Challenged) → AtEach (Answers n s) (forth (both_ask x d e lost c))
    → AtEach (NobodyForges s) (forth (both_ask x d e lost c))
forth_sealed laws n s x d e lost c a = ((((near_sealed laws n s x d a.0.0.0.0, tt), tt), tt), tt)

back_sealed : OpeningLaws → (n : ℕ) (s : SecurityContext) (x : Ends) (d e : Dialogue) (lost : Asked) (c : Challenged) → AtEach (Answers n (turned s)) (back (both_ask x d e lost c))
    → AtEach (NobodyForges (turned s)) (back (both_ask x d e lost c))
back_sealed laws n s x d e lost c a =
    let a17 = a.0.0.0.0 in
    let begin : World = back (both_restart (far_asks e (near_asks d (both_start x)))) in
    let taken : World = Then (Then (Then begin (asking c.request)) server_passes) (Draws Server) in
    let heard : World = Then (Then (Then taken (challenging 64 c.echo c.request c.reply)) (hearing 64 c.heard c.reply)) (Draws Client) in
    let asked1 : client.History = client.Then (client.Then (client.New (turned s) 0 x.life_ms) (client.Skip 1) client.Skipped)
    (client.Request 0 e.request.plain e.request.room) (client.Sent e.request.bytes) in
    let asked2 : client.History = client.Then (client.Then asked1 (client.Datagram 0 e.response.bytes) (client.Took (client.Deliver e.heard 1))) (client.Restart 64) client.Restarted in
    let asked3 : client.History = client.Then asked2 (client.Request 0 c.request.plain c.request.room) (client.Sent c.request.bytes) in
    let asked4 : client.History = client.Then asked3 (client.Datagram 0 c.reply) (client.Took (client.Deliver c.heard 64)) in
    let served1 : server.History = server.Then (server.Then (server.Then server.Begin (server.Add (turned s) (starts.Fresh x.zero_number) x.size 1) (server.Added 0))
    (server.Datagram 0 e.echo 0 e.request.bytes) (server.Took (server.Deliver e.delivered (ticket_of 0 1 e.delivered)) [])) (server.Skip 0 1) server.Skipped in
    let served2 : server.History = server.Then served1 (server.Reply (ticket_of 0 1 e.delivered) true 0 e.response.plain e.response.room) (server.Replied e.response.bytes) in
    let served3 : server.History = server.Then (server.Then served2 (server.Restart 0 64) server.Restarted) (server.Skip 0 1) server.Skipped in
    let life1 : Life = marked (Some (PassedOver 1)) (marked (Some (Delivered 1)) (born (turned s) (starts.Fresh x.zero_number) x.size)) in
    let life2 : Life = marked (Some (PassedOver 1)) (renewed 64 (marked (Some AnsweredMark) life1)) in
    let asks : AllAsk 64 asked3 = one_asks 64 _ refl in
    let seals : SealsRequest (turned s) 64 c.request.plain c.request.bytes = asked_seals n (turned s) begin c.request asked2 64 refl refl refl a17.0.0.0.1 in
    let challenge = challenged_seals n (turned s) taken 64 65 c.echo c.request.bytes c.reply served3 life2 refl refl refl refl a17.1 in
    let again : SealsRequest (turned s) 65 c.again.plain c.again.bytes = asked_seals n (turned s) heard c.again asked4 65 refl refl refl a.0.1 in (
      (
        (
          (
            (
              ((((((far_sealed laws n s x d e a17.0.0.0.0.0.0.0, tt), tt), tt), tt), tt), tt),
              sent_opens laws (turned s) _ c.request.bytes 64 c.request.plain seals (inl refl),
            ),
            answered_all laws (turned s) _ asked3 64 c.reply (Some 65) _ refl asks challenge.seals (inl refl),
          ),
          tt,
        ),
        tt,
      ),
      sent_opens laws (turned s) _ c.again.bytes 65 c.again.plain again (inl refl),
    )

-- ---- the numbers of both devices

pub is_used : {a b : ℕ} → a ≡ b → Some a ≡ Some b
is_used e = ap (λ (i : ℕ). Some i) e

start_kept : (s : SecurityContext) (x : Ends) → SourcesAreKept s (both_start x)
start_kept s x =
    ((((((tt, (omega arith, zero_small x), tt), (omega arith, omega arith), tt), (refl, refl, omega arith), tt), tt, (omega arith, zero_small x)), tt, (omega arith, omega arith)), tt, (refl, refl, omega arith))

near_kept : (s : SecurityContext) (x : Ends) (d : Dialogue) → SourcesAreKept s (near_asks d (both_start x))
near_kept s x d =
    let is_zero : number_of x.zero_number ≡ 0 = x.is_zero in
    ((((start_kept s x, refl, tt), tt, tt), tt, is_used (omega (arith, is_zero))), tt, tt)

far_kept : (s : SecurityContext) (x : Ends) (d e : Dialogue) → SourcesAreKept s (far_asks e (near_asks d (both_start x)))
far_kept s x d e =
    let is_zero : number_of x.zero_number ≡ 0 = x.is_zero in
    ((((((((near_kept s x d, tt, tt), tt, (refl, omega arith)), tt, refl), tt, tt), tt, tt), (refl, omega arith), tt), is_used (omega (arith, is_zero)), tt), tt, tt)

restart_kept : (s : SecurityContext) (x : Ends) (d e : Dialogue) → SourcesAreKept s (both_restart (far_asks e (near_asks d (both_start x))))
restart_kept s x d e = (
  (
    (
      (((far_kept s x d e, (omega arith, omega arith), tt), (omega arith, omega arith), tt), tt, (omega arith, omega arith)),
      tt,
      (omega arith, omega arith),
    ),
    (refl, refl, omega arith),
    tt,
  ),
  tt,
  (refl, refl, omega arith),
)

all_kept : (s : SecurityContext) (x : Ends) (d e : Dialogue) (lost : Asked) (c : Challenged) → SourcesAreKept s (both_ask x d e lost c)
all_kept s x d e lost c = (
  (
    (
      ((((((restart_kept s x d e, refl, tt), tt, refl), tt, tt), (refl, omega arith), tt), refl, tt), tt, tt),
      tt,
      (refl, omega arith),
    ),
    tt,
    refl,
  ),
  tt,
  tt,
)

-- ---- Echo values

back_unseen : (n : ℕ) (s : SecurityContext) (x : Ends) (d e : Dialogue) (lost : Asked) (c : Challenged) → (CarriesValue e.request c.echo → ⊥) → (CarriesValue c.request c.echo → ⊥)
    → AtEach (EchoIsNew (turned s)) (back (both_ask x d e lost c))
back_unseen n s x d e lost c free still_free = (
  (
    (
      (
        (
          ((((((((((((((((tt, tt), tt), tt), tt), tt), tt), tt), tt), tt), tt), tt), tt), tt), tt), tt), tt),
          λ h of f l none q has carries. elim has [
            | inl is ↦ none_carries c.request 64 c.echo q still_free is carries
            | inr rest ↦ elim rest [ inl is ↦ none_carries e.request 1 c.echo q free is carries | inr end ↦ end ]
          ],
        ),
        tt,
      ),
      tt,
    ),
    tt,
  ),
  tt,
)

forth_unseen : (s : SecurityContext) (x : Ends) (d e : Dialogue) (lost : Asked) (c : Challenged) → AtEach (EchoIsNew s) (forth (both_ask x d e lost c))
forth_unseen s x d e lost c = ((((((((((((tt, tt), tt), tt), tt), tt), tt), tt), tt), tt), tt), tt), tt)

-- ---- all premises

are_peers : OpeningLaws → (n : ℕ) (s : SecurityContext) (x : Ends) (d e : Dialogue) (lost : Asked) (c : Challenged) → IsUsable s → (CarriesValue e.request c.echo → ⊥)
    → (CarriesValue c.request c.echo → ⊥) → AtEach (Answers n s) (forth (both_ask x d e lost c)) → AtEach (Answers n (turned s)) (back (both_ask x d e lost c))
    → ArePeers n s (both_ask x d e lost c)
are_peers laws n s x d e lost c usable free still_free a b =
    record {
      usable = usable;
      forth_is = record { answers = a; unseen = forth_unseen s x d e lost c; fresh = ((((((((((((tt, tt), tt), refl), tt), tt), tt), tt), tt), tt), tt), tt), tt) };
      back_is = record {
        answers = b;
        unseen = back_unseen n s x d e lost c free still_free;
        fresh = (((((((((((((((((((((tt, refl), tt), tt), tt), tt), tt), tt), tt), tt), tt), tt), tt), tt), tt), tt), tt), tt), tt), tt), tt), tt);
      };
      forth_sealed = forth_sealed laws n s x d e lost c a;
      back_sealed = back_sealed laws n s x d e lost c b;
      kept = all_kept s x d e lost c;
    }

pub premises_met : OpeningLaws → PeerPremisesCanBeMet
premises_met laws n s x d e lost c usable free still_free a b =
    let p : ArePeers n s (both_ask x d e lost c) = are_peers laws n s x d e lost c usable free still_free a b in
    (p, are_honest n s (both_ask x d e lost c) p)
