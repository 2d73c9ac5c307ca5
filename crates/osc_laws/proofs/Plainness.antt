-- Both ends without Observe.
use Rattle.std.proofs.Common.{◌≡◌, ℕ, ◌∙◌, sym, ap, arith, Bool, true, false, Option, Some, None, inl, inr, List, ◌&&◌, ◌||◌, if◌then◌else◌}
use Rattle.std.specs.Prelude.{All, max, not, bytes_eq}
use Rattle.std.proofs.lemmas.List.Elements.{All-contains, All-filter, All-map, All-nil, All-push, All-weaker}
use Rattle.osc_coap.specs.Datagram.{Parts}
use Rattle.osc_context.specs.declared.features.Features.{Features}
use Rattle.osc_coap.specs.Interpreted.{interpreted}
use Rattle.osc_coap.specs.OptionNumbers.{observe}
use Rattle.osc_client.specs.declared.pending.Wait.{Wait}
use Rattle.osc_client.specs.declared.pending.Wait.TheVariants.{Once, Observing}
use Rattle.osc_observe.specs.Received.{Received}
use Rattle.osc_observe.specs.Observing.{is_notification, is_observable, place_of, says_register}
use Rattle.osc_life.specs.ServerHistory as server
use Rattle.osc_life.specs.LifeAnswer.{Arrival}
use Rattle.osc_endpoint.specs.ServerAnswer.{MeetsRow}
use Rattle.osc_client.specs.ClientAnswer.{IsPassed}
use Rattle.osc_client.specs.ClientHistory as client
use Rattle.osc_client.proofs.GivingWay.{All-beside}
use Rattle.osc_laws.specs.ClientLaws.{AllClientAnswers}
use Rattle.osc_laws.specs.Plainness.{WithoutObserve, ServerIsPlain, ClientIsPlain, EndsArePlain}
use Rattle.osc_client.proofs.Asking.{contains_filter}

off : (b c : Bool) → b ≡ false → (b && c) ≡ false
off b c e = ap (λ x. x && c) e

delivered : (h : server.History) → WithoutObserve h → (a : Arrival) (received : Received) (ticket : server.TicketValues) → MeetsRow h a (server.Deliver received ticket) → ticket.observes ≡ false
delivered h w a received ticket (i, n, of, named, (receives, admits, is)) =
    ap (λ (t : server.TicketValues). t.observes) is
    ∙ off of.context.features.observe (is_observable received.message.code && says_register (interpreted observe received.message.options)) (w i of named.life_is)

server_plain : (h : server.History) → WithoutObserve h → ServerIsPlain h
server_plain h w = record {
  delivered = delivered h w;
  notified = λ t p room bytes e x. let g : true ≡ false = sym x.0 ∙ e in cc;
  replied = λ t own e. ap (λ b. b || own) e;
}

waits_once : (x : Features) (p : Parts) → x.observe ≡ false → client.wait_of x p ≡ Once
waits_once x p e = ap (λ b. if b then Observing 0 else Once) (off x.observe (is_observable p.code && says_register (interpreted observe p.options)) e)

stays : (place : ℕ) (wait : Wait) → wait ≡ Once → client.after_place place wait ≡ Once
stays place wait e = ap (client.after_place place) e

heard_stays : (token : List ℕ) (place : ℕ) (r : client.Asked) → r.wait ≡ Once → (client.after_response token place r).wait ≡ Once
heard_stays token place r e = by_test (bytes_eq r.token token)
  where
    by_test : (b : Bool) → (if b then record r { wait = client.after_place place r.wait } else r).wait ≡ Once
    by_test true = stays place r.wait e
    by_test false = e

abbrev IsOnce : client.Asked → Type 0
IsOnce r = r.wait ≡ Once

once : (h : client.History) → (client.context h).features.observe ≡ false → All IsOnce (client.asked h)
once (client.New s first ms) e = All-nil IsOnce
once (client.Then h (client.Request now plain room) (client.Sent bytes)) e =
    let x = (client.context h).features in
    All-push IsOnce (client.beside x plain (client.asked h)) _ (All-beside IsOnce x plain (client.asked h) (once h e)) (waits_once x plain e)
once (client.Then h (client.Datagram now d) (client.Took (client.Notified received number))) e =
    let xs = client.alive (max (client.clock h) now) (client.life_ms h) (client.asked h) in
    All-map IsOnce (client.after_response received.token (place_of received.number)) xs
    (All-weaker IsOnce (λ r. IsOnce (client.after_response received.token (place_of received.number) r)) (λ r f. heard_stays received.token (place_of received.number) r f) xs
    (All-filter (client.is_alive (max (client.clock h) now) (client.life_ms h)) IsOnce (client.asked h) (once h e)))
once (client.Then h (client.Datagram now d) (client.Took (client.Deliver received number))) e =
    All-filter (λ r. not (bytes_eq r.token received.token)) IsOnce (client.asked h) (once h e)
once (client.Then h (client.Forget token) entry) e = All-filter (λ r. not (bytes_eq r.token token)) IsOnce (client.asked h) (once h e)
once (client.Then h (client.Restart first) entry) e = All-nil IsOnce
once (client.Then h event entry) e = once h e

never_passed : (wait : Wait) (own : Option ℕ) → client.first_place wait ≡ 0 → IsPassed wait own → ⊥
never_passed wait None none passed = passed
never_passed wait (Some own) none passed = omega (arith, passed, none)

client_plain : (n : ℕ) (h : client.History) → AllClientAnswers n h → (client.context h).features.observe ≡ false → ClientIsPlain h
client_plain n h a e = record {
  once = once h e;
  never_old = λ clock d x.
      let (r, at, old) = x in
      let is : r.wait ≡ Once = All-contains IsOnce (client.asked h) r (once h e) (contains_filter (client.is_alive clock (client.life_ms h)) (client.asked h) r at.1) in
      let none : client.first_place r.wait ≡ 0 = ap client.first_place is in
      elim old [
        | inl passed ↦ never_passed r.wait passed.0 none passed.2
        | inr first ↦ let behind = first.3 in omega (arith, behind, none)
      ];
  never_notified = λ clock d received number x.
      let (r, at, (same, own, awaited, receives, goes)) = x in
      let is : r.wait ≡ Once = All-contains IsOnce (client.asked h) r (once h e) (contains_filter (client.is_alive clock (client.life_ms h)) (client.asked h) r at.1) in
      let g : false ≡ true = sym (ap (λ w. client.observes w && is_notification received.message.code received.message.options) is) ∙ goes in
      cc;
}

pub ends_plain : EndsArePlain
ends_plain = record { server = server_plain; client = client_plain }
