-- That a datagram says one thing, whoever it is delivered to.
use Rattle.std.proofs.Common.{◌≡◌, ◌∙◌, sym, ap, Option, List, ℕ}
use Rattle.osc_coap.specs.Datagram.{Parts}
use Rattle.osc_coap.specs.Inner.{InnerParts}
use Rattle.osc_coap.specs.Laws.{DatagramIsOneMessage}
use Rattle.osc_coap.specs.OptionNumbers.{uri_host as uri_host_number, uri_port as uri_port_number}
use Rattle.osc_coap.specs.Search.{values_at, first_of}
use Rattle.osc_protect.specs.Laws.{OneMessage}
use Rattle.osc_protect.specs.Protection.{Protection}
use Rattle.osc_observe.specs.Received.{Received, Receives}

-- what is received under a message
abbrev received_by : Parts → Option ℕ → InnerParts → Received
received_by p number message = record {
  kind = p.kind;
  message_id = p.message_id;
  token = p.token;
  uri_host = first_of (values_at uri_host_number p.options);
  uri_port = first_of (values_at uri_port_number p.options);
  number = number;
  message = message;
}

received_is : {I : Type 0} (f : Protection I) (i : I) (d : List ℕ) (r : Received) (x : Receives f i d r) → r ≡ received_by x.outer (f.parts i).piv r.message
received_is f i d r x =
    ap (λ k. record r { kind = k }) x.kind
    ∙ ap (λ k. record r { kind = x.outer.kind; message_id = k }) x.message_id
    ∙ ap (λ k. record r { kind = x.outer.kind; message_id = x.outer.message_id; token = k }) x.token
    ∙ ap (λ k. record (received_by x.outer r.number r.message) { uri_host = k; uri_port = r.uri_port }) x.uri_host
    ∙ ap (λ k. record (received_by x.outer r.number r.message) { uri_port = k }) x.uri_port
    ∙ ap (λ k. received_by x.outer k r.message) x.number

pub one_received : {I : Type 0} (f : Protection I) → DatagramIsOneMessage → OneMessage f → (d : List ℕ) (i j : I) (r q : Received)
    → Receives f i d r → Receives f j d q → r ≡ q
one_received {I} f one laws d i j r q x y =
    let outer : x.outer ≡ y.outer = one x.outer y.outer d x.datagram y.datagram in
    let number : i ≡ j = laws.number d i j r.message q.message x.protects y.protects in
    let message : r.message ≡ q.message = laws.message d i j r.message q.message x.protects y.protects in
    received_is f i d r x ∙ ap (λ p. received_by p (f.parts i).piv r.message) outer ∙ ap (λ (k : I). received_by y.outer (f.parts k).piv r.message) number
    ∙ ap (received_by y.outer (f.parts j).piv) message ∙ sym (received_is f j d q y)
