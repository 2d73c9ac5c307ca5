-- What a datagram that protects a message says, and that whatever is opened of it says the same. f is a protection, i a number that it
-- knows, m a message, d a datagram.
use Rattle.std.proofs.Common.{◌≡◌, ℕ, List, ◌∙◌, ap, refl}
use Rattle.osc_coap.specs.Datagram.{Parts}
use Rattle.osc_coap.specs.Inner.{InnerParts}
use Rattle.osc_coap.specs.Laws.{DatagramIsOneMessage}
use Rattle.osc_coap.specs.OptionNumbers.{uri_host, uri_port}
use Rattle.osc_coap.specs.Search.{values_at, first_of}
use Rattle.osc_protect.specs.Laws.{OneMessage}
use Rattle.osc_protect.specs.Opening.{Opens}
use Rattle.osc_protect.specs.Protection.{Protection, Protects}
use Rattle.osc_protect.specs.Views.{message_of, opened_number, shown}
use Rattle.osc_protect.specs.declared.opened.Opened.{Opened}
use Rattle.osc_observe.specs.Received.{Received, Receives}
use Rattle.osc_observe.specs.Views.{received_of}

module _ {I : Type 0} (f : Protection I) (i : I) (m : InnerParts) (d : List ℕ) (p : Protects f i m d) where
  -- what it says
  abbrev pub said : Received
  said = record {
    kind = p.outer.kind;
    message_id = p.outer.message_id;
    token = p.outer.token;
    uri_host = first_of (values_at uri_host p.outer.options);
    uri_port = first_of (values_at uri_port p.outer.options);
    number = (f.parts i).piv;
    message = m;
  }

  -- that is received of it
  pub receives_said : Receives f i d said
  receives_said = record {
    number = refl;
    protects = p;
    outer = p.outer;
    datagram = p.datagram;
    kind = refl;
    message_id = refl;
    token = refl;
    uri_host = refl;
    uri_port = refl;
  }

  -- and that is what anything opened of it says
  pub opened_said : DatagramIsOneMessage → OneMessage f → (o : Opened) → Opens f d o → received_of o ≡ said
  opened_said one laws o a =
      let outer : a.outer ≡ p.outer = one a.outer p.outer d a.datagram p.datagram in
      let kind : o.kind ≡ p.outer.kind = a.shows.kind ∙ ap (λ (q : Parts). q.kind) outer in
      let message_id : o.message_id ≡ p.outer.message_id = a.shows.message_id ∙ ap (λ (q : Parts). q.message_id) outer in
      let token : o.token.items ≡ p.outer.token = a.shows.token ∙ ap (λ (q : Parts). q.token) outer in
      let host : shown o.uri_host ≡ first_of (values_at uri_host p.outer.options) = a.shows.uri_host ∙ ap (λ (q : Parts). first_of (values_at uri_host q.options)) outer in
      let port : shown o.uri_port ≡ first_of (values_at uri_port p.outer.options) = a.shows.uri_port ∙ ap (λ (q : Parts). first_of (values_at uri_port q.options)) outer in
      let number : opened_number o ≡ (f.parts i).piv = a.number_is ∙ ap (λ (j : I). (f.parts j).piv) (laws.number d a.number i (message_of o) m a.protects p) in
      let message : message_of o ≡ m = laws.message d a.number i (message_of o) m a.protects p in
      cc
