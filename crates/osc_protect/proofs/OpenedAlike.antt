-- What opens is one message.
use Rattle.std.proofs.Common.{◌≡◌, ℕ, List, sym, ap, ◌∙◌}
use Rattle.osc_coap.specs.Datagram.{Parts}
use Rattle.osc_coap.specs.Laws.{DatagramIsOneMessage}
use Rattle.osc_coap.specs.OptionNumbers.{uri_host, uri_port}
use Rattle.osc_coap.specs.Search.{values_at, first_of}
use Rattle.osc_protect.specs.Protection.{Protection}
use Rattle.osc_protect.specs.Opening.{Opens}
use Rattle.osc_protect.specs.Laws.{OneMessage, OneOpened}
use Rattle.osc_protect.specs.Views.{message_of, opened_number}
use Rattle.osc_protect.specs.declared.opened.Opened.{Opened}

module _ {I : Type 0} (one : DatagramIsOneMessage) (f : Protection I) (law : OneMessage f) where
  -- the message outside is one
  same_outer : (d : List ℕ) (o q : Opened) (x : Opens f d o) (y : Opens f d q) → x.outer ≡ y.outer
  same_outer d o q x y = one x.outer y.outer d x.datagram y.datagram

  same_number : (d : List ℕ) (o q : Opened) → Opens f d o → Opens f d q → opened_number o ≡ opened_number q
  same_number d o q x y =
      let e : x.number ≡ y.number = law.number d x.number y.number (message_of o) (message_of q) x.protects y.protects in
      x.number_is ∙ ap (λ (i : I). (f.parts i).piv) e ∙ sym y.number_is

  pub opened_law : OneOpened f
  opened_law = record {
    kind = λ d o q x y. x.shows.kind ∙ ap (λ (p : Parts). p.kind) (same_outer d o q x y) ∙ sym y.shows.kind;
    message_id = λ d o q x y. x.shows.message_id ∙ ap (λ (p : Parts). p.message_id) (same_outer d o q x y) ∙ sym y.shows.message_id;
    token = λ d o q x y. x.shows.token ∙ ap (λ (p : Parts). p.token) (same_outer d o q x y) ∙ sym y.shows.token;
    uri_host = λ d o q x y. x.shows.uri_host ∙ ap (λ (p : Parts). first_of (values_at uri_host p.options)) (same_outer d o q x y) ∙ sym y.shows.uri_host;
    uri_port = λ d o q x y. x.shows.uri_port ∙ ap (λ (p : Parts). first_of (values_at uri_port p.options)) (same_outer d o q x y) ∙ sym y.shows.uri_port;
    number = same_number;
    message = λ d o q x y. law.message d x.number y.number (message_of o) (message_of q) x.protects y.protects;
  }
