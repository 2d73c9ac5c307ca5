-- To be believed: what a delivered message says (RFC 8613, 8.2 and 8.4). r is what was received, f a protection, i one of its numbers, d a
-- datagram, p the parts of a message.
use Rattle.std.specs.Prelude.{◌≡◌, ℕ, List, Option}
use Rattle.osc_coap.specs.declared.message.Kind.{Kind}
use Rattle.osc_coap.specs.Datagram.{Parts, IsDatagram}
use Rattle.osc_coap.specs.Inner.{InnerParts}
use Rattle.osc_coap.specs.OptionNumbers.{uri_host as uri_host_number, uri_port as uri_port_number}
use Rattle.osc_coap.specs.Search.{values_at, first_of}
use Rattle.osc_protect.specs.Protection.{Protection, Protects}

-- the head and the first Uri-Host and Uri-Port, which aren't protected, and the number and the message (RFC 8613, 8.2 and 8.4)
pub record Received : Type 0 where
  pub kind : Kind
  pub message_id : ℕ
  pub token : List ℕ
  pub uri_host : Option (List ℕ)
  pub uri_port : Option (List ℕ)
  pub number : Option ℕ
  pub message : InnerParts

-- the datagram protects the message, and shows the rest outside the protection (RFC 8613, 8.2 and 8.4)
pub record Receives {I : Type 0} (f : Protection I) (i : I) (d : List ℕ) (r : Received) : Type 0 where
  pub number : r.number ≡ (f.parts i).piv
  pub protects : Protects f i r.message d
  pub outer : Parts
  pub datagram : IsDatagram outer d
  pub kind : r.kind ≡ outer.kind
  pub message_id : r.message_id ≡ outer.message_id
  pub token : r.token ≡ outer.token
  pub uri_host : r.uri_host ≡ first_of (values_at uri_host_number outer.options)
  pub uri_port : r.uri_port ≡ first_of (values_at uri_port_number outer.options)
