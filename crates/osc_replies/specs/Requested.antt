-- How the code is seen: what was copied of a datagram before it was opened.
use Rattle.std.specs.Prelude.{◌≡◌, ℕ, List, [], Option, IfNone, IfSome}
use Rattle.osc_coap.specs.Datagram.{Parts, IsDatagram}
use Rattle.osc_replies.specs.declared.remembered.Remembered.{Remembered}
use Rattle.osc_replies.specs.Answering.{IsTooLong}
use Rattle.osc_replies.specs.Memory.{Asks, Kept}
use Rattle.osc_replies.specs.Views.{kept_of}

-- this is kept of the protected request in the datagram, without a reply (how the code is seen)
pub record IsKeptOf (k : Kept) (d : List ℕ) : Type 0 where
  pub request : Parts
  pub datagram : IsDatagram request d
  pub asks : Asks request k.number k.option k.text
  pub unanswered : k.reply ≡ []

-- this was copied of the datagram, or it is no protected request, or there is no room for it (how the code is seen)
pub record IsCopied {len : ℕ} (request : Option (Remembered len)) (d : List ℕ) : Type 0 where
  pub made : IfSome request (λ r. IsKeptOf (kept_of r) d)
  pub refused : IfNone request (IsTooLong len d)
