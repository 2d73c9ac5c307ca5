-- To be believed: what one end seals the other end delivers, if it admits it: contracts of laws.rt (RFC 8613, 8.1 to 8.4). h is a history, d a datagram, p
-- what the plain message says, own a response's own Partial IV or none, r a pending request.
use Rattle.std.specs.Prelude.{◌≡◌, ℕ, List, Option, Some, Contains, false, true, max}
use Rattle.osc_coap.specs.Datagram.{Parts}
use Rattle.osc_protect.specs.Protection.{as_notified}
use Rattle.osc_protect.specs.Sealed.{SealsNotification, SealsRequest, SealsResponse, inside}
use Rattle.osc_life.specs.Life.{Life, Admits}
use Rattle.osc_life.specs.ServerHistory as server
use Rattle.osc_endpoint.specs.ServerAnswer.{Delivers}
use Rattle.osc_client.specs.ClientHistory as client
use Rattle.osc_client.specs.ClientAnswer.{Hears, IsInPlace, continues}

-- a request that was sealed under a context of the server is delivered, if its number or its Echo value is admitted; the response that was sealed
-- to a pending request, with its token, is heard, and so is a notification to a pending registration, if the request waits for it (RFC 8613, 8.2, 8.4 and 8.4.2)
pub record WhatIsSealedArrives : Type 0 where
  pub request : (h : server.History) (i n now : ℕ) (of : Life) (p : Parts) (d : List ℕ) → server.life h i ≡ Some of → SealsRequest of.context n p d
      → Admits of (max (server.clock h) now) n (inside p) → Delivers h now d i n (inside p)
  pub response : (h : client.History) (now : ℕ) (r : client.Asked) (own : Option ℕ) (p : Parts) (d : List ℕ) → IsInPlace r own (inside p)
      → Contains (client.pending_at h (max (client.clock h) now)) r → p.token ≡ r.token → SealsResponse (client.context h) r.number own p d
      → Hears h now d false r.number own (inside p)
  pub notification : (h : client.History) (now : ℕ) (r : client.Asked) (own : Option ℕ) (p : Parts) (d : List ℕ) → client.observes r.wait ≡ true → IsInPlace r own (inside (as_notified p))
      → Contains (client.pending_at h (max (client.clock h) now)) r → p.token ≡ r.token → SealsNotification (client.context h) r.number own p d
      → Hears h now d (continues r.wait (inside (as_notified p))) r.number own (inside (as_notified p))
