-- What the message layer takes a message for.
use Rattle.std.proofs.Common.{◌≡◌, subst, sym, ℕ, List, Some}
use Rattle.std.specs.Prelude.{Bool, true, false, Option, is_some, ◌==◌}
use Rattle.osc_coap.specs.Datagram.{IsDatagram, Parts}
use Rattle.osc_coap.specs.declared.message.Kind.TheVariants.{Rst}
use Rattle.osc_message.specs.Calls.{IsOnItsWay}
use Rattle.osc_message.specs.HearingCalls.{Recalls}
use Rattle.osc_message.specs.Incoming.{empty, row}
use Rattle.osc_message.specs.Table.{Table}
use Rattle.osc_message.specs.Taking.{IsFor, IsForBy, Layer, Takes, TakesBy, heading_of}
use Rattle.osc_message.specs.declared.arrivals.Repeated.{Repeated}
use Rattle.osc_message.specs.declared.exchanges.Call.{Call}
use Rattle.osc_message.specs.declared.incoming.Incoming.{Incoming}
use Rattle.osc_message.specs.declared.incoming.Incoming.TheVariants as rows
use Rattle.osc_message.specs.declared.messages.Heading.{Heading}
use Rattle.osc_message.specs.declared.messages.Taken.TheVariants as taken

request_repeated : (h : Heading) (r : Repeated) → taken.Request h ≡ taken.Repeated r → ⊥
request_repeated h r e = cc

request_response : (h k : Heading) (call : Call) → taken.Request h ≡ taken.Response call k → ⊥
request_response h k call e = cc

pub request_ignored : (h : Heading) → taken.Request h ≡ taken.Ignored → ⊥
request_ignored h e = cc

one_request : (h k : Heading) → taken.Request h ≡ taken.Request k → h ≡ k
one_request h k e = cc

response_repeated : (call : Call) (h : Heading) (r : Repeated) → taken.Response call h ≡ taken.Repeated r → ⊥
response_repeated call h r e = cc

response_request : (call : Call) (h k : Heading) → taken.Response call h ≡ taken.Request k → ⊥
response_request call h k e = cc

pub response_ignored : (call : Call) (h : Heading) → taken.Response call h ≡ taken.Ignored → ⊥
response_ignored call h e = cc

one_call : (call to : Call) (h k : Heading) → taken.Response call h ≡ taken.Response to k → call ≡ to
one_call call to h k e = cc

one_heading : (call to : Call) (h k : Heading) → taken.Response call h ≡ taken.Response to k → h ≡ k
one_heading call to h k e = cc

one_repeated : (r s : Repeated) → taken.Repeated r ≡ taken.Repeated s → r ≡ s
one_repeated r s e = cc

repeated_request : (r : Repeated) (h : Heading) → taken.Repeated r ≡ taken.Request h → ⊥
repeated_request r h e = cc

repeated_response : (r : Repeated) (call : Call) (h : Heading) → taken.Repeated r ≡ taken.Response call h → ⊥
repeated_response r call h e = cc

pub repeated_ignored : (r : Repeated) → taken.Repeated r ≡ taken.Ignored → ⊥
repeated_ignored r e = cc

request_by : (old new : Layer) (from : List ℕ) (p : Parts) (came : Option Repeated) (waits : Option Call) (r : Incoming) (h : Heading)
    → TakesBy old new from p came waits r (taken.Request h) → h ≡ heading_of p
request_by old new from p came waits rows.Again h (r, was, is, same) = absurd (request_repeated h r is)
request_by old new from p came waits rows.Request h (is, same) = one_request h (heading_of p) is
request_by old new from p came waits rows.Response h (call, was, is, same) = absurd (request_response h (heading_of p) call is)
request_by old new from p came waits rows.Acknowledged h t = absurd t
request_by old new from p came waits rows.Reset h t = absurd t
request_by old new from p came waits rows.Reject h t = absurd t
request_by old new from p came waits rows.Ignore h (is, same) = absurd (request_ignored h is)

-- the heading of a request
pub request_heading : (old new : Layer) (from : List ℕ) (now : ℕ) (p : Parts) (h : Heading) → Takes old new from now p (taken.Request h) → h ≡ heading_of p
request_heading old new from now p h (came, recalls, waits, is, by) = request_by old new from p came waits (row p.kind p.code (is_some came) (is_some waits)) h by

on_its_way : (empty : Bool) (t : Table) (from : List ℕ) (p : Parts) (call : Call) → IsForBy empty t from p (Some call) → IsOnItsWay t call
on_its_way true t from p call (x, (there, passes, number)) = (x, there, number)
on_its_way false t from p call (x, (there, passes, number)) = (x, there, number)

response_by : (old new : Layer) (from : List ℕ) (p : Parts) (came : Option Repeated) (waits : Option Call) (r : Incoming) (call : Call) (h : Heading)
    → IsFor old.sent from p waits → TakesBy old new from p came waits r (taken.Response call h) → (h ≡ heading_of p) × IsOnItsWay new.sent call
response_by old new from p came waits rows.Again call h is (r, was, eqn, same) = absurd (response_repeated call h r eqn)
response_by old new from p came waits rows.Request call h is (eqn, same) = absurd (response_request call h (heading_of p) eqn)
response_by old new from p came waits rows.Response call h is (to, was, eqn, same) =
    let P : Option Call → Type 0 = λ o. IsFor old.sent from p o in
    let Q : Call → Type 0 = λ c. IsOnItsWay old.sent c in
    let S : Layer → Type 0 = λ t. IsOnItsWay t.sent call in
    let way : IsOnItsWay old.sent to = on_its_way (p.code == 0) old.sent from p to (subst P was is) in
    (one_heading call to h (heading_of p) eqn, subst S (sym same) (subst Q (sym (one_call call to h (heading_of p) eqn)) way))
response_by old new from p came waits rows.Acknowledged call h is t = absurd t
response_by old new from p came waits rows.Reset call h is t = absurd t
response_by old new from p came waits rows.Reject call h is t = absurd t
response_by old new from p came waits rows.Ignore call h is (eqn, same) = absurd (response_ignored call h eqn)

-- the heading of a response, whose call is on its way
pub response_way : (old new : Layer) (from : List ℕ) (now : ℕ) (p : Parts) (call : Call) (h : Heading) → Takes old new from now p (taken.Response call h)
    → (h ≡ heading_of p) × IsOnItsWay new.sent call
response_way old new from now p call h (came, recalls, waits, is, by) = response_by old new from p came waits (row p.kind p.code (is_some came) (is_some waits)) call h is by

repeated_by : (old new : Layer) (from : List ℕ) (now : ℕ) (p : Parts) (came : Option Repeated) (waits : Option Call) (r : Incoming) (s : Repeated)
    → Recalls old.came from p.message_id now came → TakesBy old new from p came waits r (taken.Repeated s) → Recalls new.came from p.message_id now (Some s)
repeated_by old new from now p came waits rows.Again s recalls (r, was, is, same) =
    let P : Option Repeated → Type 0 = λ o. Recalls old.came from p.message_id now o in
    let Q : Repeated → Type 0 = λ o. Recalls old.came from p.message_id now (Some o) in
    let S : Layer → Type 0 = λ t. Recalls t.came from p.message_id now (Some s) in
    subst S (sym same) (subst Q (sym (one_repeated s r is)) (subst P was recalls))
repeated_by old new from now p came waits rows.Request s recalls (is, same) = absurd (repeated_request s (heading_of p) is)
repeated_by old new from now p came waits rows.Response s recalls (call, was, is, same) = absurd (repeated_response s call (heading_of p) is)
repeated_by old new from now p came waits rows.Acknowledged s recalls t = absurd t
repeated_by old new from now p came waits rows.Reset s recalls t = absurd t
repeated_by old new from now p came waits rows.Reject s recalls t = absurd t
repeated_by old new from now p came waits rows.Ignore s recalls (is, same) = absurd (repeated_ignored s is)

-- what came before is recalled
pub recalled : (old new : Layer) (from : List ℕ) (now : ℕ) (p : Parts) (s : Repeated) → Takes old new from now p (taken.Repeated s) → Recalls new.came from p.message_id now (Some s)
recalled old new from now p s (came, recalls, waits, is, by) = repeated_by old new from now p came waits (row p.kind p.code (is_some came) (is_some waits)) s recalls by

rejected_by : (old new : Layer) (from : List ℕ) (p : Parts) (came : Option Repeated) (waits : Option Call) (r : Incoming) (bytes : List ℕ)
    → TakesBy old new from p came waits r (taken.Reject bytes) → IsDatagram (empty Rst p.message_id) bytes
rejected_by old new from p came waits rows.Again bytes (r, was, is, same) = absurd cc
rejected_by old new from p came waits rows.Request bytes (is, same) = absurd cc
rejected_by old new from p came waits rows.Response bytes (call, was, is, same) = absurd cc
rejected_by old new from p came waits rows.Acknowledged bytes t = absurd t
rejected_by old new from p came waits rows.Reset bytes t = absurd t
rejected_by old new from p came waits rows.Reject bytes (is, same) = is
rejected_by old new from p came waits rows.Ignore bytes (is, same) = absurd cc

-- what can't be used gets an RST
pub rejected : (old new : Layer) (from : List ℕ) (now : ℕ) (p : Parts) (bytes : List ℕ) → Takes old new from now p (taken.Reject bytes) → IsDatagram (empty Rst p.message_id) bytes
rejected old new from now p bytes (came, recalls, waits, is, by) = rejected_by old new from p came waits (row p.kind p.code (is_some came) (is_some waits)) bytes by
