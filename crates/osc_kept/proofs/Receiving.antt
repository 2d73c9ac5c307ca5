-- If the number of each request is kept before it is delivered, no server starts open, or with numbers in doubt, at or below one. kept says what is kept behind w.
use Rattle.std.proofs.Common.{◌≡◌, ℕ, ◌<◌, refl, arith, List, [], ◌∷◌, inl, inr}
use Rattle.osc_life.specs.declared.start.Start.TheVariants as starts
use Rattle.osc_life.specs.ServerHistory as server
use Rattle.osc_kept.specs.Premises.{AtEach, StartsAboveDelivered}
use Rattle.osc_kept.specs.Receiving.{KeepsReceived, ReceivedBySaving}
use Rattle.osc_kept.specs.World.{World, Event, Begin, Then, ServerStarts, AtServer, Has, delivered}

-- all that was delivered is below what is kept
all_below : (kept : World → ℕ) (w : World) → AtEach (KeepsReceived kept) w → (n : ℕ) → Has n (delivered w) → n < kept w
all_below kept Begin a n h = absurd h
all_below kept (Then w (AtServer (server.Datagram now echo mid d) (server.Took (server.Deliver received ticket) reply))) a n (inl e) =
    let less = a.1.1 in omega (arith, e, less)
all_below kept (Then w (AtServer (server.Datagram now echo mid d) (server.Took (server.Deliver received ticket) reply))) a n (inr h) =
    let less = all_below kept w a.0 n h in let more = a.1.0 in omega (arith, less, more)
all_below kept (Then w event) a n h = let less = all_below kept w a.0 n h in let more = a.1.0 in omega (arith, less, more)

none_there : (ns : List ℕ) → ((n : ℕ) → Has n ns → ⊥) → ns ≡ []
none_there [] none = refl
none_there (n ∷ ns) none = absurd (none n (inl refl))

starts_above : (kept : World → ℕ) (w : World) (event : Event) → AtEach (KeepsReceived kept) w → KeepsReceived kept w event → StartsAboveDelivered w event
starts_above kept w (ServerStarts (starts.Fresh first) size) a (more, none) =
    none_there (delivered w) (λ n h. let less = all_below kept w a n h in omega (arith, less, none))
starts_above kept w (ServerStarts (starts.Received first highest) size) a (more, most) = λ n h. let less = all_below kept w a n h in omega (arith, less, most)
starts_above kept w (ServerStarts (starts.Reserved first highest ahead) size) a (more, most) = λ n h. let less = all_below kept w a n h in omega (arith, less, most)
starts_above kept w event a k = tt

pub received_by_saving : ReceivedBySaving
received_by_saving kept Begin a = tt
received_by_saving kept (Then w event) a = (received_by_saving kept w a.0, starts_above kept w event a.0 a.1)
