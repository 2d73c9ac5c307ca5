-- A start of the near device, as a step of the list. w is the list before.
use Rattle.std.proofs.Common.{◌≡◌, ℕ, ◌+◌, ◌<◌, ◌≤◌, ◌^◌, sym, subst, refl, arith, List, [], ◌∷◌, inl}
use Rattle.osc_context.specs.SecurityContext.{SecurityContext}
use Rattle.osc_context.specs.Views.{number_of}
use Rattle.osc_window.specs.declared.window_size.WindowSize.{WindowSize}
use Rattle.osc_life.specs.Life.{born}
use Rattle.osc_life.specs.declared.start.Start.{Start}
use Rattle.osc_life.specs.declared.start.Start.TheVariants as starts
use Rattle.osc_kept_ends.specs.Numbering.{Load, Allowed}
use Rattle.osc_kept_ends.specs.Peering.{IsPeerStart}
use Rattle.osc_kept_ends.proofs.PeerSteps.{born_at}
use Rattle.osc_kept.specs.Premises.{StartsAboveDelivered}
use Rattle.osc_kept.specs.World.{Client, ClientStarts, ServerStarts, Has, Reserves, delivered}
use Rattle.osc_kept.proofs.InWorld.{added_alone}
use Rattle.osc_peers.specs.Peers.{Peers, More, Back, back, near_numbers}
use Rattle.osc_peers.specs.Roles.{turned}
use Rattle.osc_peers.proofs.Peering.{usable_turned}
use Rattle.osc_peer_calls.specs.Counting.{AreCounted, PeersByNumbers}
use Rattle.osc_peer_calls.specs.GoingOn.{IsAboveReceived, StartsInList, both_started, peer_started}
use Rattle.osc_peer_calls.proofs.OneMore.{back_more, forth_more}

none_below : (ns : List ℕ) (x : ℕ) → x ≡ 0 → ((n : ℕ) → Has n ns → n < x) → ns ≡ []
none_below [] x e f = refl
none_below (n ∷ ns) x e f = let less : n < x = f n (inl refl) in absurd (omega (arith, less, e))

highest_above : (highest n received : ℕ) → n < received → highest + 1 ≡ received → n ≤ highest
highest_above highest n received less top = omega (arith, less, top)

starts_above : (w : Peers) (ahead : ℕ) (start : Start) (size : WindowSize) (sender received : ℕ) → IsPeerStart ahead start sender received → IsAboveReceived w received
    → StartsAboveDelivered (back w) (ServerStarts start size)
starts_above w ahead (starts.Fresh first) size sender received is above = none_below (delivered (back w)) received is.2 above
starts_above w ahead (starts.Restarted first) size sender received is above = tt
starts_above w ahead (starts.Received first highest) size sender received is above = λ n has. highest_above (number_of highest) n received (above n has) is.1
starts_above w ahead (starts.Reserved first highest kept) size sender received is above = λ n has. highest_above (number_of highest) n received (above n has) is.1

-- both roles start at the number that was loaded
both : (n : ℕ) (s : SecurityContext) (w : Peers) (ahead : ℕ) (start : Start) (size : WindowSize) (sender received life_ms : ℕ) → AreCounted n s w → IsPeerStart ahead start sender received
    → sender < 2 ^ 40 → (near_numbers s w).floor ≤ sender → IsAboveReceived w received → AreCounted n s (both_started start size sender life_ms w)
both n s w ahead start size sender received life_ms i is small least above =
    let at : (born (turned s) start size).first ≡ sender = born_at (turned s) ahead start size sender received is in
    let can : Allowed (Load (born (turned s) start size).first) (near_numbers s w) = subst (λ x. Allowed (Load x) (near_numbers s w)) (sym at) (least, small) in
    let one : AreCounted n s (More w (Back (ServerStarts start size))) =
    back_more n s w (ServerStarts start size) i (added_alone (turned s) start size (usable_turned s i.usable)) tt tt tt tt (starts_above w ahead start size sender received is above) can tt in
    forth_more n s (More w (Back (ServerStarts start size))) (ClientStarts sender life_ms) one tt tt tt tt tt tt (least, small) tt

pub starts_in_list : PeersByNumbers → StartsInList
starts_in_list claims n s w ahead (starts.Fresh first) size sender received life_ms floor i is small least above =
    let two : AreCounted n s (both_started (starts.Fresh first) size sender life_ms w) = both n s w ahead (starts.Fresh first) size sender received life_ms i is small least above in
    let v : Peers = peer_started (starts.Fresh first) size sender life_ms w in
    let c : AreCounted n s v = forth_more n s (both_started (starts.Fresh first) size sender life_ms w) (Reserves Client) two tt tt tt tt tt tt (refl, refl, small) tt in (
      record { counted = c; claims = (claims n s v c).1 },
      record { server_is = refl; client_is = refl; numbers_are = record { next_is = refl; limit_is = refl; hand_is = refl } },
      refl,
    )
starts_in_list claims n s w ahead (starts.Restarted first) size sender received life_ms floor i is small least above =
    let c = both n s w ahead (starts.Restarted first) size sender received life_ms i is small least above in (
      record { counted = c; claims = (claims n s _ c).1 },
      record { server_is = refl; client_is = refl; numbers_are = record { next_is = refl; limit_is = refl; hand_is = refl } },
      refl,
    )
starts_in_list claims n s w ahead (starts.Received first highest) size sender received life_ms floor i is small least above =
    let c = both n s w ahead (starts.Received first highest) size sender received life_ms i is small least above in (
      record { counted = c; claims = (claims n s _ c).1 },
      record { server_is = refl; client_is = refl; numbers_are = record { next_is = refl; limit_is = refl; hand_is = refl } },
      refl,
    )
starts_in_list claims n s w ahead (starts.Reserved first highest kept) size sender received life_ms floor i is small least above =
    let c = both n s w ahead (starts.Reserved first highest kept) size sender received life_ms i is small least above in (
      record { counted = c; claims = (claims n s _ c).1 },
      record { server_is = refl; client_is = refl; numbers_are = record { next_is = refl; limit_is = refl; hand_is = refl } },
      refl,
    )
