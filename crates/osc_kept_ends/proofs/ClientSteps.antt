-- What a call adds to the history of a kept client, and does to its numbers: c is the client before, k after; old, mid and new are the numbers
-- before, behind a draw, and after.
use Rattle.std.proofs.Common.{◌≡◌, ℕ, ◌+◌, ◌<◌, ◌^◌, ◌∙◌, sym, ap, subst, refl, true, Some, List}
use Rattle.osc_coap.specs.Datagram.{Parts}
use Rattle.osc_client.specs.declared.client.Client.{Client}
use Rattle.osc_client.specs.declared.client_outcome.RequestError.{RequestError}
use Rattle.osc_client.specs.Agrees.{ClientAgrees}
use Rattle.osc_client.specs.ClientAnswer.{ClientAnswer}
use Rattle.osc_client.specs.ClientHistory.{History, Then, Request, Sent, NotSent, next}
use Rattle.osc_kept_ends.specs.KeptAsking.{IsKept, KeptStep}
use Rattle.osc_kept_ends.specs.Numbering.{Own, Draws, Use, after, upcoming}
use Rattle.osc_kept_ends.proofs.Drawing.{in_hand, upcoming_stays}

-- a request that is refused
pub request_refused : {N : ℕ} (c k : Client N) (h : History) (now : ℕ) (p : Parts) (room : ℕ) (e : RequestError) (old new : Own)
    → IsKept c (upcoming old) h → ClientAnswer N h (Request now p room) (NotSent e) → ClientAgrees k (Then h (Request now p room) (NotSent e))
    → Draws true old new → KeptStep h (Request now p room) (NotSent e) old new k
request_refused c k h now p room e old new kept row a drawn =
    record {
      row = row;
      kept = record { agrees = a; next_is = kept.next_is ∙ sym (upcoming_stays true old new drawn) };
      numbers = (new, drawn, (tt, refl));
    }

-- the number of a request that is sealed is in hand behind the draw
pub sent_hand : {N : ℕ} (c : Client N) (h : History) (now : ℕ) (p : Parts) (room : ℕ) (bytes : List ℕ) (old mid : Own)
    → IsKept c (upcoming old) h → ClientAnswer N h (Request now p room) (Sent bytes) → Draws true old mid → mid.hand ≡ Some (next h)
sent_hand c h now p room bytes old mid kept row drawn =
    let below : upcoming old < 2 ^ 40 = subst (λ x. x < 2 ^ 40) kept.next_is row.0.2 in
    in_hand old mid drawn below ∙ ap Some (sym kept.next_is)

-- a request that is sealed
pub request_sent : {N : ℕ} (c k : Client N) (h : History) (now : ℕ) (p : Parts) (room : ℕ) (bytes : List ℕ) (old mid new : Own)
    → IsKept c (upcoming old) h → ClientAnswer N h (Request now p room) (Sent bytes) → ClientAgrees k (Then h (Request now p room) (Sent bytes))
    → Draws true old mid → ((n : ℕ) → mid.hand ≡ Some n → n + 1 ≡ mid.next) → ((n : ℕ) → new ≡ after (Use n) mid)
    → KeptStep h (Request now p room) (Sent bytes) old new k
request_sent c k h now p room bytes old mid new kept row a drawn last used =
    let hand : mid.hand ≡ Some (next h) = sent_hand c h now p room bytes old mid kept row drawn in
    record {
      row = row;
      kept = record { agrees = a; next_is = last (next h) hand ∙ sym (ap upcoming (used (next h))) };
      numbers = (mid, drawn, (hand, used (next h)));
    }
