use Rattle.std.proofs.Common.{◌≡◌, ℕ, Bool, IfSome, List, Ok, Err, Result, Some, ap, length, rules, subst, sym, take, true}
use Rattle.std.specs.Prelude.{IfOk}
use Rattle.osc_coap.specs.Views.{parts_of}
use Rattle.osc_handle.specs.KeptServerBytes.{entry_of_kept_reply}
use Rattle.osc_handle.specs.TicketBytes.{ticket_in}
use Rattle.osc_handle.specs.declared.kept_refusal.KeptReplyRefusal.{KeptReplyRefusal}
use Rattle.osc_kept_ends.specs.Numbering.{Own}
use Rattle.osc_life.specs.ServerHistory.{Entry, History, Notify, Replied}
use Rattle.osc_peer_handle.specs.PeerBytes.{IsSavedAs, IsTicketOf, ServesBehind, StepsAnswering, inside_of}
use Rattle.osc_peer_handle.specs.declared.peer_handle.PeerHandle.{PeerHandle as PeerOf}
use Rattle.osc_examples.proofs.peer_handle.notify_behind_save.Goals as goal

-- What is said of the entry of a notification is said of the text that was sealed.
sealed : (r : Result ℕ KeptReplyRefusal) (out : List ℕ) (Names : Type 0) (Behind : History → Own → Type 0) (Saves : Own → Own → Type 0) (Says : PeerOf → History → Own → Entry → Type 0) (p : PeerOf)
    → (Names → (h : History) (old : Own) → Behind h old → (mid : Own) × Saves old mid × IfSome (entry_of_kept_reply r out) (Says p h mid))
    → IfOk r (λ n. Names → (h : History) → (old : Own) → Behind h old → (mid : Own) × Saves old mid × (between : PeerOf) × Says between h mid (Replied (take n out)))
sealed (Ok n) out Names Behind Saves Says p all = λ names h old behind.
    let x = all names h old behind in
    (x.0, x.1, p, x.2)
sealed (Err e) out Names Behind Saves Says p all = tt

pub returns-in-Some-true : goal.returns-in-Some-true
returns-in-Some-true c =
    let is : c.in-Some-true.field-0 ≡ true = search rules in
    let saved = ap (λ (b : Bool). Some b) is in
    let named = c.in-Some-true.ensures.named saved in
    sealed c.notify.result c.notify.new.out (IsTicketOf c.args.peer.now c.args.ticket.now) (λ h old. ServesBehind c.args.peer.now old h) (λ old mid. IsSavedAs c.args.saved.now.sender old mid)
    (λ p h mid entry. StepsAnswering p h (Notify (ticket_in (inside_of p c.args.ticket.now)) (parts_of c.args.plain.now) (length c.args.out.now)) entry mid c.notify.new.self) c.saved.new.self
    (λ names h old behind.
    let x = c.in-Some-true.ensures.saved saved old behind.has in
    (x.0, x.1, c.notify.ensures.answered (subst (λ n. c.args.ticket.now.context ≡ n) (sym named.2) names.0, subst (λ n. c.args.ticket.now.life ≡ n) (sym named.3) names.1) h x.0 (x.2 h behind)))
