-- What a message gets that comes again was sent for it.
use Rattle.std.proofs.Common.{◌≡◌, ◌⊎◌, sym, subst, refl, arith, ℕ, Bool, true, false, Some, inl, inr}
use Rattle.std.specs.Prelude.{Option, if◌then◌else◌}
use Rattle.osc_message.specs.declared.arrival.Again.TheVariants as again
use Rattle.osc_message.specs.declared.arrival.Stage.{Stage}
use Rattle.osc_message.specs.declared.arrival.Stage.TheVariants.{Waiting, Acknowledged, Answered, Done}
use Rattle.osc_message.specs.Arriving.{Acked, Came, Event, History, Lawful, Noted, Replied, Start, Then, arrived}
use Rattle.osc_message.specs.ArrivingLaws.{GetsWhatWasSent, WasAcked, WasAnswered}
use Rattle.osc_message.specs.Hearing.{Heard, acknowledged, again_at, answered, answered_at, is_done_at}
use Rattle.osc_message.specs.Slots.{IsAt, Puts}
use Rattle.osc_message.proofs.Walking.{none_yet, one_of, puts_at}

-- what was sent for a message, by what is kept of it
abbrev Sent : History → ℕ → Bool → Stage → Type 0
Sent h n confirmable Waiting = Unit {0}
Sent h n confirmable Acknowledged = WasAcked h n
Sent h n confirmable Answered = WasAnswered h n
Sent h n true Done = WasAcked h n
Sent h n false Done = Unit {0}

abbrev AreSent : History → Type 0
AreSent h = (i : ℕ) (x : Heard) → IsAt (arrived h).places i x → Sent h x.number x.confirmable x.stage

-- what was sent stays sent
kept : (h : History) (event : Event) (t : Came) (n : ℕ) (confirmable : Bool) (stage : Stage) → Sent h n confirmable stage → Sent (Then h event t) n confirmable stage
kept h event t n confirmable Waiting sent = tt
kept h (Noted place before x) t n confirmable Acknowledged sent = inr sent
kept h (Acked place x now) t n confirmable Acknowledged sent = inr sent
kept h (Replied place x) t n confirmable Acknowledged sent = sent
kept h (Noted place before x) t n confirmable Answered sent = sent
kept h (Acked place x now) t n confirmable Answered sent = sent
kept h (Replied place x) t n confirmable Answered sent = inr sent
kept h (Noted place before x) t n true Done sent = inr sent
kept h (Acked place x now) t n true Done sent = inr sent
kept h (Replied place x) t n true Done sent = sent
kept h event t n false Done sent = tt

-- an ACK is all that was sent for one for which all was sent
done_sent : (h : History) (n : ℕ) (confirmable : Bool) → WasAcked h n → Sent h n confirmable Done
done_sent h n true acked = acked
done_sent h n false acked = tt

sent_by : (h : History) (event : Event) (t : Came) (place : ℕ) (before : Option Heard) (z : Heard) → Puts (arrived h).places t.places place before (Some z) → AreSent h
    → Sent (Then h event t) z.number z.confirmable z.stage → AreSent (Then h event t)
sent_by h event t place before z p old put i y there = elim (puts_at (arrived h).places t.places place i before (Some z) (Some y) p there) [
  | inl it ↦
      let P : Heard → Type 0 = λ w. Sent (Then h event t) w.number w.confirmable w.stage in
      subst P (one_of z y it.1) put
  | inr it ↦ kept h event t y.number y.confirmable y.stage (old i y it.1)
]

noted_sent : (h : History) (t : Came) (place : ℕ) (before : Option Heard) (x : Heard) → (x.stage ≡ Waiting) ⊎ (x.stage ≡ Done)
    → Sent (Then h (Noted place before x) t) x.number x.confirmable x.stage
noted_sent h t place before x (inl e) =
    let P : Stage → Type 0 = λ stage. Sent (Then h (Noted place before x) t) x.number x.confirmable stage in
    subst P (sym e) tt
noted_sent h t place before x (inr e) =
    let P : Stage → Type 0 = λ stage. Sent (Then h (Noted place before x) t) x.number x.confirmable stage in
    subst P (sym e) (done_sent (Then h (Noted place before x) t) x.number x.confirmable (inl (refl, e)))

replied_sent : (h : History) (t : Came) (place : ℕ) (x : Heard) (stage : Stage) (confirmable : Bool) → Sent h x.number confirmable stage
    → is_done_at stage ≡ false → Sent (Then h (Replied place x) t) x.number confirmable (answered_at stage confirmable)
replied_sent h t place x Waiting true sent e = inl refl
replied_sent h t place x Waiting false sent e = tt
replied_sent h t place x Acknowledged confirmable sent e = done_sent (Then h (Replied place x) t) x.number confirmable sent
replied_sent h t place x Answered confirmable sent e = absurd (grind (arith, e))
replied_sent h t place x Done confirmable sent e = absurd (grind (arith, e))

are_sent : (h : History) → Lawful h → AreSent h
are_sent (Start k) l = λ i x there. absurd (none_yet k i x there)
are_sent (Then h (Noted place before x) t) l =
    sent_by h (Noted place before x) t place before x l.1.puts (are_sent h l.0) (noted_sent h t place before x l.1.stage)
are_sent (Then h (Acked place x now) t) l =
    sent_by h (Acked place x now) t place (Some x) (acknowledged x) l.1.0.puts (are_sent h l.0) (inl refl)
are_sent (Then h (Replied place x) t) l =
    sent_by h (Replied place x) t place (Some x) (answered x) l.1.0.puts (are_sent h l.0)
    (replied_sent h t place x x.stage x.confirmable (are_sent h l.0 place x l.1.0.puts.there) l.1.1)

-- what it gets
resent : (h : History) (n : ℕ) (confirmable : Bool) (stage : Stage) → Sent h n confirmable stage → (if confirmable then again_at stage else again.Nothing) ≡ again.Resend → WasAnswered h n
resent h n true Answered sent e = sent
resent h n true Waiting sent e = absurd (grind (arith, e))
resent h n true Acknowledged sent e = absurd (grind (arith, e))
resent h n true Done sent e = absurd (grind (arith, e))
resent h n false stage sent e = absurd (grind (arith, e))

reacked : (h : History) (n : ℕ) (confirmable : Bool) (stage : Stage) → Sent h n confirmable stage → (if confirmable then again_at stage else again.Nothing) ≡ again.Acknowledge → WasAcked h n
reacked h n true Acknowledged sent e = sent
reacked h n true Done sent e = sent
reacked h n true Waiting sent e = absurd (grind (arith, e))
reacked h n true Answered sent e = absurd (grind (arith, e))
reacked h n false stage sent e = absurd (grind (arith, e))

pub gets_what_was_sent : GetsWhatWasSent
gets_what_was_sent h i x l there =
    let sent = are_sent h l i x there in
    (resent h x.number x.confirmable x.stage sent, reacked h x.number x.confirmable x.stage sent)
