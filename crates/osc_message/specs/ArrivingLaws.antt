-- To be believed: what holds of the messages that came, over every history (RFC 7252, 4.5 and 5.2). h is a history, n the number of a message.
use Rattle.std.specs.Prelude.{◌≡◌, ◌⊎◌, ◌≤◌, ℕ, Some, nat_eq, slice_get}
use Rattle.std.specs.List.{count_by}
use Rattle.osc_message.specs.Arriving.{Acked, History, Lawful, Noted, Replied, Start, Then, arrived, late_acks, replies}
use Rattle.osc_message.specs.Hearing.{Heard, again_of}
use Rattle.osc_message.specs.declared.arrival.Again.TheVariants as again
use Rattle.osc_message.specs.declared.arrival.Stage.TheVariants.{Done}

-- this message was answered (RFC 7252, 5.2)
abbrev pub WasAnswered : History → ℕ → Type 0
WasAnswered (Start places) n = ⊥
WasAnswered (Then h (Replied place x) after) n = (x.number ≡ n) ⊎ WasAnswered h n
WasAnswered (Then h event after) n = WasAnswered h n

-- an empty ACK was sent for this message: by itself, or as it came (RFC 7252, 5.2.2)
abbrev pub WasAcked : History → ℕ → Type 0
WasAcked (Start places) n = ⊥
WasAcked (Then h (Acked place x now) after) n = (x.number ≡ n) ⊎ WasAcked h n
WasAcked (Then h (Noted place before x) after) n = ((x.number ≡ n) × (x.stage ≡ Done)) ⊎ WasAcked h n
WasAcked (Then h event after) n = WasAcked h n

-- over every history, what a message gets that comes again was sent for it: an answer only where it was answered, an ACK only where one was sent
-- (RFC 7252, 4.5)
abbrev pub GetsWhatWasSent : Type 0
GetsWhatWasSent = (h : History) (i : ℕ) (x : Heard) → Lawful h → slice_get (arrived h).places i ≡ Some (Some x)
    → (again_of x ≡ again.Resend → WasAnswered h x.number) × (again_of x ≡ again.Acknowledge → WasAcked h x.number)

-- over every history, a message is answered once at most (RFC 7252, 5.2)
abbrev pub AnsweredOnce : Type 0
AnsweredOnce = (h : History) (n : ℕ) → Lawful h → count_by (λ m. nat_eq m n) (replies h) ≤ 1

-- over every history, the ACK of a message goes out by itself once at most (RFC 7252, 5.2.2)
abbrev pub AckedOnce : Type 0
AckedOnce = (h : History) (n : ℕ) → Lawful h → count_by (λ m. nat_eq m n) (late_acks h) ≤ 1
