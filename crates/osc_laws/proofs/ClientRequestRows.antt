-- That a client has one answer to a request.
use Rattle.std.proofs.Common.{◌≡◌, ℕ, ◌≤◌, ◌^◌, ◌⊎◌, ◌∙◌, sym, ap, refl, arith, List, length, inl, inr}
use Rattle.std.proofs.lemmas.Bool.{both_ways}
use Rattle.osc_coap.specs.Datagram.{Parts}
use Rattle.osc_protect.specs.Protection.{requests}
use Rattle.osc_protect.specs.SealRefusals.{IsPlainRequest, RefusesToSeal}
use Rattle.osc_protect.specs.Sealed.{SealsRequest}
use Rattle.osc_protect.specs.declared.protect_error.ProtectError.{ProtectError}
use Rattle.osc_protect.specs.declared.protect_error.ProtectError.TheVariants as seals
use Rattle.osc_client.specs.declared.client_outcome.RequestError.TheVariants.{NotThatKind, Unsupported, TokenInUse, PendingFull, SequenceExhausted, TooLong, NoRoom}
use Rattle.osc_laws.specs.AnswerLaws.{ClientAnswerLaws}
use Rattle.osc_client.specs.ClientAnswer.{CanAsk, HasPlace, IsAmong, IsFull, IsNewRequest, RequestAnswer, staying}
use Rattle.osc_client.specs.ClientHistory.{Entry, History, NotSent, Sent, context, next}
use Rattle.osc_client.specs.Requesting.{lifted}
use Rattle.osc_laws.proofs.LifeReplies.{unsupported_among}

-- the request isn't one that can be sealed
record IsBarred (h : History) (p : Parts) (room : ℕ) (entry : Entry) : Type 0 where
  pub refusal : ProtectError
  pub refuses : RefusesToSeal (requests (context h)) (next h) p room refusal
  pub never : IsPlainRequest (context h).features p → ⊥
  pub entry_is : entry ≡ NotSent (lifted refusal)

-- it isn't sealed, and not for its token, nor for want of room among those pending, nor of a number
record IsRefused (n : ℕ) (h : History) (moment : ℕ) (p : Parts) (room : ℕ) (entry : Entry) : Type 0 where
  pub refusal : ProtectError
  pub refuses : RefusesToSeal (requests (context h)) (next h) p room refusal
  pub can : CanAsk n h moment p
  pub entry_is : entry ≡ NotSent (lifted refusal)

-- it is for one of these
abbrev IsHindered : ℕ → History → ℕ → Parts → Entry → Type 0
IsHindered n h moment p (NotSent TokenInUse) = IsPlainRequest (context h).features p × IsAmong p.token (staying h moment p)
IsHindered n h moment p (NotSent PendingFull) = IsNewRequest h moment p × IsFull n h moment p
IsHindered n h moment p (NotSent SequenceExhausted) = IsNewRequest h moment p × HasPlace n h moment p × (2 ^ 40 ≤ next h)
IsHindered n h moment p entry = ⊥

-- it is sealed
record IsSent (n : ℕ) (h : History) (moment : ℕ) (p : Parts) (room : ℕ) (entry : Entry) : Type 0 where
  pub bytes : List ℕ
  pub can : CanAsk n h moment p
  pub seals : SealsRequest (context h) (next h) p bytes
  pub fits : length bytes ≤ room
  pub entry_is : entry ≡ Sent bytes

module _ (laws : ClientAnswerLaws) (n : ℕ) (h : History) (moment : ℕ) (p : Parts) (room : ℕ) where
  -- the request can be sealed, if there is room
  abbrev Goes : Entry → Type 0
  Goes x = IsRefused n h moment p room x ⊎ (IsHindered n h moment p x ⊎ IsSent n h moment p room x)

  -- each row is one of these
  sort_of : (x : Entry) → RequestAnswer n h moment p room x → IsBarred h p room x ⊎ Goes x
  sort_of (NotSent NotThatKind) row = inl (record { refusal = seals.NotThatKind; refuses = row; never = λ plain. both_ways _ row plain.0; entry_is = refl })
  sort_of (NotSent (Unsupported k)) row =
      inl (record {
        refusal = seals.Unsupported k;
        refuses = row;
        never = λ plain. both_ways _ plain.1 (unsupported_among (context h).features k p.options row.1.unsupported row.1.among);
        entry_is = refl;
      })
  sort_of (NotSent TokenInUse) row = inr (inr (inl row))
  sort_of (NotSent PendingFull) row = inr (inr (inl row))
  sort_of (NotSent SequenceExhausted) row = inr (inr (inl row))
  sort_of (NotSent TooLong) row = inr (inl (record { refusal = seals.TooLong; refuses = row.1; can = row.0; entry_is = refl }))
  sort_of (NotSent NoRoom) row = inr (inl (record { refusal = seals.NoRoom; refuses = row.1; can = row.0; entry_is = refl }))
  sort_of (Sent bytes) row = inr (inr (inr (record { bytes = bytes; can = row.0; seals = row.1; fits = row.2; entry_is = refl })))
  sort_of x row = absurd row

  -- there is a place, or there is none
  one_or_other : HasPlace n h moment p → IsFull n h moment p → ⊥
  one_or_other place (inl full) = let room = place.0 in omega (arith, full, room)
  one_or_other place (inr crowded) = place.1 crowded

  plain_of : (x : Entry) → IsHindered n h moment p x → IsPlainRequest (context h).features p
  plain_of (NotSent TokenInUse) row = row.0
  plain_of (NotSent PendingFull) row = row.0.0
  plain_of (NotSent SequenceExhausted) row = row.0.0
  plain_of x row = absurd row

  -- such a request isn't barred
  not_barred : (x y : Entry) → IsBarred h p room x → Goes y → ⊥
  not_barred x y a (inl b) = a.never b.can.0.0
  not_barred x y a (inr (inl b)) = a.never (plain_of y b)
  not_barred x y a (inr (inr b)) = a.never b.can.0.0

  no_way : (x : Entry) → IsHindered n h moment p x → CanAsk n h moment p → ⊥
  no_way (NotSent TokenInUse) row can = can.0.1 row.1
  no_way (NotSent PendingFull) row can = one_or_other can.1 row.1
  no_way (NotSent SequenceExhausted) row can = let none = row.2 in let left = can.2 in omega (arith, none, left)
  no_way x row can = absurd row

  one_hindered : (x y : Entry) → IsHindered n h moment p x → IsHindered n h moment p y → x ≡ y
  one_hindered (NotSent TokenInUse) (NotSent TokenInUse) a b = refl
  one_hindered (NotSent TokenInUse) (NotSent PendingFull) a b = absurd (b.0.1 a.1)
  one_hindered (NotSent TokenInUse) (NotSent SequenceExhausted) a b = absurd (b.0.1 a.1)
  one_hindered (NotSent PendingFull) (NotSent TokenInUse) a b = absurd (a.0.1 b.1)
  one_hindered (NotSent PendingFull) (NotSent PendingFull) a b = refl
  one_hindered (NotSent PendingFull) (NotSent SequenceExhausted) a b = absurd (one_or_other b.1 a.1)
  one_hindered (NotSent SequenceExhausted) (NotSent TokenInUse) a b = absurd (a.0.1 b.1)
  one_hindered (NotSent SequenceExhausted) (NotSent PendingFull) a b = absurd (one_or_other a.1 b.1)
  one_hindered (NotSent SequenceExhausted) (NotSent SequenceExhausted) a b = refl
  one_hindered (NotSent TokenInUse) y a b = absurd b
  one_hindered (NotSent PendingFull) y a b = absurd b
  one_hindered (NotSent SequenceExhausted) y a b = absurd b
  one_hindered x y a b = absurd a

  no_refused : (x y : Entry) → IsRefused n h moment p room x → IsSent n h moment p room y → ⊥
  no_refused x y a b = (laws.sealed.request (context h)).never_both (next h) p room b.bytes a.refusal b.seals b.fits a.refuses

  one_barred : (x y : Entry) → IsBarred h p room x → IsBarred h p room y → x ≡ y
  one_barred x y a b =
      let same : a.refusal ≡ b.refusal = (laws.sealed.request (context h)).refusal (next h) p room a.refusal b.refusal a.refuses b.refuses in
      a.entry_is ∙ ap (λ e. NotSent (lifted e)) same ∙ sym b.entry_is

  one_refused : (x y : Entry) → IsRefused n h moment p room x → IsRefused n h moment p room y → x ≡ y
  one_refused x y a b =
      let same : a.refusal ≡ b.refusal = (laws.sealed.request (context h)).refusal (next h) p room a.refusal b.refusal a.refuses b.refuses in
      a.entry_is ∙ ap (λ e. NotSent (lifted e)) same ∙ sym b.entry_is

  one_sent : (x y : Entry) → IsSent n h moment p room x → IsSent n h moment p room y → x ≡ y
  one_sent x y a b =
      let same : a.bytes ≡ b.bytes = (laws.sealed.request (context h)).bytes (next h) p a.bytes b.bytes a.seals b.seals in
      a.entry_is ∙ ap Sent same ∙ sym b.entry_is

  one_going : (x y : Entry) → Goes x → Goes y → x ≡ y
  one_going x y (inl a) (inl b) = one_refused x y a b
  one_going x y (inl a) (inr (inl b)) = absurd (no_way y b a.can)
  one_going x y (inl a) (inr (inr b)) = absurd (no_refused x y a b)
  one_going x y (inr (inl a)) (inl b) = absurd (no_way x a b.can)
  one_going x y (inr (inl a)) (inr (inl b)) = one_hindered x y a b
  one_going x y (inr (inl a)) (inr (inr b)) = absurd (no_way x a b.can)
  one_going x y (inr (inr a)) (inl b) = absurd (no_refused y x b a)
  one_going x y (inr (inr a)) (inr (inl b)) = absurd (no_way y b a.can)
  one_going x y (inr (inr a)) (inr (inr b)) = one_sent x y a b

  by_sorts : (x y : Entry) → IsBarred h p room x ⊎ Goes x → IsBarred h p room y ⊎ Goes y → x ≡ y
  by_sorts x y (inl a) (inl b) = one_barred x y a b
  by_sorts x y (inl a) (inr b) = absurd (not_barred x y a b)
  by_sorts x y (inr a) (inl b) = absurd (not_barred y x b a)
  by_sorts x y (inr a) (inr b) = one_going x y a b

  -- they don't overlap, and each fixes its entry
  pub one_request_answer : (x y : Entry) → RequestAnswer n h moment p room x → RequestAnswer n h moment p room y → x ≡ y
  one_request_answer x y row other = by_sorts x y (sort_of x row) (sort_of y other)
