-- What isn't written has one refusal, and what can be written has none. kind is the number of a kind, p the message, entries are its options.
use Rattle.std.proofs.Common.{◌≡◌, ℕ, ◌+◌, ◌<◌, ◌≤◌, zero, suc, List, [], ◌∷◌, length, take, get_or, refl, ap, sym, subst, ◌∙◌, arith}
use Rattle.std.proofs.lemmas.List.Elements.{All-take}
use Rattle.osc_coap.specs.Datagram.{Parts, IsDatagram}
use Rattle.osc_coap.specs.Laws.{DatagramHasItsLength, OptionsAscend}
use Rattle.osc_coap.specs.OptionSpelling.{Ascends, Entry, marked, spelling_length}
use Rattle.osc_c.specs.Writing.{HaveLengths, IsFirstBad, RefusesWriting, Says, SaysWhich, Unless}
use Rattle.osc_c.specs.Writing.Unless.{here, further}
use Rattle.osc_status.specs.declared.status.Status.{Status}
use Rattle.osc_status.specs.declared.status.Status.TheVariants.{BadNumber, TokenLength, EmptyWithRest, OptionOrder, ValueTooLong, NoRoom}

-- ---- one refusal

-- a status and a detail are one
IsOne : (Status → ℕ → Type 0) → Type 0
IsOne Refuses = (s t : Status) (m n : ℕ) → Refuses s m → Refuses t n → (s ≡ t) × (m ≡ n)

one_unless : (Holds : Type 0) (Refuses Further : Status → ℕ → Type 0) → IsOne Refuses → IsOne Further → IsOne (Unless Holds Refuses Further)
unfolding IsOne
one_unless holds refuses on first rest s t m n (here bad x) (here other y) = first s t m n x y
one_unless holds refuses on first rest s t m n (here bad x) (further good y) = absurd (bad good)
one_unless holds refuses on first rest s t m n (further good x) (here bad y) = absurd (bad good)
one_unless holds refuses on first rest s t m n (further good x) (further other y) = rest s t m n x y

one_says : (name : Status) → IsOne (Says name)
unfolding IsOne
one_says name s t m n x y = (x.0 ∙ sym y.0, x.1 ∙ sym y.1)

take_within : (m k : ℕ) (entries : List Entry) → m ≤ k → take m (take k entries) ≡ take m entries
take_within zero k entries le = refl
take_within (suc m) zero entries le = absurd (omega arith)
take_within (suc m) (suc k) [] le = refl
take_within (suc m) (suc k) (e ∷ entries) le = ap (λ (z : List Entry). e ∷ z) (take_within m k entries (omega arith))

one_which : (name : Status) (AreGood : List Entry → Type 0) (entries : List Entry) → ((k : ℕ) (es : List Entry) → AreGood es → AreGood (take k es)) → IsOne (SaysWhich name AreGood entries)
unfolding IsOne
one_which name AreGood entries closed s t m n x y =
    let before : m < n → ⊥ = earlier m n x.1 y.1 in
    let behind : n < m → ⊥ = earlier n m y.1 x.1 in
    (x.0 ∙ sym y.0, omega (arith, before, behind))
  where
    earlier : (i k : ℕ) → IsFirstBad AreGood entries i → IsFirstBad AreGood entries k → i < k → ⊥
    earlier i k a b less = a.bad (subst AreGood (take_within (i + 1) k entries (omega arith)) (closed (i + 1) (take k entries) b.before))

ascends_take : (k d : ℕ) (entries : List Entry) → Ascends d entries → Ascends d (take k entries)
ascends_take zero d entries up = tt
ascends_take (suc k) d [] up = tt
ascends_take (suc k) d (e ∷ entries) up = (up.0, up.1, ascends_take k e.0 entries up.2)

-- where one of the options is the first that comes late, they don't ascend
pub none_ascend : (entries : List Entry) (n : ℕ) → IsFirstBad (Ascends 0) entries n → Ascends 0 entries → ⊥
none_ascend entries n first up = first.bad (ascends_take (n + 1) 0 entries up)

-- where one is the first that is too long, an option can't say each length
pub none_short : (entries : List Entry) (n : ℕ) → IsFirstBad HaveLengths entries n → HaveLengths entries → ⊥
none_short entries n first short = first.bad (All-take (λ (e : Entry). length e.1 ≤ 65804) (n + 1) entries short)

-- a message has one refusal
pub one_refusal : (kind : ℕ) (p : Parts) (room : ℕ) (s t : Status) (m n : ℕ) → RefusesWriting kind p room s m → RefusesWriting kind p room t n → (s ≡ t) × (m ≡ n)
unfolding IsOne
one_refusal kind p room =
    one_unless _ _ _ (one_says BadNumber) (one_unless _ _ _ (one_says TokenLength) (one_unless _ _ _ (one_says EmptyWithRest)
    (one_unless _ _ _ (one_which OptionOrder (Ascends 0) p.options (λ k es. ascends_take k 0 es))
    (one_unless _ _ _ (one_which ValueTooLong HaveLengths p.options (λ k es. All-take (λ (e : Entry). length e.1 ≤ 65804) k es))
    (one_unless _ _ _ (one_says NoRoom) (λ s t m n x y. absurd x))))))

-- ---- what can be written

none_spelled : (d : ℕ) (entries : List Entry) → spelling_length d entries ≡ 0 → entries ≡ []
none_spelled d [] none = refl
none_spelled d (e ∷ entries) none = absurd (omega (arith, none))

none_marked : (payload : List ℕ) → length (marked payload) ≡ 0 → payload ≡ []
none_marked [] none = refl
none_marked (x ∷ payload) none = absurd (omega (arith, none))

none_there : (bytes : List ℕ) → length bytes ≡ 0 → bytes ≡ []
none_there [] none = refl
none_there (x ∷ bytes) none = absurd (omega (arith, none))

value_within : (d : ℕ) (entries : List Entry) (k : ℕ) (other : Entry) → k < length entries → length (get_or entries k other).1 ≤ spelling_length d entries
value_within d [] k other less = absurd (omega arith)
value_within d (e ∷ entries) zero other less = omega arith
value_within d (e ∷ entries) (suc k) other less = let rest = value_within e.0 entries k other (omega arith) in omega (arith, rest)

-- what is a datagram, and has room, isn't refused
pub is_written : DatagramHasItsLength → OptionsAscend → (kind : ℕ) (p : Parts) (room : ℕ) (status : Status) (detail : ℕ) (bytes : List ℕ) → kind ≤ 3 → IsDatagram p bytes → length bytes ≤ room
    → RefusesWriting kind p room status detail → ⊥
is_written long up kind p room status detail bytes k h fits (here bad x) = bad k
is_written long up kind p room status detail bytes k h fits (further _ (here bad x)) = bad h.token
is_written long up kind p room status detail bytes k h fits (further _ (further _ (here bad x))) = bad (λ empty.
    let four = h.empty empty in
    let all = long p bytes h in
    (none_there p.token (omega (arith, four, all)), none_spelled 0 p.options (omega (arith, four, all)), none_marked p.payload (omega (arith, four, all))))
is_written long up kind p room status detail bytes k h fits (further _ (further _ (further _ (here bad x)))) = bad (up p bytes h)
is_written long up kind p room status detail bytes k h fits (further _ (further _ (further _ (further _ (here bad x))))) = bad (λ i other less.
    let within = value_within 0 p.options i other less in
    let all = long p bytes h in
    let most = h.fits in
    omega (arith, within, all, most))
is_written long up kind p room status detail bytes k h fits (further _ (further _ (further _ (further _ (further _ (here bad x)))))) =
    let all = long p bytes h in
    let most = h.fits in
    bad (omega (arith, all, fits), omega (arith, all, most))
is_written long up kind p room status detail bytes k h fits (further _ (further _ (further _ (further _ (further _ (further _ x)))))) = x
