-- Equal Message IDs are far apart.
use Rattle.std.proofs.Common.{◌≡◌, ◌≢◌, ◌⊎◌, ◌∙◌, sym, subst, arith, ℕ, ◌+◌, ◌-◌, ◌/◌, ◌%◌, ◌≤◌, ◌<◌, ◌∷◌, inl, inr}
use Rattle.std.specs.List.{All}
use Rattle.std.proofs.lemmas.List.Elements.{All-nil, All-cons, All-tail}
use Rattle.osc_message.specs.MessageIds.{Counted, Gives, History, Start, Then, counted, clock, given, Lawful, AreApart}

-- what is known of what was given, when the counter stands here
abbrev Behind : ℕ → ℕ → ℕ → (ℕ × ℕ) → Type 0
Behind count entered now a = (a.0 < count) × (a.1 ≤ now)
    × (a.0 / 32768 < (count - 1) / 32768 → a.1 ≤ entered)
    × (a.0 / 32768 + 1 < (count - 1) / 32768 → a.1 + 247000 ≤ entered)

enters : (count entered now later : ℕ) (a : ℕ × ℕ) → 1 ≤ count → entered ≤ now → now ≤ later → count % 32768 ≡ 0 → 247000 ≤ later - entered
    → Behind count entered now a → Behind (count + 1) later later a
enters count entered now later a some e n half long b = (
  omega (arith, b.0),
  omega (arith, b.1, n),
  λ less. omega (arith, b.1, n),
  λ less. let old = b.2 (omega (arith, less, half, some)) in omega (arith, old, long),
)

stays : (count entered now later : ℕ) (a : ℕ × ℕ) → 1 ≤ count → now ≤ later → count % 32768 ≢ 0
    → Behind count entered now a → Behind (count + 1) entered later a
stays count entered now later a some n half b = (
  omega (arith, b.0),
  omega (arith, b.1, n),
  λ less. b.2 (omega (arith, less, half, some)),
  λ less. b.3 (omega (arith, less, half, some)),
)

itself_enters : (count now : ℕ) → Behind (count + 1) now now (count, now)
itself_enters count now = (omega arith, omega arith, λ less. omega (arith, less), λ less. absurd (omega (arith, less)))

itself_stays : (count entered now : ℕ) → Behind (count + 1) entered now (count, now)
itself_stays count entered now = (omega arith, omega arith, λ less. absurd (omega (arith, less)), λ less. absurd (omega (arith, less)))

-- what is known of all that was given
pub record Stands (h : History) : Type 0 where
  pub some : 1 ≤ (counted h).count
  pub before : (counted h).entered ≤ clock h
  pub behind : All (Behind (counted h).count (counted h).entered (clock h)) (given h)

stands_by : (h : History) (now id : ℕ) (after : Counted) → clock h ≤ now → Stands h → (g : Gives (counted h) after now id)
    → (((counted h).count % 32768 ≡ 0) × (247000 ≤ now - (counted h).entered) × (after.entered ≡ now)) ⊎ (((counted h).count % 32768 ≢ 0) × (after.entered ≡ (counted h).entered))
    → Stands (Then h now id after)
stands_by h now id after rising s g (inl (m, long, e)) =
    let c = (counted h).count in
    let P = Behind (c + 1) now now in
    let all = All-cons P (c, now) (given h) (itself_enters c now)
    (λ k d less. enters c (counted h).entered (clock h) now _ s.some s.before rising m long (s.behind k d less)) in
    let here = subst (λ (n : ℕ). All (Behind n now now) ((c, now) ∷ given h)) (sym g.count_is) all in
    record { some = omega (arith, g.count_is); before = omega (arith, e); behind = subst (λ (n : ℕ). All (Behind after.count n now) ((c, now) ∷ given h)) (sym e) here }
stands_by h now id after rising s g (inr (m, e)) =
    let c = (counted h).count in
    let P = Behind (c + 1) (counted h).entered now in
    let all = All-cons P (c, now) (given h) (itself_stays c (counted h).entered now)
    (λ k d less. stays c (counted h).entered (clock h) now _ s.some rising m (s.behind k d less)) in
    let here = subst (λ (n : ℕ). All (Behind n (counted h).entered now) ((c, now) ∷ given h)) (sym g.count_is) all in
    let old = s.before in
    record { some = omega (arith, g.count_is); before = omega (arith, e, old, rising); behind = subst (λ (n : ℕ). All (Behind after.count n now) ((c, now) ∷ given h)) (sym e) here }

pub stands : (h : History) → Lawful h → Stands h
stands (Start first now) l = record { some = omega arith; before = omega arith; behind = All-nil (Behind (first + 1) now now) }
stands (Then h now id after) l = stands_by h now id after l.1 (stands h l.0) l.2 l.2.half

-- the number with an equal remainder is at least two halves before
two_halves : (n count after : ℕ) → n < count → n % 65536 ≡ count % 65536 → after ≡ count + 1 → n / 32768 + 1 < (after - 1) / 32768
two_halves n count after less same e = omega (arith, less, same, e)

pub are_apart : AreApart
are_apart h now id after l = λ k d less same.
    let c = (counted h).count in
    let all = stands (Then h now id after) l in
    let rest = All-tail (Behind after.count after.entered now) (c, now) (given h) all.behind k d less in
    let before = (stands h l.0).behind k d less in
    let far = two_halves _ c after.count before.0 (same ∙ l.2.id_is) l.2.count_is in
    let gone = rest.3 far in
    let entered = all.before in
    omega (arith, gone, entered)
