-- A line that puts another context in the place of an end's is read as it is spelled.
use Rattle.std.proofs.Common.{◌≡◌, ◌⊎◌, ℕ, ◌<◌, ◌^◌, Bool, true, false, List, [], ◌∷◌, ◌++◌, All, codes, length, Option, Some, None, option_map, refl, sym, ap, ap₂, subst, ◌∙◌, inl, inr}
use Rattle.std.specs.Prelude.{if◌then◌else◌, unwrap_or, bytes_eq}
use Rattle.std.specs.Option.{IsSomeAnd}
use Rattle.std.proofs.Math.Bridge.{le_prop}
use Rattle.std.specs.List.{AllPass}
use Rattle.std.proofs.lemmas.Bool.{cases_Bool, cond-false, cond-true}
use Rattle.std.proofs.lemmas.Slice.Eq.{bytes_eq-Decides}
use Rattle.std.proofs.lemmas.List.Elements.{All-head}
use Rattle.hex.specs.Hex.{is_hex_digit}
use Rattle.hex.proofs.HexLemmas.{decode_of-ok}
use Rattle.osc_context.specs.ContextRefusal.{RefusesParams}
use Rattle.osc_context.specs.SecurityContext.{SecurityContext}
use Rattle.osc_context.specs.Views.{client_context_of, number_of, server_context_of}
use Rattle.osc_context.specs.declared.context.Context.{Context}
use Rattle.osc_context.specs.declared.context_error.ContextError.{ContextError}
use Rattle.osc_context.specs.declared.context_error.ContextError.TheVariants.{IdContextLength, IdTooLong, SaltLength, SameIds, SecretLength}
use Rattle.osc_context.specs.declared.parameters.Params.{Params}
use Rattle.osc_context.specs.declared.partial_iv.Piv.{Piv}
use Rattle.osc_life.specs.declared.start.Start.{Start}
use Rattle.osc_life.specs.declared.start.Start.TheVariants as starts
use Rattle.osc_text.specs.AskedEvents.{AskedEvent, SpellsAsked}
use Rattle.osc_text.specs.AskedReading.{asked_read, asked_verb_read}
use Rattle.osc_text.specs.InputEvents.{InputEvent, SpellsEvent}
use Rattle.osc_text.specs.InputReading.{SpellsNone, bytes_read, number_read, split_once}
use Rattle.osc_text.specs.Inputs.{SaysBelow, SaysBytes, parted}
use Rattle.osc_text.specs.PeerReading.{three_read}
use Rattle.osc_text.specs.ReplaceEvents.{Event, HasKeying, Keying, MakesContext, Replace, SaysIdContext, SaysKeying, SaysStart, Six, SpellsAsking, SpellsReplace, SpellsServing, client_by, server_by}
use Rattle.osc_text.specs.ReplaceReading.{CanBeSaid, DerivesBy, ReadsContext, ReplacesNone, id_context_read, keying_of, keying_read, replace_read, six_read, start_of_words, start_read, start_seen}
use Rattle.osc_text.specs.ServedReading.{event_read, four_read, verb_read}
use Rattle.osc_text.proofs.AskedSpellings.{client_inverse}
use Rattle.osc_text.proofs.InputLines.{OneSpelling}
use Rattle.osc_text.proofs.InputSpellings.{bytes_say, four_parted, four_split, map_some, no_space_hex, no_space_test, number_says, one_spelling, says_bytes, says_number, server_inverse, spells_ok, then_some}
use Rattle.osc_text.proofs.InputWords.{IsNot, split_at, split_parts}
use Rattle.osc_text.proofs.PeerSpellings.{three_parted, three_split}

-- ---- words

no_space_bytes : (w bytes : List ℕ) → SaysBytes w bytes → All (IsNot 32) w
no_space_bytes w [] s = subst (All (IsNot 32)) (sym s) (no_space_test (codes "-") refl)
no_space_bytes w (b ∷ bytes) s = no_space_hex w (b ∷ bytes) s

no_space_id_context : (w : List ℕ) (c : Option (List ℕ)) → SaysIdContext w c → All (IsNot 32) w
no_space_id_context w None s = subst (All (IsNot 32)) (sym s) (no_space_test (codes "none") refl)
no_space_id_context w (Some bytes) s = no_space_bytes w bytes s

-- the line of six words
abbrev line_of : Six → List ℕ
line_of w = parted (codes "replace" ∷ w.0 ∷ w.1 ∷ w.2 ∷ w.3 ∷ w.4 ∷ w.5 ∷ [])

-- six words that say what a context is derived from are read as they are parted
pub said_words : (w : Six) (k : Keying) → SaysKeying w k → replace_read (line_of w) ≡ Some w
unfolding replace_read six_read
said_words w k (a, b, c, d, e) =
    rw (
      split_at 32 (codes "replace") (parted (w.0 ∷ w.1 ∷ w.2 ∷ w.3 ∷ w.4 ∷ w.5 ∷ [])) (no_space_test (codes "replace") refl),
      four_split w.0 w.1 w.2 (parted (w.3 ∷ w.4 ∷ w.5 ∷ [])) (no_space_bytes w.0 k.secret a) (no_space_bytes w.1 k.salt b) (no_space_bytes w.2 k.sender c),
      three_split w.3 w.4 w.5 (no_space_bytes w.3 k.recipient d) (no_space_id_context w.4 k.id_context e),
    ) refl

six_parted : (fields : List ℕ) (w : Six) → six_read fields ≡ Some w → fields ≡ parted (w.0 ∷ w.1 ∷ w.2 ∷ w.3 ∷ w.4 ∷ w.5 ∷ [])
unfolding six_read
six_parted fields w h =
    let p = then_some _ (four_read fields) w h in
    let q = map_some _ (three_read p.0.3) w p.2 in
    let a = four_parted fields p.0 p.1 in
    let b = three_parted p.0.3 q.0 q.1 in
    subst (λ (x : Six). fields ≡ parted (x.0 ∷ x.1 ∷ x.2 ∷ x.3 ∷ x.4 ∷ x.5 ∷ [])) q.2 (a ∙ ap (λ (t : List ℕ). parted (p.0.0 ∷ p.0.1 ∷ p.0.2 ∷ t ∷ [])) b)

chosen : (verb fields : List ℕ) (w : Six) → (if bytes_eq verb (codes "replace") then six_read fields else None) ≡ Some w → verb ++ 32 ∷ fields ≡ line_of w
chosen verb fields w h = elim (cases_Bool (bytes_eq verb (codes "replace"))) [
  | inl is ↦
      let six = six_parted fields w (sym (cond-true _ _ _ is) ∙ h) in
      ap₂ (λ (v t : List ℕ). v ++ 32 ∷ t) ((bytes_eq-Decides verb (codes "replace")).0 is) six
  | inr other ↦ let bad : None ≡ Some w = sym (cond-false _ _ _ other) ∙ h in cc bad
]

-- the words that were read are those of the line
pub words_said : (line : List ℕ) (w : Six) → replace_read line ≡ Some w → line ≡ line_of w
unfolding replace_read
words_said line w h =
    let p = then_some _ (split_once 32 line) w h in
    (split_parts 32 line p.0 p.1).0 ∙ chosen p.0.0 p.0.1 w p.2

-- ---- what a context is derived from

id_context_says : (w : List ℕ) (c : Option (List ℕ)) → id_context_read w ≡ Some c → SaysIdContext w c
unfolding id_context_read
id_context_says w c h = elim (cases_Bool (bytes_eq w (codes "none"))) [
  | inl is ↦
      let same : Some None ≡ Some c = sym (cond-true _ _ _ is) ∙ h in
      subst (SaysIdContext w) (ap (λ (o : Option (Option (List ℕ))). unwrap_or o None) same) ((bytes_eq-Decides w (codes "none")).0 is)
  | inr other ↦
      let p = map_some Some (bytes_read w) c (sym (cond-false _ _ _ other) ∙ h) in
      subst (SaysIdContext w) p.2 (bytes_say w p.0 p.1)
]

not_hex : (w bytes : List ℕ) → SaysBytes w bytes → w ≡ codes "none" → ⊥
not_hex w [] s is = let bad : codes "none" ≡ codes "-" = sym is ∙ s in cc bad
not_hex w (b ∷ bytes) s is =
    let pass = (decode_of-ok w (b ∷ bytes) (spells_ok w (b ∷ bytes) s)).1 in
    let bad : is_hex_digit 110 ≡ true = All-head (λ (d : ℕ). is_hex_digit d ≡ true) 110 (codes "one") (subst (AllPass is_hex_digit) is pass) in
    cc bad

says_id_context : (w : List ℕ) (c : Option (List ℕ)) → SaysIdContext w c → id_context_read w ≡ Some c
unfolding id_context_read
says_id_context w None s = rw s refl
says_id_context w (Some bytes) s = elim (cases_Bool (bytes_eq w (codes "none"))) [
  | inl is ↦ absurd (not_hex w bytes s ((bytes_eq-Decides w (codes "none")).0 is))
  | inr other ↦ cond-false _ _ _ other ∙ ap (option_map Some) (says_bytes w bytes s)
]

keying_all : (a b c d : Option (List ℕ)) (e : Option (Option (List ℕ))) (k : Keying) → keying_of a b c d e ≡ Some k
    → (a ≡ Some k.secret) × (b ≡ Some k.salt) × (c ≡ Some k.sender) × (d ≡ Some k.recipient) × (e ≡ Some k.id_context)
keying_all (Some a) (Some b) (Some c) (Some d) (Some e) k h =
    let made : Keying = record { secret = a; salt = b; sender = c; recipient = d; id_context = e } in
    let same : made ≡ k = ap (λ (o : Option Keying). unwrap_or o made) h in
    (ap (λ (x : Keying). Some x.secret) same, ap (λ (x : Keying). Some x.salt) same, ap (λ (x : Keying). Some x.sender) same, ap (λ (x : Keying). Some x.recipient) same, ap (λ (x : Keying). Some x.id_context) same)
keying_all a b c d e k h = cc h

pub keying_says : (w : Six) (k : Keying) → keying_read w ≡ Some k → SaysKeying w k
unfolding keying_read
keying_says w k h =
    let (a, b, c, d, e) = keying_all (bytes_read w.0) (bytes_read w.1) (bytes_read w.2) (bytes_read w.3) (id_context_read w.4) k h in
    (bytes_say w.0 k.secret a, bytes_say w.1 k.salt b, bytes_say w.2 k.sender c, bytes_say w.3 k.recipient d, id_context_says w.4 k.id_context e)

pub says_keying : (w : Six) (k : Keying) → SaysKeying w k → keying_read w ≡ Some k
unfolding keying_read
says_keying w k (a, b, c, d, e) =
    rw (says_bytes w.0 k.secret a, says_bytes w.1 k.salt b, says_bytes w.2 k.sender c, says_bytes w.3 k.recipient d, says_id_context w.4 k.id_context e) refl

-- what refuses some parameters refuses others of the same bytes
refuses_as : (g p : Params) (k : Keying) → HasKeying g k → HasKeying p k → (e : ContextError) → RefusesParams g e → RefusesParams p e
refuses_as g p k (a, b, c, d, i) (a2, b2, c2, d2, i2) SecretLength h = subst (λ (xs : List ℕ). (length xs ≡ 0) ⊎ (64 < length xs)) (a ∙ sym a2) h
refuses_as g p k (a, b, c, d, i) (a2, b2, c2, d2, i2) SaltLength h = subst (λ (xs : List ℕ). 64 < length xs) (b ∙ sym b2) h
refuses_as g p k (a, b, c, d, i) (a2, b2, c2, d2, i2) IdTooLong (inl h) = inl (subst (λ (xs : List ℕ). 7 < length xs) (c ∙ sym c2) h)
refuses_as g p k (a, b, c, d, i) (a2, b2, c2, d2, i2) IdTooLong (inr h) = inr (subst (λ (xs : List ℕ). 7 < length xs) (d ∙ sym d2) h)
refuses_as g p k (a, b, c, d, i) (a2, b2, c2, d2, i2) SameIds h = c2 ∙ sym c ∙ h ∙ d ∙ sym d2
refuses_as g p k (a, b, c, d, i) (a2, b2, c2, d2, i2) IdContextLength h = subst (λ (o : Option (List ℕ)). IsSomeAnd o (λ bytes. (length bytes ≡ 0) ⊎ (32 < length bytes))) (i ∙ sym i2) h

-- parameters that aren't refused make a context of their bytes
pub makes_context : (p : Params) (k : Keying) → HasKeying p k → ((e : ContextError) → ¬ RefusesParams p e) → MakesContext k
makes_context p k has none g has_too e refused = none e (refuses_as g p k has_too has e refused)

-- a context of some parameters is one of their bytes
pub client_is : (p : Params) (k : Keying) → HasKeying p k → client_context_of p ≡ client_by k
client_is p k (a, b, c, d, i) = rw (a, b, c, d, i) refl

pub server_is : (p : Params) (k : Keying) → HasKeying p k → server_context_of p ≡ server_by k
server_is p k (a, b, c, d, i) = rw (a, b, c, d, i) refl

one_keying : (w : Six) (k l : Keying) → SaysKeying w k → SaysKeying w l → k ≡ l
one_keying w k l a b =
    let same : Some k ≡ Some l = sym (says_keying w k a) ∙ says_keying w l b in
    ap (λ (o : Option Keying). unwrap_or o k) same

-- what came of the words
pub reads_words : (w : Six) (k : Keying) (o : Option Context) → Some k ≡ keying_read w → DerivesBy k o → ReadsContext w o
reads_words w k (Some c) read derives = (k, keying_says w k (sym read), derives)
reads_words w k None read derives = λ l said can. derives (subst MakesContext (one_keying w l k said (keying_says w k (sym read))) can)

pub reads_none : (w : Six) → None ≡ keying_read w → ReadsContext w None
reads_none w none k said can = let bad : None ≡ Some k = none ∙ says_keying w k said in cc bad

-- ---- how a context begins

one_piv : (p q : Piv) → number_of p ≡ number_of q → p ≡ q
one_piv p q h = subst (λ (m : ℕ). (r : m < 2 ^ 40) → p ≡ piv_of m r) h (λ r. ap (piv_of p.number) (le_prop p.in_range r)) q.in_range
  where
    piv_of : (n : ℕ) → n < 2 ^ 40 → Piv
    piv_of n r = record { number = n; in_range = r }

says_start : (words : List ℕ) (start : Start) → SaysStart words start → start_read words ≡ Some (start_seen start)
unfolding start_read
says_start words (starts.Fresh next) (n, is, says) = rw (is, split_at 32 (codes "fresh") n (no_space_test (codes "fresh") refl), says_number (2 ^ 40) n (number_of next) says) refl
says_start words (starts.Restarted next) (n, is, says) = rw (is, split_at 32 (codes "restarted") n (no_space_test (codes "restarted") refl), says_number (2 ^ 40) n (number_of next) says) refl
says_start words start s = absurd s

-- the word with which a context begins
abbrev start_word : Bool → List ℕ
start_word false = codes "fresh"
start_word true = codes "restarted"

start_parts : (word : List ℕ) (n : ℕ) (s : Bool × ℕ) → start_of_words word n ≡ Some s → (word ≡ start_word s.0) × (n ≡ s.1)
start_parts word n s h = elim (cases_Bool (bytes_eq word (codes "fresh"))) [
  | inl is ↦
      let same : (false, n) ≡ s = ap (λ (o : Option (Bool × ℕ)). unwrap_or o s) (sym (cond-true _ _ _ is) ∙ h) in
      ((bytes_eq-Decides word (codes "fresh")).0 is ∙ ap (λ (x : Bool × ℕ). start_word x.0) same, ap (λ (x : Bool × ℕ). x.1) same)
  | inr other ↦ elim (cases_Bool (bytes_eq word (codes "restarted"))) [
    | inl is ↦
        let same : (true, n) ≡ s = ap (λ (o : Option (Bool × ℕ)). unwrap_or o s) (sym (cond-false _ _ _ other ∙ cond-true _ _ _ is) ∙ h) in
        ((bytes_eq-Decides word (codes "restarted")).0 is ∙ ap (λ (x : Bool × ℕ). start_word x.0) same, ap (λ (x : Bool × ℕ). x.1) same)
    | inr neither ↦
        let bad : None ≡ Some s = sym (cond-false _ _ _ other ∙ cond-false _ _ _ neither) ∙ h in
        cc bad
  ]
]

-- the words that say so
started_at : (words : List ℕ) (s : Bool × ℕ) → start_read words ≡ Some s → (n : List ℕ) × (words ≡ parted (start_word s.0 ∷ n ∷ [])) × SaysBelow (2 ^ 40) n s.1
unfolding start_read
started_at words s h =
    let p = then_some _ (split_once 32 words) s h in
    let q = then_some (start_of_words p.0.0) (number_read (2 ^ 40) p.0.1) s p.2 in
    let parts = start_parts p.0.0 q.0 s q.2 in (
      p.0.1,
      (split_parts 32 words p.0 p.1).0 ∙ ap (λ (word : List ℕ). word ++ 32 ∷ p.0.1) parts.0,
      subst (SaysBelow (2 ^ 40) p.0.1) parts.1 (number_says (2 ^ 40) p.0.1 q.0 q.1),
    )

pub start_says : (words : List ℕ) (start : Start) → CanBeSaid start → start_read words ≡ Some (start_seen start) → SaysStart words start
start_says words (starts.Fresh next) can h = started_at words (false, number_of next) h
start_says words (starts.Restarted next) can h = started_at words (true, number_of next) h
start_says words start can h = absurd can

-- where no start is read, none is said
pub no_start : (words : List ℕ) (start : Start) → None ≡ start_read words → ¬ SaysStart words start
no_start words start none s = let bad : None ≡ Some (start_seen start) = none ∙ says_start words start s in cc bad

same_start : (a b : Start) → CanBeSaid a → CanBeSaid b → start_seen a ≡ start_seen b → a ≡ b
same_start (starts.Fresh n) (starts.Fresh m) x y h = ap starts.Fresh (one_piv n m (ap (λ (s : Bool × ℕ). s.1) h))
same_start (starts.Fresh n) (starts.Restarted m) x y h = let bad : false ≡ true = ap (λ (s : Bool × ℕ). s.0) h in cc bad
same_start (starts.Restarted n) (starts.Fresh m) x y h = let bad : true ≡ false = ap (λ (s : Bool × ℕ). s.0) h in cc bad
same_start (starts.Restarted n) (starts.Restarted m) x y h = ap starts.Restarted (one_piv n m (ap (λ (s : Bool × ℕ). s.1) h))
same_start (starts.Fresh n) b x y h = absurd y
same_start (starts.Restarted n) b x y h = absurd y
same_start a b x y h = absurd x

can_be_said : (words : List ℕ) (start : Start) → SaysStart words start → CanBeSaid start
can_be_said words (starts.Fresh next) s = tt
can_be_said words (starts.Restarted next) s = tt
can_be_said words start s = absurd s

pub one_start : (words : List ℕ) (a b : Start) → SaysStart words a → SaysStart words b → a ≡ b
one_start words a b s t =
    let same : Some (start_seen a) ≡ Some (start_seen b) = sym (says_start words a s) ∙ says_start words b t in
    same_start a b (can_be_said words a s) (can_be_said words b t) (ap (λ (o : Option (Bool × ℕ)). unwrap_or o (start_seen a)) same)

-- where no number is read, none is said
pub no_number_said : (bound : ℕ) (word : List ℕ) (n : ℕ) → None ≡ number_read bound word → ¬ SaysBelow bound word n
no_number_said bound word n none s = let bad : None ≡ Some n = none ∙ says_number bound word n s in cc bad

pub one_number : (bound : ℕ) (word : List ℕ) (m n : ℕ) → SaysBelow bound word m → SaysBelow bound word n → m ≡ n
one_number bound word m n a b =
    let same : Some m ≡ Some n = sym (says_number bound word m a) ∙ says_number bound word n b in
    ap (λ (o : Option ℕ). unwrap_or o m) same

-- ---- lines

module _ {B : Type 0} (context : Keying → SecurityContext) (says : List ℕ → B → Type 0) (line : List ℕ) where
  -- a line that has no such words
  pub no_words : replace_read line ≡ None → ReplacesNone context says line
  no_words none by b (w, k, is, said, can, same, begins) = let bad : None ≡ Some w = sym none ∙ ap replace_read is ∙ said_words w k said in cc bad

  -- the line that the code read
  pub spelled_as : (w : Six) (k : Keying) (by : SecurityContext) (b : B) → replace_read line ≡ Some w → SaysKeying w k → MakesContext k → by ≡ context k → says w.5 b → SpellsReplace context says line by b
  spelled_as w k by b read said can same begins = (w, k, words_said line w read, said, can, same, begins)

  -- the words of a line are those that are read
  the_words : (w v : Six) (k : Keying) → replace_read line ≡ Some w → line ≡ line_of v → SaysKeying v k → v ≡ w
  the_words w v k read is said =
      let same : Some v ≡ Some w = sym (said_words v k said) ∙ ap replace_read (sym is) ∙ read in
      ap (λ (o : Option Six). unwrap_or o v) same

  -- words that don't say how the context begins
  pub no_begin : (w : Six) → replace_read line ≡ Some w → ((b : B) → ¬ says w.5 b) → ReplacesNone context says line
  no_begin w read none by b (v, k, is, said, can, same, begins) = none b (subst (λ (x : Six). says x.5 b) (the_words w v k read is said) begins)

  -- words of which no context can be derived
  pub no_context : (w : Six) → replace_read line ≡ Some w → ReadsContext w None → ReplacesNone context says line
  no_context w read none by b (v, k, is, said, can, same, begins) = none k (subst (λ (x : Six). SaysKeying x k) (the_words w v k read is said) said) can

  -- a line puts one context in the place of another, which begins in one way
  pub one_replacement : ((words : List ℕ) (a b : B) → says words a → says words b → a ≡ b) → (x y : SecurityContext) (a b : B)
      → SpellsReplace context says line x a → SpellsReplace context says line y b → (x ≡ y) × (a ≡ b)
  one_replacement one x y a b (w, k, is, said, can, same, begins) (v, l, is_too, said_too, can_too, same_too, begins_too) =
      let read : replace_read line ≡ Some w = ap replace_read is ∙ said_words w k said in
      let words = the_words w v l read is_too said_too in
      let keys = one_keying w k l said (subst (λ (u : Six). SaysKeying u l) words said_too) in
      (same ∙ ap context keys ∙ sym same_too, one w.5 a b begins (subst (λ (u : Six). says u.5 b) words begins_too))

-- ---- the lines of both ends

-- a line that replaces isn't the line of a server's event
pub no_server_event : (line : List ℕ) (by : SecurityContext) (start : Start) (e : InputEvent ℕ) → SpellsReplace server_by SaysStart line by start → SpellsEvent line e → ⊥
unfolding event_read verb_read
no_server_event line by start e (w, k, is, said, can, same, begins) spelled =
    let read : event_read (line_of w) ≡ Some e = ap event_read (sym is) ∙ server_inverse.said line e spelled in
    let none : event_read (line_of w) ≡ None = rw (split_at 32 (codes "replace") (parted (w.0 ∷ w.1 ∷ w.2 ∷ w.3 ∷ w.4 ∷ w.5 ∷ [])) (no_space_test (codes "replace") refl)) refl in
    let bad : None ≡ Some e = sym none ∙ read in
    cc bad

-- nor of a client's
pub no_client_event : (line : List ℕ) (by : SecurityContext) (first : ℕ) (e : AskedEvent ℕ) → SpellsReplace client_by (SaysBelow (2 ^ 40)) line by first → SpellsAsked line e → ⊥
unfolding asked_read asked_verb_read
no_client_event line by first e (w, k, is, said, can, same, begins) spelled =
    let read : asked_read (line_of w) ≡ Some e = ap asked_read (sym is) ∙ client_inverse.said line e spelled in
    let none : asked_read (line_of w) ≡ None = rw (split_at 32 (codes "replace") (parted (w.0 ∷ w.1 ∷ w.2 ∷ w.3 ∷ w.4 ∷ w.5 ∷ [])) (no_space_test (codes "replace") refl)) refl in
    let bad : None ≡ Some e = sym none ∙ read in
    cc bad

-- a line spells one thing at most
pub one_serving : OneSpelling SpellsServing
one_serving line (Event d) (Event e) a b = ap Event (one_spelling SpellsEvent event_read server_inverse line d e a b)
one_serving line (Event d) (Replace by start) a b = absurd (no_server_event line by start d b a)
one_serving line (Replace by start) (Event e) a b = absurd (no_server_event line by start e a b)
one_serving line (Replace x s) (Replace y t) a b = let same = one_replacement server_by SaysStart line one_start x y s t a b in ap₂ Replace same.0 same.1

pub one_asking : OneSpelling SpellsAsking
one_asking line (Event d) (Event e) a b = ap Event (one_spelling SpellsAsked asked_read client_inverse line d e a b)
one_asking line (Event d) (Replace by first) a b = absurd (no_client_event line by first d b a)
one_asking line (Replace by first) (Event e) a b = absurd (no_client_event line by first e a b)
one_asking line (Replace x s) (Replace y t) a b = let same = one_replacement client_by (SaysBelow (2 ^ 40)) line (one_number (2 ^ 40)) x y s t a b in ap₂ Replace same.0 same.1

-- a line that spells neither spells nothing
pub none_serving : (line : List ℕ) → SpellsNone SpellsEvent line → ReplacesNone server_by SaysStart line → SpellsNone SpellsServing line
none_serving line events replaces (Event e) s = events e s
none_serving line events replaces (Replace by start) s = replaces by start s

pub none_asking : (line : List ℕ) → SpellsNone SpellsAsked line → ReplacesNone client_by (SaysBelow (2 ^ 40)) line → SpellsNone SpellsAsking line
none_asking line events replaces (Event e) s = events e s
none_asking line events replaces (Replace by first) s = replaces by first s
