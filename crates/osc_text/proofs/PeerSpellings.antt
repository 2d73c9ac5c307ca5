-- What a line asks of a peer is what is read of it.
use Rattle.std.proofs.Common.{◌≡◌, ◌⊎◌, ℕ, ◌^◌, List, [], ◌∷◌, ◌++◌, All, codes, Option, Some, None, IfSome, Result, Ok, Err, IfOk, refl, sym, ap, subst, ◌∙◌, inl, inr}
use Rattle.std.specs.Prelude.{unwrap_or}
use Rattle.std.specs.Option.{IfNone, option_and_then}
use Rattle.osc_peer_runs.specs.declared.peer_event.PeerEvent.{PeerEvent}
use Rattle.osc_text.specs.AskedEvents.{AskedEvent, SpellsAsked}
use Rattle.osc_text.specs.AskedEvents as asked
use Rattle.osc_text.specs.InputEvents.{InputEvent, SpellsEvent}
use Rattle.osc_text.specs.InputEvents as served
use Rattle.osc_text.specs.InputReading.{SpellsNone, SpellsSeen, split_once}
use Rattle.osc_text.specs.Inputs.{parted}
use Rattle.osc_text.specs.PeerEvents.{Advance, Challenge, Drop, Echo, Follow, Forget, Fresh, Hear, Notify, PeerInput, Reply, Request, SpellsPeer, Take}
use Rattle.osc_text.specs.PeerReading.{SpellsAs, SpellsOwn, SpellsPeerEvent, arrival_of, arrival_read, asked_of, challenge_of, challenge_read, fresh_of, fresh_read, own_line_read, own_verb_read, served_of, three_read}
use Rattle.osc_text.specs.PeerSeen.{IsRoomyPeer, peer_seen}
use Rattle.osc_text.specs.ServedReading.{four_read}
use Rattle.osc_text.proofs.InputSpellings.{IsInverse, behind, bytes_say, four_parted, four_split, map_some, message_id_says, no_space_hex, no_space_number, no_space_test, number_row, number_says, numbered_row, or_verb, says_bytes, says_message_id, says_number, says_numbered, then_some}
use Rattle.osc_text.proofs.InputWords.{IsNot, split_at, split_parts}

-- ---- what is read of a line that only a peer has is spelled

-- three words are read as they are parted
pub three_split : (a b c : List ℕ) → All (IsNot 32) a → All (IsNot 32) b → three_read (parted (a ∷ b ∷ c ∷ [])) ≡ Some (a, b, c)
unfolding three_read
three_split a b c no_a no_b = rw (split_at 32 a (parted (b ∷ c ∷ [])) no_a, split_at 32 b c no_b) refl

-- the three words of some fields
abbrev pub Three : Type 0
Three = List ℕ × List ℕ × List ℕ

pub three_parted : (fields : List ℕ) (w : Three) → three_read fields ≡ Some w → fields ≡ parted (w.0 ∷ w.1 ∷ w.2 ∷ [])
unfolding three_read
three_parted fields w h =
    let p = then_some _ (split_once 32 fields) w h in
    let q = map_some _ (split_once 32 p.0.1) w p.2 in
    let a = split_parts 32 fields p.0 p.1 in
    let b = split_parts 32 p.0.1 q.0 q.1 in
    subst (λ (x : Three). fields ≡ parted (x.0 ∷ x.1 ∷ x.2 ∷ [])) q.2 (a.0 ∙ ap (λ (t : List ℕ). p.0.0 ++ 32 ∷ t) b.0)

arrival_all : (a b : Option ℕ) (c : Option (List ℕ)) (e : PeerInput) → arrival_of a b c ≡ Some e
    → (now : ℕ) × (mid : ℕ) × (datagram : List ℕ) × (a ≡ Some now) × (b ≡ Some mid) × (c ≡ Some datagram) × (Take now mid datagram ≡ e)
arrival_all (Some now) (Some mid) (Some datagram) e h = (now, mid, datagram, refl, refl, refl, ap (λ (o : Option PeerInput). unwrap_or o e) h)
arrival_all a b c e h = cc h

arrival_says : (fields : List ℕ) (e : PeerInput) → arrival_read fields ≡ Some e → SpellsOwn (codes "take" ++ 32 ∷ fields) e
unfolding arrival_read
arrival_says fields e h =
    let p = then_some _ (three_read fields) e h in
    let w = p.0 in
    let t = arrival_all _ _ _ e p.2 in
    subst (SpellsOwn (codes "take" ++ 32 ∷ fields)) t.6
    (w.0, w.1, w.2, ap (λ (r : List ℕ). codes "take" ++ 32 ∷ r) (three_parted fields w p.1), number_says (2 ^ 64) w.0 t.0 t.3, message_id_says w.1 t.1 t.4, bytes_say w.2 t.2 t.5)

fresh_all : (s a b : Option ℕ) (c : Option (List ℕ)) (e : PeerInput) → fresh_of s a b c ≡ Some e
    → (ms : ℕ) × (now : ℕ) × (mid : ℕ) × (datagram : List ℕ) × (s ≡ Some ms) × (a ≡ Some now) × (b ≡ Some mid) × (c ≡ Some datagram) × (Fresh ms now mid datagram ≡ e)
fresh_all (Some ms) (Some now) (Some mid) (Some datagram) e h = (ms, now, mid, datagram, refl, refl, refl, refl, ap (λ (o : Option PeerInput). unwrap_or o e) h)
fresh_all s a b c e h = cc h

fresh_says : (fields : List ℕ) (e : PeerInput) → fresh_read fields ≡ Some e → SpellsOwn (codes "fresh" ++ 32 ∷ fields) e
unfolding fresh_read
fresh_says fields e h =
    let p = then_some _ (four_read fields) e h in
    let w = p.0 in
    let t = fresh_all _ _ _ _ e p.2 in
    subst (SpellsOwn (codes "fresh" ++ 32 ∷ fields)) t.8 (
      w.0,
      w.1,
      w.2,
      w.3,
      ap (λ (r : List ℕ). codes "fresh" ++ 32 ∷ r) (four_parted fields w p.1),
      number_says (2 ^ 64) w.0 t.0 t.4,
      number_says (2 ^ 64) w.1 t.1 t.5,
      message_id_says w.2 t.2 t.6,
      bytes_say w.3 t.3 t.7,
    )

challenge_all : (a b : Option ℕ) (e : PeerInput) → challenge_of a b ≡ Some e → (of : ℕ) × (mid : ℕ) × (a ≡ Some of) × (b ≡ Some mid) × (Challenge of mid ≡ e)
challenge_all (Some of) (Some mid) e h = (of, mid, refl, refl, ap (λ (o : Option PeerInput). unwrap_or o e) h)
challenge_all a b e h = cc h

challenge_says : (fields : List ℕ) (e : PeerInput) → challenge_read fields ≡ Some e → SpellsOwn (codes "challenge" ++ 32 ∷ fields) e
unfolding challenge_read
challenge_says fields e h =
    let p = then_some _ (split_once 32 fields) e h in
    let w = p.0 in
    let t = challenge_all _ _ e p.2 in
    subst (SpellsOwn (codes "challenge" ++ 32 ∷ fields)) t.4
    (w.0, w.1, ap (λ (r : List ℕ). codes "challenge" ++ 32 ∷ r) (split_parts 32 fields w p.1).0, number_says (2 ^ 64) w.0 t.0 t.2, message_id_says w.1 t.1 t.3)

verb_says : (verb fields : List ℕ) (e : PeerInput) → own_verb_read verb fields ≡ Some e → SpellsOwn (verb ++ 32 ∷ fields) e
unfolding own_verb_read
verb_says verb fields e h =
    or_verb SpellsOwn verb (codes "take") fields _ _ e (arrival_says fields e)
    (or_verb SpellsOwn verb (codes "fresh") fields _ _ e (fresh_says fields e)
    (or_verb SpellsOwn verb (codes "hear") fields _ _ e (numbered_row SpellsOwn (codes "hear") fields (λ t. Hear t.0 t.1) (behind (codes "hear") fields) e)
    (or_verb SpellsOwn verb (codes "follow") fields _ _ e (numbered_row SpellsOwn (codes "follow") fields (λ t. Follow t.0 t.1) (behind (codes "follow") fields) e)
    (or_verb SpellsOwn verb (codes "echo") fields _ _ e (numbered_row SpellsOwn (codes "echo") fields (λ t. Echo t.0 t.1) (behind (codes "echo") fields) e)
    (or_verb SpellsOwn verb (codes "challenge") fields _ _ e (challenge_says fields e)
    (or_verb SpellsOwn verb (codes "advance") fields _ _ e (number_row SpellsOwn (codes "advance") fields (2 ^ 64) Advance (λ n s. (fields, refl, s)) e) (λ bad. cc bad))))))) h

line_says : (line : List ℕ) (e : PeerInput) → own_line_read line ≡ Some e → SpellsOwn line e
unfolding own_line_read
line_says line e h =
    let p = then_some _ (split_once 32 line) e h in
    subst (λ (t : List ℕ). SpellsOwn t e) (sym (split_parts 32 line p.0 p.1).0) (verb_says p.0.0 p.0.1 e p.2)

-- ---- what is spelled in a line that only a peer has is read

says_line : (line : List ℕ) (e : PeerInput) → SpellsOwn line e → own_line_read line ≡ Some e
unfolding own_line_read own_verb_read arrival_read challenge_read fresh_read
says_line line (Take now mid datagram) (n, m, d, is, says_n, says_m, says_d) =
    rw (
      is,
      split_at 32 (codes "take") (parted (n ∷ m ∷ d ∷ [])) (no_space_test (codes "take") refl),
      three_split n m d (no_space_number _ n now says_n) (no_space_hex m _ says_m.1),
      says_number (2 ^ 64) n now says_n,
      says_message_id m mid says_m,
      says_bytes d datagram says_d,
    ) refl
says_line line (Fresh ms now mid datagram) (s, n, m, d, is, says_s, says_n, says_m, says_d) =
    rw (
      is,
      split_at 32 (codes "fresh") (parted (s ∷ n ∷ m ∷ d ∷ [])) (no_space_test (codes "fresh") refl),
      four_split s n m d (no_space_number _ s ms says_s) (no_space_number _ n now says_n) (no_space_hex m _ says_m.1),
      says_number (2 ^ 64) s ms says_s,
      says_number (2 ^ 64) n now says_n,
      says_message_id m mid says_m,
      says_bytes d datagram says_d,
    ) refl
says_line line (Hear now datagram) (n, d, is, says_n, says_d) =
    rw (is, split_at 32 (codes "hear") (parted (n ∷ d ∷ [])) (no_space_test (codes "hear") refl), says_numbered n d now datagram says_n says_d) refl
says_line line (Follow now datagram) (n, d, is, says_n, says_d) =
    rw (is, split_at 32 (codes "follow") (parted (n ∷ d ∷ [])) (no_space_test (codes "follow") refl), says_numbered n d now datagram says_n says_d) refl
says_line line (Echo now text) (n, p, is, says_n, says_p) =
    rw (is, split_at 32 (codes "echo") (parted (n ∷ p ∷ [])) (no_space_test (codes "echo") refl), says_numbered n p now text says_n says_p) refl
says_line line (Challenge of mid) (e, m, is, says_e, says_m) =
    rw (
      is,
      split_at 32 (codes "challenge") (parted (e ∷ m ∷ [])) (no_space_test (codes "challenge") refl),
      split_at 32 e m (no_space_number _ e of says_e),
      says_number (2 ^ 64) e of says_e,
      says_message_id m mid says_m,
    ) refl
says_line line (Advance now) (n, is, says_n) = rw (is, split_at 32 (codes "advance") n (no_space_test (codes "advance") refl), says_number (2 ^ 64) n now says_n) refl
says_line line e s = absurd s

pub own_inverse : IsInverse SpellsOwn own_line_read
own_inverse = record { says = line_says; said = says_line }

-- a line is read by the words around its first space
pub own_at : (line : List ℕ) (o : Option (List ℕ × List ℕ)) → o ≡ split_once 32 line → own_line_read line ≡ option_and_then (λ p. own_verb_read p.0 p.1) o
unfolding own_line_read
own_at line o h = rw h refl

-- ---- what a peer's line spells

own_spells : (line : List ℕ) (e : PeerInput) → SpellsOwn line e → SpellsPeer line e
own_spells line (Take now mid datagram) s = s
own_spells line (Fresh ms now mid datagram) s = s
own_spells line (Hear now datagram) s = s
own_spells line (Follow now datagram) s = s
own_spells line (Echo now text) s = s
own_spells line (Challenge of mid) s = s
own_spells line (Advance now) s = s
own_spells line e s = absurd s

-- a peer's line is one of its own, or that of a server or of a client
spelled_by : (line : List ℕ) (e : PeerInput) → SpellsPeer line e → SpellsOwn line e ⊎ (SpellsAs SpellsEvent served_of line e ⊎ SpellsAs SpellsAsked asked_of line e)
spelled_by line (Take now mid datagram) s = inl s
spelled_by line (Fresh ms now mid datagram) s = inl s
spelled_by line (Reply of own mid text) s = inr (inl (served.Reply of own mid text, refl, s))
spelled_by line (Challenge of mid) s = inl s
spelled_by line (Notify of text) s = inr (inl (served.Notify of text, refl, s))
spelled_by line (Drop of) s = inr (inl (served.Drop of, refl, s))
spelled_by line (Request now text) s = inr (inr (asked.Request now text, refl, s))
spelled_by line (Hear now datagram) s = inl s
spelled_by line (Follow now datagram) s = inl s
spelled_by line (Echo now text) s = inl s
spelled_by line (Forget token) s = inr (inr (asked.Forget token, refl, s))
spelled_by line (Advance now) s = inl s

-- so a line that is none of these spells nothing
none_spelled : (line : List ℕ) → SpellsNone SpellsOwn line → SpellsNone (SpellsAs SpellsEvent served_of) line → SpellsNone (SpellsAs SpellsAsked asked_of) line → SpellsNone SpellsPeer line
none_spelled line own at_server at_client e s = elim (spelled_by line e s) [
  | inl here ↦ own e here
  | inr other ↦ elim other [
    | inl here ↦ at_server e here
    | inr here ↦ at_client e here
  ]
]

-- ---- what the code read

-- what was read of a line that only a peer has
pub own_read_spells : {F : Type 0} (line : List ℕ) (r : Result (Option PeerEvent) F) → IfOk r (λ o. IfSome o (SpellsSeen SpellsOwn peer_seen IsRoomyPeer line)) → IfOk r (λ o. IfSome o (SpellsPeerEvent line))
own_read_spells line (Ok (Some e)) s = (own_spells line (peer_seen e) s.0, s.1)
own_read_spells line (Ok None) s = tt
own_read_spells line (Err e) s = tt

-- where all of the readers read nothing, nothing is spelled
pub none_read : {F : Type 0} (line : List ℕ) (r : Result (Option PeerEvent) F) → SpellsNone SpellsOwn line → SpellsNone (SpellsAs SpellsEvent served_of) line
    → IfOk r (λ o. IfNone o (SpellsNone (SpellsAs SpellsAsked asked_of) line)) → IfOk r (λ o. IfNone o (SpellsNone SpellsPeer line))
none_read line (Ok (Some e)) own at_server at_client = tt
none_read line (Ok None) own at_server at_client = none_spelled line own at_server at_client
none_read line (Err e) own at_server at_client = tt
