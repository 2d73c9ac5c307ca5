-- What a line asks of a client is what is read of it.
use Rattle.std.proofs.Common.{◌≡◌, ℕ, ◌^◌, List, ◌∷◌, [], ◌++◌, codes, Option, Some, option_map, refl, sym, subst}
use Rattle.std.specs.Option.{option_and_then}
use Rattle.osc_text.specs.AskedEvents.{AskedEvent, Forget, Request, Restart, SpellsAsked, Take}
use Rattle.osc_text.specs.AskedReading.{asked_read, asked_verb_read}
use Rattle.osc_text.specs.InputReading.{bytes_read, split_once}
use Rattle.osc_text.specs.Inputs.{parted}
use Rattle.osc_text.proofs.InputSpellings.{IsInverse, behind, bytes_say, map_some, no_space_test, number_row, numbered_row, or_verb, says_bytes, says_number, says_numbered, then_some}
use Rattle.osc_text.proofs.InputWords.{split_at, split_parts}

-- ---- what is read is spelled

forget_says : (fields : List ℕ) (e : AskedEvent ℕ) → option_map Forget (bytes_read fields) ≡ Some e → SpellsAsked (codes "forget" ++ 32 ∷ fields) e
forget_says fields e h =
    let p = map_some Forget (bytes_read fields) e h in
    subst (SpellsAsked (codes "forget" ++ 32 ∷ fields)) p.2 (fields, refl, bytes_say fields p.0 p.1)

verb_says : (verb fields : List ℕ) (e : AskedEvent ℕ) → asked_verb_read verb fields ≡ Some e → SpellsAsked (verb ++ 32 ∷ fields) e
unfolding asked_verb_read
verb_says verb fields e h =
    or_verb SpellsAsked verb (codes "request") fields _ _ e (numbered_row SpellsAsked (codes "request") fields (λ t. Request t.0 t.1) (behind (codes "request") fields) e)
    (or_verb SpellsAsked verb (codes "take") fields _ _ e (numbered_row SpellsAsked (codes "take") fields (λ t. Take t.0 t.1) (behind (codes "take") fields) e)
    (or_verb SpellsAsked verb (codes "forget") fields _ _ e (forget_says fields e)
    (or_verb SpellsAsked verb (codes "restart") fields _ _ e (number_row SpellsAsked (codes "restart") fields (2 ^ 40) Restart (λ n s. (fields, refl, s)) e) (λ bad. cc bad)))) h

line_says : (line : List ℕ) (e : AskedEvent ℕ) → asked_read line ≡ Some e → SpellsAsked line e
unfolding asked_read
line_says line e h =
    let p = then_some _ (split_once 32 line) e h in
    subst (λ (t : List ℕ). SpellsAsked t e) (sym (split_parts 32 line p.0 p.1).0) (verb_says p.0.0 p.0.1 e p.2)

-- ---- what is spelled is read

says_line : (line : List ℕ) (e : AskedEvent ℕ) → SpellsAsked line e → asked_read line ≡ Some e
unfolding asked_read asked_verb_read
says_line line (Request now plain) (n, p, is, says_n, says_p) =
    rw (is, split_at 32 (codes "request") (parted (n ∷ p ∷ [])) (no_space_test (codes "request") refl), says_numbered n p now plain says_n says_p) refl
says_line line (Take now datagram) (n, d, is, says_n, says_d) =
    rw (is, split_at 32 (codes "take") (parted (n ∷ d ∷ [])) (no_space_test (codes "take") refl), says_numbered n d now datagram says_n says_d) refl
says_line line (Forget token) (t, is, says_t) = rw (is, split_at 32 (codes "forget") t (no_space_test (codes "forget") refl), says_bytes t token says_t) refl
says_line line (Restart next) (n, is, says_n) = rw (is, split_at 32 (codes "restart") n (no_space_test (codes "restart") refl), says_number (2 ^ 40) n next says_n) refl

pub client_inverse : IsInverse SpellsAsked asked_read
client_inverse = record { says = line_says; said = says_line }

-- a line is read by the words around its first space
pub asked_at : (line : List ℕ) (o : Option (List ℕ × List ℕ)) → o ≡ split_once 32 line → asked_read line ≡ option_and_then (λ p. asked_verb_read p.0 p.1) o
unfolding asked_read
asked_at line o h = rw h refl
