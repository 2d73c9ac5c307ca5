-- The lines of a log are written one after another.
use Rattle.std.proofs.Common.{◌≡◌, ℕ, List, [], ◌∷◌, ◌++◌, codes, drop, get_or, length, map, ◌+◌, ◌<◌, Option, Result, Ok, Err, IfOk, OnOk, IsOk, refl, sym, ap, subst, ◌∙◌, append_assoc}
use Rattle.osc_coap.specs.OptionSpelling.{Entry}
use Rattle.std.proofs.lemmas.List.{drop_more}
use Rattle.std.specs.Io.KnownBytes.{Appends}
use Rattle.osc_text.specs.EntryLines.{more_options_text, option_text}
use Rattle.osc_text.specs.Written.{Stops, text_of}
use Rattle.osc_text.specs.declared.fault.Fault.{Fault}
use Rattle.osc_text.proofs.Appending.{SoFar, so_far_error, so_far_more}

-- ---- options

-- one option more
pub more_written : (whole t u v : List ℕ) (number : ℕ) (value : List ℕ) (all rest : List Entry) → whole ≡ t ++ more_options_text all → all ≡ (number, value) ∷ rest
    → u ≡ t ++ codes "," → v ≡ u ++ option_text (number, value) → whole ≡ v ++ more_options_text rest
more_written whole t u v number value all rest h is more last =
    rw (h, is, last, more, append_assoc t (codes ",") (option_text (number, value)), append_assoc t (codes "," ++ option_text (number, value)) (more_options_text rest)) refl

-- ---- lines

module _ {L : Type 0} (line : L → List ℕ) where
  -- what is left of a log begins with the entry at this place
  lines_left : (log : List L) (i : ℕ) (entry : L) → i < length log → entry ≡ get_or log i entry → map line (drop i log) ≡ line entry ∷ map line (drop (i + 1) log)
  lines_left log i entry inside is = ap (map line) (drop_more log i entry inside ∙ ap (λ (x : L). x ∷ drop (i + 1) log) (sym is))

  -- one entry more
  pub entry_more : (old now new : Option (List ℕ)) (log : List L) (i : ℕ) (entry : L) → i < length log → entry ≡ get_or log i entry
      → SoFar old now (map line log) (map line (drop i log)) → Appends now new (text_of (line entry ∷ [])) → SoFar old new (map line log) (map line (drop (i + 1) log))
  entry_more old now new log i entry inside is s w =
      so_far_more old now new (map line log) (line entry ∷ []) (map line (drop (i + 1) log)) (subst (SoFar old now (map line log)) (lines_left log i entry inside is) s) w

  -- an entry that could not be written
  pub entry_error : (old now new : Option (List ℕ)) (log : List L) (i : ℕ) (entry : L) (e : Fault) → i < length log → entry ≡ get_or log i entry
      → SoFar old now (map line log) (map line (drop i log)) → Stops now new (line entry ∷ []) e → Stops old new (map line log) e
  entry_error old now new log i entry e inside is s w =
      so_far_error old now new (map line log) (line entry ∷ []) (map line (drop (i + 1) log)) e (subst (SoFar old now (map line log)) (lines_left log i entry inside is) s) w

-- ---- runs

-- a run that came to its end went over all events
pub ran_whole : {T F G : Type 0} (ran : Result T F) (r : Result ℕ G) (n m : ℕ) → OnOk ran (n ≡ m) → IfOk r (λ s. (s ≡ 0) × IsOk ran) → IfOk r (λ s. (s ≡ 0) × (n ≡ m))
ran_whole (Ok x) (Ok k) n m all w = (w.0, all)
ran_whole (Err e) (Ok k) n m all w = let bad = w.1 in cc bad
ran_whole ran (Err f) n m all w = tt
