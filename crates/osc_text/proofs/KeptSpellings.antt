-- What a line asks of an end whose numbers are kept is what is read of it.
use Rattle.std.proofs.Common.{◌≡◌, ◌≢◌, ◌⊎◌, ℕ, List, codes, Option, Some, None, option_map, refl, ap, ◌∙◌, inl, inr}
use Rattle.std.specs.Option.{IfNone}
use Rattle.osc_text.specs.AskedEvents.{SpellsAsked, SpellsKeptAsked}
use Rattle.osc_text.specs.AskedEvents as asked
use Rattle.osc_text.specs.AskedReading.{kept_asked_of}
use Rattle.osc_text.specs.InputEvents.{Drop, Notify, Reply, Restart, SpellsEvent, SpellsKept, Take}
use Rattle.osc_text.specs.InputReading.{SpellsNone}
use Rattle.osc_text.specs.ServedReading.{kept_of}
use Rattle.osc_text.proofs.InputLines.{OneSpelling}

-- the lines of an end whose numbers are kept are those of one whose numbers are given, but for the restart
abbrev pub Keeps : {E F : Type 0} → (List ℕ → E → Type 0) → (List ℕ → F → Type 0) → (E → Option F) → Type 0
Keeps {E} {F} spells spells_kept keep = (line : List ℕ) (f : F) → spells_kept line f → (line ≡ codes "restart") ⊎ ((e : E) × (keep e ≡ Some f) × spells line e)

pub server_keeps : Keeps SpellsEvent SpellsKept kept_of
server_keeps line (Take now echo mid datagram) s = inr (Take now echo mid datagram, refl, s)
server_keeps line (Reply of own mid text) s = inr (Reply of own mid text, refl, s)
server_keeps line (Notify of text) s = inr (Notify of text, refl, s)
server_keeps line (Drop of) s = inr (Drop of, refl, s)
server_keeps line (Restart none) s = inl s

pub client_keeps : Keeps SpellsAsked SpellsKeptAsked kept_asked_of
client_keeps line (asked.Request now text) s = inr (asked.Request now text, refl, s)
client_keeps line (asked.Take now datagram) s = inr (asked.Take now datagram, refl, s)
client_keeps line (asked.Forget token) s = inr (asked.Forget token, refl, s)
client_keeps line (asked.Restart none) s = inl s

module _ {E F : Type 0} (spells : List ℕ → E → Type 0) (spells_kept : List ℕ → F → Type 0) (keep : E → Option F) (law : Keeps spells spells_kept keep) (line : List ℕ) (other : line ≢ codes "restart") where
  -- a line that spells nothing where the numbers are given spells nothing where they are kept
  pub none_kept : SpellsNone spells line → SpellsNone spells_kept line
  none_kept none f s = elim (law line f s) [
    | inl is ↦ other is
    | inr t ↦ none t.0 t.2
  ]

  -- and where nothing is kept of it, its line spells nothing
  pub kept_refuses : OneSpelling spells → {W : Type 0} (seen : W → F) (e : E) (o : Option W) → spells line e → option_map seen o ≡ keep e → IfNone o (SpellsNone spells_kept line)
  kept_refuses once seen e (Some w) s is = tt
  kept_refuses once seen e None s is = λ f t. elim (law line f t) [
    | inl r ↦ other r
    | inr u ↦ let bad : None ≡ Some f = is ∙ ap keep (once line e u.0 s u.2) ∙ u.1 in cc bad
  ]
