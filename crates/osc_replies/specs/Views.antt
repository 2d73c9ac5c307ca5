-- How the code is seen: a memory as the list of what it keeps.
use Rattle.std.specs.Prelude.{ℕ, List, map}
use Rattle.osc_replies.specs.declared.remembered.Remembered.{Remembered}
use Rattle.osc_replies.specs.declared.replies.Replies.{Replies}
use Rattle.osc_replies.specs.Memory.{Kept}

-- what is kept of a request (how the code is seen)
abbrev pub kept_of : {len : ℕ} → Remembered len → Kept
kept_of r = record { number = r.number; option = r.option.items; text = r.text.items; reply = r.reply.items }

-- what a memory keeps (how the code is seen)
abbrev pub memory_of : {count len : ℕ} → Replies count len → List Kept
memory_of m = map kept_of m.entries.items
