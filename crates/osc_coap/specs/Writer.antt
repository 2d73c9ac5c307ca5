-- How the code is seen: what a writer holds, and where.
use Rattle.std.specs.Prelude.{ℕ, List}
use Rattle.std.specs.Borrow.{GName}
use Rattle.osc_coap.specs.declared.writer.Writer.{Writer}
use Rattle.osc_coap.specs.Writing.{Draft}
use Rattle.osc_coap.specs.Held.{IsHeld}

-- the buffer that a writer writes into (how the code is seen)
abbrev pub buffer_of : Writer → GName
buffer_of w = w.buf.ghost_name

-- the writer began in a buffer that held old, and has written this draft into it (how the code is seen)
unfoldable pub Holds : Writer → Draft → List ℕ → Type 0
Holds w draft old = IsHeld w draft old
