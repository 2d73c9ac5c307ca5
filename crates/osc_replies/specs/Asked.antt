-- For the proofs: which request of a memory is asked for.
use Rattle.std.specs.Prelude.{◌≡◌, ℕ, List}
use Rattle.osc_coap.specs.Datagram.{Parts}
use Rattle.osc_replies.specs.Memory.{Kept, IsReply}

-- this is kept of the request with this number, option and ciphertext (own rule)
abbrev pub IsOf : Kept → ℕ → List ℕ → List ℕ → Type 0
IsOf k n option text = (k.number ≡ n) × (k.option ≡ option) × (k.text ≡ text)

-- this is kept of that request, and has a reply (own rule)
abbrev pub IsAnswered : Kept → ℕ → List ℕ → List ℕ → Type 0
IsAnswered k n option text = IsOf k n option text × (p : Parts) × IsReply p k.reply
