-- To be believed: the same request gets the same reply (RFC 7252, 4.5; RFC 8613, 5.3). p and q are what messages say, mid and other are Message IDs of replies, d
-- and e are datagrams, f is a protection, i one of its numbers.
use Rattle.std.specs.Prelude.{◌≡◌, ℕ, List, Option, true}
use Rattle.osc_coap.specs.Datagram.{Parts, IsDatagram}
use Rattle.osc_coap.specs.Inner.{InnerParts}
use Rattle.osc_coap.specs.OptionNumbers.{oscore}
use Rattle.osc_coap.specs.Search.{values_at}
use Rattle.osc_protect.specs.Protection.{Protection, Protects}
use Rattle.osc_protect.specs.Usage.{is_used}
use Rattle.osc_replies.specs.Memory.{Kept, NumbersDiffer, Recalls}

-- both messages have the same OSCORE option and the same ciphertext, whatever their heads and their other options (RFC 8613, 4.2 and 8.2)
pub record AreOneRequest (p q : Parts) : Type 0 where
  pub option : values_at oscore p.options ≡ values_at oscore q.options
  pub text : p.payload ≡ q.payload

-- both messages are the same from the options on, and in their codes (RFC 7252, 3)
pub record AreSame (p q : Parts) : Type 0 where
  pub code : p.code ≡ q.code
  pub options : p.options ≡ q.options
  pub payload : p.payload ≡ q.payload

-- two answers of a memory to one request are the same but for their heads (RFC 7252, 4.5)
abbrev pub SameReply : Type 0
SameReply = (memory : List Kept) (mid other : ℕ) (p q reply second : Parts) → NumbersDiffer memory → AreOneRequest p q
    → Recalls memory p mid reply → Recalls memory q other second → AreSame reply second

-- what protects a message under one head protects it under another, so the client opens the same message (RFC 8613, 5.3)
abbrev pub SameMessage : Type 0
SameMessage = (f : Protection (Option ℕ)) (i : Option ℕ) (m : InnerParts) (d e : List ℕ) (x : Protects f i m d) (p : Parts) → AreSame p x.outer → IsDatagram p e
    → is_used f.usage p.kind p.code ≡ true → Protects f i m e
