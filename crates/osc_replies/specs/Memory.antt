-- To be believed: what a server remembers of the requests that it answered, and when it answers one again (RFC 7252, 4.5; RFC 8613, 7.4 and 8.3). OSCORE protects
-- neither Type nor Message ID, token or address of a request (RFC 8613, 4.2), so none of them is asked. p is what a message says, k is what is kept of a request, n a
-- request's number, mid the Message ID of a reply to a request that isn't confirmable, count the room of a memory; a memory has the oldest request first.
use Rattle.std.specs.Prelude.{◌≡◌, ◌≢◌, ◌==◌, ◌-◌, ◌++◌, ◌∷◌, [], ℕ, AllPairs, List, Some, drop, filter, length, not, slice_get, slice_set, true}
use Rattle.std.specs.List.{Contains}
use Rattle.osc_coap.specs.Code.{is_response_code}
use Rattle.osc_coap.specs.Datagram.{Parts, IsDatagram}
use Rattle.osc_coap.specs.OptionNumbers.{oscore}
use Rattle.osc_coap.specs.Search.{values_at}
use Rattle.osc_life.specs.Replies.{as_reply}
use Rattle.osc_protect.specs.Head.{Head, ShowsRequestHead}

-- what is kept of a request: its number, the value of its OSCORE option, its ciphertext, and the datagram of its reply, or no bytes until there is one (own rule)
pub record Kept : Type 0 where
  pub number : ℕ
  pub option : List ℕ
  pub text : List ℕ
  pub reply : List ℕ

-- the message is a protected request with this number, this value of its one OSCORE option and this ciphertext (RFC 8613, 8.2)
pub record Asks (p : Parts) (n : ℕ) (option text : List ℕ) : Type 0 where
  pub head : Head
  pub shows : ShowsRequestHead p head
  pub numbered : head.parts.piv ≡ Some n
  pub single : values_at oscore p.options ≡ option ∷ []
  pub sealed : p.payload ≡ text

-- the bytes are a datagram with these parts and a response's code (RFC 7252, 12.1)
pub record IsReply (p : Parts) (bytes : List ℕ) : Type 0 where
  pub datagram : IsDatagram p bytes
  pub code : is_response_code p.code ≡ true

-- the memory's answer to a request that it keeps: the reply that it keeps, under the head of a reply to the datagram at hand (RFC 7252, 4.5, 5.2 and 5.3.2)
pub record Recalls (memory : List Kept) (p : Parts) (mid : ℕ) (answer : Parts) : Type 0 where
  pub kept : Kept
  pub among : Contains memory kept
  pub asks : Asks p kept.number kept.option kept.text
  pub said : Parts
  pub says : IsReply said kept.reply
  pub is : answer ≡ as_reply p.kind p.message_id p.token mid said

-- the requests with other numbers (own rule)
abbrev pub others : ℕ → List Kept → List Kept
others n memory = filter (λ k. not (k.number == n)) memory

-- the last requests, as many as there is room for (own rule)
abbrev pub newest : ℕ → List Kept → List Kept
newest count memory = drop (length memory - count) memory

-- the memory with one more request, in the place of one with its number (own rule)
abbrev pub kept_after : ℕ → List Kept → Kept → List Kept
kept_after count memory k = newest count (others k.number memory ++ k ∷ [])

-- the memory with the reply to a request that it keeps (own rule)
pub record IsReplyKept (n : ℕ) (reply : List ℕ) (old new : List Kept) : Type 0 where
  pub place : ℕ
  pub kept : Kept
  pub there : slice_get old place ≡ Some kept
  pub numbered : kept.number ≡ n
  pub is : new ≡ slice_set old place (record kept { reply = reply })

-- no two of the requests have one number (own rule)
abbrev pub NumbersDiffer : List Kept → Type 0
NumbersDiffer memory = AllPairs (λ k l. k.number ≢ l.number) memory
