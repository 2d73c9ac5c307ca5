-- How the code is seen: a Partial IV, an option and a context as numbers and lists, apart from where the bytes lie.
use Rattle.std.specs.Prelude.{◌≡◌, ℕ, Bool, Result, Ok, Err}
use Rattle.std.specs.Option.{option_copied, option_map}
use Rattle.osc_context.specs.declared.numbers.Numbers.{Numbers}
use Rattle.osc_context.specs.declared.partial_iv.Piv.{Piv}
use Rattle.osc_context.specs.declared.oscore_option.OscoreOption.{OscoreOption}
use Rattle.osc_context.specs.declared.option_error.OptionError.{OptionError}
use Rattle.osc_context.specs.declared.context.Context.{Context}
use Rattle.osc_context.specs.declared.parameters.Params.{Params}
use Rattle.osc_context.specs.OscoreValue.{OscoreParts}
use Rattle.osc_context.specs.SecurityContext.{SecurityContext}
use Rattle.osc_context.specs.Derivation.{context_of}

-- the number that a Partial IV holds, below 2 ^ 40 (how the code is seen)
abbrev pub number_of : Piv → ℕ
number_of piv = piv.number

-- the next number (how the code is seen)
abbrev pub next_of : Numbers → ℕ
next_of n = n.next

-- the first number that isn't reserved (how the code is seen)
abbrev pub limit_of : Numbers → ℕ
limit_of n = n.limit

-- the parts that an option says, as a number and lists (how the code is seen)
abbrev pub oscore_parts_of : OscoreOption → OscoreParts
oscore_parts_of o = record { piv = option_map number_of o.piv; kid_context = option_copied o.kid_context; kid = option_copied o.kid }

-- the result of reading is an option that says these parts (how the code is seen)
abbrev pub IsRead : Result OscoreOption OptionError → OscoreParts → Type 0
IsRead (Ok o) p = oscore_parts_of o ≡ p
IsRead (Err e) p = ⊥

-- the context of an end that makes requests: it is the client (RFC 8613, 3.1)
abbrev pub as_client : Context → SecurityContext
as_client c = record { client = c.sender_id; client_key = c.sender_key; server = c.recipient_id; server_key = c.recipient_key; common_iv = c.common_iv; id_context = c.id_context; features = c.features }

-- the context of an end that answers requests: the other end is the client (RFC 8613, 3.1)
abbrev pub as_server : Context → SecurityContext
as_server c = record { client = c.recipient_id; client_key = c.recipient_key; server = c.sender_id; server_key = c.sender_key; common_iv = c.common_iv; id_context = c.id_context; features = c.features }

-- the context's keys are used in constant time (own rule)
abbrev pub is_constant_time : Context → Bool
is_constant_time c = c.constant_time

-- the context of a client with the sender's identifier and a server with the recipient's (how the code is seen)
abbrev pub client_context_of : Params → SecurityContext
client_context_of g = context_of g.secret.now g.salt.now (option_copied g.id_context) g.sender.now g.recipient.now

-- the context of a client with the recipient's identifier and a server with the sender's (how the code is seen)
abbrev pub server_context_of : Params → SecurityContext
server_context_of g = context_of g.secret.now g.salt.now (option_copied g.id_context) g.recipient.now g.sender.now
