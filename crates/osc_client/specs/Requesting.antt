-- For the proofs: how a client seals a request.
use Rattle.std.specs.Prelude.{◌≡◌, ◌⊎◌, ℕ, List, Option, Some, None, remove, take, Result, Ok, Err}
use Rattle.osc_coap.specs.Datagram.{Parts}
use Rattle.osc_context.specs.declared.features.Features.{Features}
use Rattle.osc_context.specs.declared.partial_iv.Piv.{Piv}
use Rattle.osc_protect.specs.SealRefusals.{IsPlainRequest, RefusesPlainRequest}
use Rattle.osc_protect.specs.declared.protect_error.ProtectError.{ProtectError}
use Rattle.osc_protect.specs.declared.protect_error.ProtectError.TheVariants as protects
use Rattle.osc_client.specs.declared.client_outcome.RequestError.{RequestError}
use Rattle.osc_client.specs.declared.client_outcome.RequestError.TheVariants.{NotThatKind, Unsupported, TooLong, NoRoom}
use Rattle.osc_client.specs.ClientHistory.{Asked, Entry, Sent, NotSent}

-- the refusal of a request that follows from a refusal to seal (own rule)
abbrev pub lifted : ProtectError → RequestError
lifted protects.NotThatKind = NotThatKind
lifted (protects.Unsupported n) = Unsupported n
lifted protects.TooLong = TooLong
lifted protects.NoRoom = NoRoom

-- why a request isn't sealed for which there is this other reason: what keeps it from being sealed at all comes first (own rule: the order)
abbrev pub IsFirstReason : Features → Parts → RequestError → RequestError → Type 0
IsFirstReason x p other reason = (IsPlainRequest x p × (reason ≡ other)) ⊎ ((e : ProtectError) × RefusesPlainRequest x p e × (reason ≡ lifted e))

-- the requests without the one at this place, if one is named (how the code is seen)
abbrev pub without_place : Option ℕ → List Asked → List Asked
without_place None requests = requests
without_place (Some place) requests = remove requests place

-- the entry of a Request whose number is known too (how the code is seen)
abbrev pub sent_entry : Result (Piv × ℕ) RequestError → List ℕ → Entry
sent_entry (Ok r) out = Sent (take r.1 out)
sent_entry (Err e) out = NotSent e
