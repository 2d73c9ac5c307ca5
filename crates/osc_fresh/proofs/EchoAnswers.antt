-- What becomes of a request to which an Echo value is added. p is the plain message, heard the value that was heard last.
use Rattle.std.proofs.Common.{◌≡◌, ℕ, List, Option, Some, None, sym, subst, ◌∙◌, Result, Err}
use Rattle.osc_coap.specs.Datagram.{Parts, datagram_length}
use Rattle.osc_coap.specs.Writing.{LacksRoom}
use Rattle.osc_coap.proofs.Refusals.{room_apart}
use Rattle.osc_client.specs.ClientHistory as client
use Rattle.osc_client.specs.declared.client_outcome.RequestError.{RequestError}
use Rattle.osc_fresh.specs.WithEcho.{LacksEchoRoom, TakesEcho, due, with_echo}
use Rattle.osc_fresh.specs.declared.echo_request_error.EchoRequestError.{EchoRequestError}
use Rattle.osc_fresh.specs.declared.echo_request_error.EchoRequestError.TheVariants as refusals

pub some_entry : (x y : client.Entry) → Some x ≡ Some y → x ≡ y
some_entry x y e = cc

some_value : (x y : List ℕ) → Some x ≡ Some y → x ≡ y
some_value x y e = cc

pub none_some : (o : Option (List ℕ)) (x : List ℕ) → o ≡ None → o ≡ Some x → ⊥
none_some o x none some = let bad : None ≡ Some x = sym none ∙ some in cc

pub no_entry : (x : client.Entry) → None ≡ Some x → ⊥
no_entry x e = cc

-- a refusal of the peer's own is that one
pub same_error : (e f : RequestError) → ◌≡◌ {A = Result ℕ EchoRequestError} (Err (refusals.Refused e)) (Err (refusals.Refused f)) → e ≡ f
same_error e f h = cc

-- and isn't one for want of room
pub other_error : (e : RequestError) → ◌≡◌ {A = Result ℕ EchoRequestError} (Err (refusals.Refused e)) (Err refusals.NoRoomForEcho) → ⊥
other_error e h = cc

-- what is written had room
pub has_echo_room : (heard : Option (List ℕ)) (p : Parts) (room : ℕ) (value : List ℕ) → due heard p ≡ Some value → TakesEcho room value p → LacksEchoRoom heard p room → ⊥
has_echo_room heard p room value is takes lacks =
    let same : value ≡ lacks.0 = some_value value lacks.0 (sym is ∙ lacks.1) in
    room_apart room (datagram_length (with_echo value p)) takes.1 (subst (λ (v : List ℕ). LacksRoom room (datagram_length (with_echo v p))) (sym same) lacks.3)
