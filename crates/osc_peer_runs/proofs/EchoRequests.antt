-- A request with the Echo value that was heard last, as a step of a run. p is its plain message, o the first Echo value of that, q what is remembered of Echo values.
use Rattle.std.proofs.Common.{◌≡◌, ℕ, ap, sym, subst, refl, List, Option, Some, None, Result, Ok, Err}
use Rattle.osc_coap.specs.Datagram.{Parts, IsDatagram}
use Rattle.osc_context.specs.declared.record_keeper.RecordKeeper as keeper
use Rattle.osc_client.specs.ClientHistory as client
use Rattle.osc_client.specs.declared.client_outcome.RequestError.{RequestError}
use Rattle.osc_client.specs.declared.client_outcome.RequestError.TheVariants as requests
use Rattle.osc_endpoint.specs.declared.client_event.ClientEntry.{ClientEntry}
use Rattle.osc_endpoint.specs.declared.client_event.ClientEntry.TheVariants as asked
use Rattle.osc_life.specs.ServerHistory as server
use Rattle.osc_kept_ends.specs.declared.kept_peer.KeptPeer.{KeptPeer}
use Rattle.osc_fresh.specs.Echoing.{echo_in}
use Rattle.osc_fresh.specs.Views.{echo_entry}
use Rattle.osc_fresh.specs.WithEcho.{LacksEchoRoom, echoing}
use Rattle.osc_fresh.specs.declared.echo_request_error.EchoRequestError.{EchoRequestError}
use Rattle.osc_fresh.specs.declared.echo_request_error.EchoRequestError.TheVariants as refusals
use Rattle.osc_peer_runs.specs.PeerCalls.{IsBehind, unsealed_entry}
use Rattle.osc_peer_runs.specs.PeerRuns.{EchoSealStep, EchoStep, Echoes, SealStep, StaysAt, peer_state, with_echoes}

-- ---- what is said of a result that is known

-- the results of a request
abbrev Sealing : Type 0
Sealing = Result ℕ EchoRequestError

refused_roomy : (e : RequestError) → ◌≡◌ {A = Sealing} (Err (refusals.Refused e)) (Err refusals.NoRoomForEcho) → ⊥
refused_roomy e says = cc

-- a refusal of the peer's own
pub refused_as : (x : EchoRequestError) (e f : RequestError) → x ≡ refusals.Refused e → ◌≡◌ {A = Sealing} (Err x) (Err (refusals.Refused f)) → e ≡ f
refused_as x e f is says = cc

pub refused_is : (x : EchoRequestError) (e f : RequestError) → x ≡ refusals.Refused e → e ≡ f → ◌≡◌ {A = Sealing} (Err x) (Err (refusals.Refused f))
refused_is x e f is same = cc

pub refused_entry : (x : EchoRequestError) (e : RequestError) (out : List ℕ) → x ≡ refusals.Refused e → echo_entry (Err x) out ≡ Some (client.NotSent e)
refused_entry x e out is = ap (λ (z : EchoRequestError). echo_entry (Err z) out) is

-- a request that was sealed isn't refused
pub sealed_is : (n : ℕ) (x : EchoRequestError) → ◌≡◌ {A = Sealing} (Ok n) (Err x) → ⊥
sealed_is n x says = cc

-- ---- steps

-- a peer that stays as it was stays at its state
pub stays_behind : {R : Type 0} {r : keeper.Ghosts R} {N : ℕ} (old new : KeptPeer R N r) (q : Echoes) (h : server.History) (k : client.History) (ts us : List (Option server.TicketValues))
    → IsBehind old h k → new ≡ old → StaysAt (with_echoes q (peer_state h k old.source ts)) (with_echoes q (peer_state h k new.source us)) × IsBehind new h k
stays_behind {R = R} {r = r} {N = N} old new q h k ts us b same =
    ((refl, refl, ap (λ (x : KeptPeer R N r). x.source) same), subst (λ (x : KeptPeer R N r). IsBehind x h k) (sym same) b)

-- a refused request: for its Echo option, which changes nothing, or as the client answers
pub echo_unsent_step : {R : Type 0} {r : keeper.Ghosts R} {N : ℕ} (old new : KeptPeer R N r) (q : Echoes) (heard o : Option (List ℕ)) (h : server.History) (k : client.History)
    (ts us : List (Option server.TicketValues)) (now room out : ℕ) (p : Parts) (e : RequestError) → IsBehind old h k
    → ((value : List ℕ) → o ≡ Some value → (e ≡ requests.Unsupported 252) × (new ≡ old))
    → (LacksEchoRoom heard p room → ⊥)
    → (o ≡ None → (g : server.History) × (m : client.History)
    × SealStep N (with_echoes q (peer_state h k old.source ts)) now (echoing heard p) out (asked.NotSent e) (with_echoes q (peer_state g m new.source us)) × IsBehind new g m)
    → (g : server.History) × (m : client.History)
    × EchoSealStep o N heard (with_echoes q (peer_state h k old.source ts)) now p room out (asked.NotSent e) (with_echoes q (peer_state g m new.source us)) × IsBehind new g m
echo_unsent_step old new q heard (Some value) h k ts us now room out p e b foreign fits due =
    let f = foreign value refl in
    let (stays, behind) = stays_behind old new q h k ts us b f.1 in
    (h, k, (ap asked.NotSent f.0, stays), behind)
echo_unsent_step old new q heard None h k ts us now room out p e b foreign fits due =
    let (g, m, step, behind) = due refl in
    (g, m, (fits, step), behind)

-- a refusal: of an Echo option, for want of room, or as the client refuses
pub echo_refused_step : {R : Type 0} {r : keeper.Ghosts R} {N : ℕ} (old new : KeptPeer R N r) (q : Echoes) (heard : Option (List ℕ)) (h : server.History) (k : client.History)
    (ts us : List (Option server.TicketValues)) (now room out : ℕ) (plain : List ℕ) (p : Parts) (x : EchoRequestError) → IsDatagram p plain → IsBehind old h k
    → ((value : List ℕ) → echo_in p ≡ Some value → (◌≡◌ {A = Sealing} (Err x) (Err (refusals.Refused (requests.Unsupported 252)))) × (new ≡ old))
    → (◌≡◌ {A = Sealing} (Err x) (Err refusals.NoRoomForEcho) → LacksEchoRoom heard p room)
    → (LacksEchoRoom heard p room → ◌≡◌ {A = Sealing} (Err x) (Err refusals.NoRoomForEcho))
    → (◌≡◌ {A = Sealing} (Err x) (Err refusals.NoRoomForEcho) → new ≡ old)
    → ((e : RequestError) → x ≡ refusals.Refused e → echo_in p ≡ None → (g : server.History) × (m : client.History)
    × SealStep N (with_echoes q (peer_state h k old.source ts)) now (echoing heard p) out (asked.NotSent e) (with_echoes q (peer_state g m new.source us)) × IsBehind new g m)
    → (g : server.History) × (m : client.History)
    × EchoStep N heard (with_echoes q (peer_state h k old.source ts)) now plain room out (unsealed_entry x) (with_echoes q (peer_state g m new.source us)) × IsBehind new g m
echo_refused_step old new q heard h k ts us now room out plain p refusals.NoRoomForEcho is b echoes roomless lacking same due =
    let (stays, behind) = stays_behind old new q h k ts us b (same refl) in
    (h, k, (p, is, roomless refl, stays), behind)
echo_refused_step old new q heard h k ts us now room out plain p (refusals.Refused e) is b echoes roomless lacking same due =
    let (g, m, step, behind) = echo_unsent_step old new q heard (echo_in p) h k ts us now room out p e b
    (λ value has. (refused_as (refusals.Refused e) e (requests.Unsupported 252) refl (echoes value has).0, (echoes value has).1))
    (λ lacks. refused_roomy e (lacking lacks)) (due e refl) in
    (g, m, (p, is, step), behind)

-- a request that is sealed has no Echo option of the application
pub no_echo : (o : Option (List ℕ)) → ((value : List ℕ) → o ≡ Some value → ⊥) → o ≡ None
no_echo (Some value) never = absurd (never value refl)
no_echo None never = refl

pub echo_seal_step : {R : Type 0} {r : keeper.Ghosts R} {N : ℕ} (old new : KeptPeer R N r) (q : Echoes) (heard o : Option (List ℕ)) (h g : server.History) (k m : client.History)
    (ts us : List (Option server.TicketValues)) (now room out : ℕ) (p : Parts) (x : ClientEntry) → o ≡ None → (LacksEchoRoom heard p room → ⊥)
    → SealStep N (with_echoes q (peer_state h k old.source ts)) now (echoing heard p) out x (with_echoes q (peer_state g m new.source us))
    → EchoSealStep o N heard (with_echoes q (peer_state h k old.source ts)) now p room out x (with_echoes q (peer_state g m new.source us))
echo_seal_step {N = N} old new q heard o h g k m ts us now room out p x is fits step =
    subst (λ (z : Option (List ℕ)). EchoSealStep z N heard (with_echoes q (peer_state h k old.source ts)) now p room out x (with_echoes q (peer_state g m new.source us))) (sym is) (fits, step)
