-- Two sources of numbers at one device: each exchange meets the premises on two ends, and a nonce comes twice.
use Rattle.std.proofs.Common.{◌≡◌, ℕ, ◌+◌, ap, refl, arith, inl}
use Rattle.osc_context.specs.Nonce.{nonce_of}
use Rattle.osc_context.specs.SecurityContext.{SecurityContext, IsUsable}
use Rattle.osc_context.specs.Views.{number_of}
use Rattle.osc_protect.specs.Sealed.{SealsRequest}
use Rattle.osc_client.specs.ClientHistory as client
use Rattle.osc_kept.specs.Examples.{Asked, Ends}
use Rattle.osc_kept.specs.Premises.{AtEach, Answers, IsKept}
use Rattle.osc_kept.specs.World.{World, Begin, Then, Client, Server, ClientStarts, ServerStarts, Reserves}
use Rattle.osc_kept.proofs.Beginning.{is_kept}
use Rattle.osc_kept.proofs.Examples.{OpeningLaws, asked_seals, sent_opens, zero_small}
use Rattle.osc_life.specs.declared.start.Start.TheVariants as starts
use Rattle.osc_peers.specs.Examples.{Dialogue, OneSourceIsNeeded, two_sources}
use Rattle.osc_peers.specs.Peers.{NoncesApart, back, forth}
use Rattle.osc_peers.specs.Roles.{turned}
use Rattle.osc_peers.proofs.Meeting.{is_used}
use Rattle.osc_peers.proofs.Peering.{usable_turned}

forth_kept : (n : ℕ) (s : SecurityContext) (x : Ends) (q : Asked) (e : Dialogue) → IsUsable s → AtEach (Answers n s) (forth (two_sources x q e)) → IsKept n s (forth (two_sources x q e))
forth_kept n s x q e u a =
    is_kept n s _ u a (((tt, tt), tt), tt) (((tt, tt), tt), tt)
    (((tt, record { client = (omega arith, omega arith); server = tt }), record { client = (refl, refl, omega arith); server = tt }), record { client = refl; server = tt })
    (((tt, tt), tt), tt)

back_kept : OpeningLaws → (n : ℕ) (s : SecurityContext) (x : Ends) (q : Asked) (e : Dialogue) → IsUsable s → AtEach (Answers n (turned s)) (back (two_sources x q e))
    → IsKept n (turned s) (back (two_sources x q e))
back_kept laws n s x q e u a =
    let begin : World = Then (Then (Then (Then Begin (ServerStarts (starts.Fresh x.zero_number) x.size)) (Reserves Server)) (ClientStarts 0 x.life_ms)) (Reserves Client) in
    let seals : SealsRequest (turned s) 0 e.request.plain e.request.bytes = asked_seals n (turned s) begin e.request (client.New (turned s) 0 x.life_ms) 0 refl refl refl a.0.0.1 in
    is_kept n (turned s) _ (usable_turned s u) a
    (((((((tt, tt), tt), tt), tt), tt), sent_opens laws (turned s) _ e.request.bytes 0 e.request.plain seals (inl refl)), tt)
    (((((((tt, tt), tt), tt), tt), tt), tt), tt) (
      (
        (
          (
            (((tt, record { client = tt; server = (omega arith, zero_small x) }), record { client = tt; server = (refl, refl, zero_small x) }), record { client = (omega arith, omega arith); server = tt }),
            record { client = (refl, refl, omega arith); server = tt },
          ),
          record { client = refl; server = tt },
        ),
        record { client = tt; server = tt },
      ),
      record { client = tt; server = is_used (omega arith) },
    )
    (((((((tt, refl), tt), tt), tt), tt), tt), tt)

one_twice : (s : SecurityContext) (x : Ends) (q : Asked) (e : Dialogue) → NoncesApart s (forth (two_sources x q e)) (back (two_sources x q e)) → ⊥
one_twice s x q e apart =
    let is_zero : number_of x.zero_number ≡ 0 = x.is_zero in
    let same : 0 ≡ number_of x.zero_number + 0 = omega (arith, is_zero) in
    apart _ _ (inl refl) (inl refl) (ap (λ (k : ℕ). nonce_of s.common_iv s.client k) same)

pub one_source_is_needed : OpeningLaws → OneSourceIsNeeded
one_source_is_needed laws n s x q e u a b = (forth_kept n s x q e u a, back_kept laws n s x q e u b, one_twice s x q e)
