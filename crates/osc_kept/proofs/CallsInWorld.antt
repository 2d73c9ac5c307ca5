-- Ends whose numbers a call leaves as they were: a refused one's still run, a client goes on.
use Rattle.std.proofs.Common.{◌≡◌, ℕ, ◌≤◌, ◌^◌, ap, sym, subst, arith, Option, Some, None, Result, Ok, Err}
use Rattle.std.specs.Prelude.{IfErr, OnErr, unwrap_or}
use Rattle.std.specs.Option.{option_map}
use Rattle.osc_context.specs.SecurityContext.{SecurityContext}
use Rattle.osc_context.specs.Views.{next_of, number_of}
use Rattle.osc_context.specs.declared.keeper.Keeper as keeper
use Rattle.osc_context.specs.declared.partial_iv.Piv.{Piv}
use Rattle.osc_kept_ends.specs.declared.kept_client.KeptClient.{KeptClient}
use Rattle.osc_kept_ends.specs.declared.kept_server.KeptServer.{KeptServer}
use Rattle.osc_kept_ends.specs.declared.source.Source.{Source}
use Rattle.osc_client.specs.ClientHistory as client
use Rattle.osc_kept.specs.CallsInWorld.{ClientAfter, ClientRunsIn, RunsIn}
use Rattle.osc_kept.specs.EchoNumbers.{EchoesAreNumbers, IsLawfulByNumbers}
use Rattle.osc_kept.specs.GoingOn.{ClientRuns, GoesOn, ServerRuns}
use Rattle.osc_kept.specs.InWorld.{IsAsClaimed, ServerStays}
use Rattle.osc_kept_ends.specs.KeptAsking as asking
use Rattle.osc_kept_ends.specs.KeptServing as serving
use Rattle.osc_kept_ends.specs.Numbering.{upcoming}
use Rattle.osc_kept_ends.specs.Owning.{own_in}
use Rattle.osc_kept.specs.Premises.{IsKept, IsLawful}
use Rattle.osc_kept.specs.World.{World, AtClient, Client}

pub no_less : (a b c : ℕ) → a ≤ b → b ≤ c → a ≤ c
no_less a b c p q = omega (arith, p, q)

-- what an error leaves gives another thing
pub on_err : {A E X Y : Type 0} (r : Result A E) → (X → Y) → OnErr r X → OnErr r Y
on_err (Ok x) f a = tt
on_err (Err e) f a = f a

-- what an error says and what it leaves give another thing
pub both_err : {A E X : Type 0} {P Q : E → Type 0} (r : Result A E) → ((e : E) → P e → X → Q e) → IfErr r P → OnErr r X → IfErr r Q
both_err (Ok x) f a b = tt
both_err (Err e) f a b = f e a b

pub runs_still : {K : Type 0} {k : keeper.Ghosts K} (s : SecurityContext) (w : World) (old new : KeptServer K k) → new.server ≡ old.server → own_in new.source ≡ own_in old.source
    → RunsIn s w old → RunsIn s w new
runs_still s w old new server own (h, runs, kept) = (
  h,
  subst (ServerRuns s w h) (sym own) runs,
  subst (λ x. serving.IsKept x (upcoming (own_in new.source)) h) (sym server) (subst (λ o. serving.IsKept old.server (upcoming o) h) (sym own) kept),
)

pub client_runs_still : {K : Type 0} {k : keeper.Ghosts K} {N : ℕ} (s : SecurityContext) (w : World) (old new : KeptClient K N k) → new.client ≡ old.client → own_in new.source ≡ own_in old.source
    → ClientRunsIn s w old → ClientRunsIn s w new
client_runs_still s w old new client own (h, runs, kept) = (
  h,
  subst (ClientRuns s w h) (sym own) runs,
  subst (λ x. asking.IsKept x (upcoming (own_in new.source)) h) (sym client) (subst (λ o. asking.IsKept old.client (upcoming o) h) (sym own) kept),
)

-- a client whose numbers stay goes on
pub client_after : {K : Type 0} {k : keeper.Ghosts K} {N : ℕ} (s : SecurityContext) (w v : World) (h : client.History) (event : client.Event) (entry : client.Entry) (old new : KeptClient K N k)
    → new.source ≡ old.source → GoesOn Client s w (AtClient event entry) v (own_in old.source) (own_in old.source) → IsAsClaimed N s w v
    → ClientRuns s v (client.Then h event entry) (own_in old.source) → ServerStays s w v → asking.IsKept new.client (upcoming (own_in old.source)) (client.Then h event entry)
    → ClientAfter s w event entry old new
client_after s w v h event entry old new source goes claimed runs stays kept =
    let same = ap (λ x. own_in x) source in (
      v,
      subst (λ o. GoesOn Client s w (AtClient event entry) v (own_in old.source) o) (sym same) goes,
      claimed,
      (client.Then h event entry, subst (ClientRuns s v (client.Then h event entry)) (sym same) runs, subst (λ o. asking.IsKept new.client (upcoming o) (client.Then h event entry)) (sym same) kept),
      stays,
    )

-- the premises of a world with kept numbers, whose Echo values are made of numbers
pub lawful_by_numbers : (n : ℕ) (s : SecurityContext) (w : World) → IsKept n s w → EchoesAreNumbers s w → IsLawfulByNumbers n s w
lawful_by_numbers n s w k i =
    let x : IsLawful n s w = k.lawful in
    record { usable = x.usable; answers = x.answers; sealed = x.sealed; numbered = i; above = x.above; fresh = x.fresh }

-- the next number is at most 2 ^ 40
pub upcoming_small : {K : Type 0} {k : keeper.Ghosts K} (x : Source K k) → upcoming (own_in x) ≤ 2 ^ 40
upcoming_small x = in_hand_small x.in_hand
  where
    in_hand_small : (o : Option Piv) → unwrap_or (option_map number_of o) (next_of x.numbers) ≤ 2 ^ 40
    in_hand_small None =
        let a = x.numbers.ordered in
        let b = x.numbers.in_range in
        omega (arith, a, b)
    in_hand_small (Some p) = let a = p.in_range in omega (arith, a)
