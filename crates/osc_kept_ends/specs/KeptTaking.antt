-- To be believed: what a server whose numbers are kept makes of a datagram (RFC 8613, 8.2 and B.1). old and new are the server before and after, room and
-- out are the buffer of the reply before and after.
use Rattle.std.specs.Prelude.{◌≡◌, ◌≢◌, ℕ, ◌+◌, ◌≤◌, List, take, drop}
use Rattle.osc_context.specs.declared.keeper.Keeper as keeper
use Rattle.osc_life.specs.ServerHistory.{History, Then, Advance, Advanced}
use Rattle.osc_life.specs.declared.outcome.Outcome.TheVariants.{KeeperFailed}
use Rattle.osc_life.specs.declared.start.Fresh.{Fresh}
use Rattle.osc_life.specs.declared.outcome.Taken.{Taken}
use Rattle.osc_kept_ends.specs.declared.kept_server.KeptServer.{KeptServer}
use Rattle.osc_kept_ends.specs.KeptServing.{IsKept, KeptTakes}
use Rattle.osc_kept_ends.specs.Numbering.{upcoming}
use Rattle.osc_kept_ends.specs.Owning.{own_in}

-- the datagram is answered by the table with these fresh values; if the keeper fails, only the clock moves, and there is no reply (RFC 8613, 8.2 and B.1.1)
pub record TakesDatagram {K : Type 0} {g : keeper.Ghosts K} (now : ℕ) (fresh : Fresh) (d : List ℕ) (old new : KeptServer K g) (result : Taken) (room out : List ℕ) : Type 0 where
  pub answered : result.outcome ≢ KeeperFailed → (h : History) → IsKept old.server (upcoming (own_in old.source)) h
      → KeptTakes h now fresh d result.outcome (take result.reply out) (own_in old.source) (own_in new.source) new.server
  pub failed : result.outcome ≡ KeeperFailed → g.failures new.source.keeper ≡ g.failures old.source.keeper + 1
  pub worked : result.outcome ≢ KeeperFailed → g.failures new.source.keeper ≡ g.failures old.source.keeper
  pub clock_alone : result.outcome ≡ KeeperFailed → (h : History) → IsKept old.server (upcoming (own_in old.source)) h
      → IsKept new.server (upcoming (own_in new.source)) (Then h (Advance now) Advanced)
  pub unchanged : result.outcome ≡ KeeperFailed → (own_in new.source ≡ own_in old.source) × (result.reply ≡ 0)
  pub within : result.reply ≤ 64
  pub behind : drop result.reply out ≡ drop result.reply room
