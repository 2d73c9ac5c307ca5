-- To be believed: an end of a device whose other role has used no number answers as if it had no other role (RFC 8613, 3.1 and 7.2.1). l is a life of a server's
-- context, m that life after it passed over no number, h a history of a client, n how many pending requests the client has room for.
use Rattle.std.specs.Prelude.{◌↔◌, ℕ, List, Bool, Some}
use Rattle.osc_coap.specs.Datagram.{Parts}
use Rattle.osc_client.specs.ClientAnswer.{ClientAnswer}
use Rattle.osc_client.specs.ClientHistory as client
use Rattle.osc_life.specs.Life.{Life, PassedOver, marked}
use Rattle.osc_life.specs.LifeAnswer.{Arrival, LifeNotify, LifeReply, LifeRestart, LifeSkip, MeetsLifeRow, SaysChallenge}
use Rattle.osc_life.specs.ServerHistory.{Answer, Entry}

-- a life, after it passed over no number (RFC 8613, 7.2.1)
abbrev pub passed_nothing : Life → Life
passed_nothing l = marked (Some (PassedOver 0)) l

-- one life answers requests, replies, notifications, restarts and numbers to pass over by exactly the rows of the other (RFC 8613, 7.4, 8.2 to 8.3.1 and B.1.2)
pub record HasRowsOf (m l : Life) : Type 0 where
  pub rows : (i n : ℕ) (a : Arrival) (x : Answer) → MeetsLifeRow m i n a x ↔ MeetsLifeRow l i n a x
  pub challenges : (n : ℕ) (d : List ℕ) (mid : ℕ) (echo reply : List ℕ) → SaysChallenge m n d mid echo reply ↔ SaysChallenge l n d mid echo reply
  pub replies : (n : ℕ) (own : Bool) (p : Parts) (room : ℕ) (x : Entry) → LifeReply m n own p room x ↔ LifeReply l n own p room x
  pub notifies : (n : ℕ) (p : Parts) (room : ℕ) (x : Entry) → LifeNotify m n p room x ↔ LifeNotify l n p room x
  pub restarts : (x : Entry) → LifeRestart (Some m) x ↔ LifeRestart (Some l) x
  pub skips : (count : ℕ) (x : Entry) → LifeSkip (Some m) count x ↔ LifeSkip (Some l) count x

-- a client, after it passed over no number, answers each event by exactly the rows of before (RFC 8613, 8.1 and 8.4)
abbrev pub ClientHasRowsOf : client.History → Type 0
ClientHasRowsOf h = (n : ℕ) (event : client.Event) (x : client.Entry) → ClientAnswer n (client.Then h (client.Skip 0) client.Skipped) event x ↔ ClientAnswer n h event x

-- each life of a server and each client answer as before, once they passed over no number (RFC 8613, 3.1)
pub record RowsAsBefore : Type 0 where
  pub server : (l : Life) → HasRowsOf (passed_nothing l) l
  pub client : (h : client.History) → ClientHasRowsOf h
