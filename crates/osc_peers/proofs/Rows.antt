-- An end that passed over no number answers by the rows of before. l is a life of a server's context, h a history of a client.
use Rattle.std.proofs.Common.{◌≡◌, ◌↔◌, ◌+◌, ◌<◌, ◌^◌, ◌≤◌, ℕ, List, Bool, true, ap, arith, refl, subst, sym, Some, None, length, max, if◌then◌else◌}
use Rattle.osc_coap.specs.Datagram.{Parts, IsDatagram}
use Rattle.osc_context.specs.Features.{unobserved}
use Rattle.osc_protect.specs.Protection.{notifications, requests as request_protection, responses}
use Rattle.osc_protect.specs.Sealed.{SealsNotification, SealsRequest, SealsResponse}
use Rattle.osc_protect.specs.SealRefusals.{IsPlainResponse, RefusesToSeal}
use Rattle.osc_protect.specs.declared.protect_error.ProtectError.TheVariants as seals
use Rattle.osc_observe.specs.Observing.{is_notification}
use Rattle.osc_client.specs.ClientAnswer.{ClientAnswer, HasPlace, IsNewRequest}
use Rattle.osc_client.specs.ClientHistory as client
use Rattle.osc_client.specs.declared.client_outcome.RequestError.TheVariants as requests
use Rattle.osc_life.specs.declared.server_error.ReplyError.TheVariants as replies
use Rattle.osc_life.specs.declared.server_error.SkipError.TheVariants as skips
use Rattle.osc_life.specs.Life.{Life, next_own}
use Rattle.osc_life.specs.LifeAnswer.{Arrival, LifeNotify, LifeReply, LifeRestart, LifeSkip, MeetsLifeRow, SaysChallenge, WantsEcho, challenge_given}
use Rattle.osc_life.specs.Replies.{as_reply, challenge_message}
use Rattle.osc_life.specs.ServerHistory as server
use Rattle.osc_peers.specs.Rows.{HasRowsOf, RowsAsBefore, passed_nothing}

-- of all that the rows read of a life, the next number alone is computed anew
own : (l : Life) → next_own (passed_nothing l) ≡ next_own l
own l = omega arith

row_is : (l : Life) (i n : ℕ) (a : Arrival) (x : server.Answer) → MeetsLifeRow (passed_nothing l) i n a x ≡ MeetsLifeRow l i n a x
row_is l i n a (server.Challenge j k given issued) =
    ap (λ (q : ℕ). WantsEcho l n a.clock a.bytes × (q < 2 ^ 40) × ((given, issued) ≡ challenge_given l a.clock a.echo) × (j ≡ i) × (k ≡ n)) (own l)
row_is l i n a server.SequenceExhausted = ap (λ (q : ℕ). WantsEcho l n a.clock a.bytes × (q < 2 ^ 40 → ⊥)) (own l)
row_is l i n a x = refl

challenge_row : (l : Life) (n : ℕ) (d : List ℕ) (mid : ℕ) (echo reply : List ℕ) → SaysChallenge (passed_nothing l) n d mid echo reply ≡ SaysChallenge l n d mid echo reply
challenge_row l n d mid echo reply = ap (λ (q : ℕ). (p : Parts) × IsDatagram p d × SealsResponse l.context n (Some q) (as_reply p.kind p.message_id p.token mid (challenge_message echo)) reply) (own l)

reply_row : (l : Life) (n : ℕ) (asks : Bool) (p : Parts) (room : ℕ) (x : server.Entry) → LifeReply (passed_nothing l) n asks p room x ≡ LifeReply l n asks p room x
reply_row l n asks p room (server.NotReplied replies.SequenceExhausted) =
    ap (λ (q : ℕ). IsPlainResponse (unobserved l.context.features) p × (asks ≡ true) × (q < 2 ^ 40 → ⊥)) (own l)
reply_row l n asks p room (server.NotReplied replies.TooLong) =
    ap (λ (q : ℕ). (asks ≡ true → q < 2 ^ 40) × RefusesToSeal (responses l.context n) (if asks then Some q else None) p room seals.TooLong) (own l)
reply_row l n asks p room (server.NotReplied replies.NoRoom) =
    ap (λ (q : ℕ). (asks ≡ true → q < 2 ^ 40) × RefusesToSeal (responses l.context n) (if asks then Some q else None) p room seals.NoRoom) (own l)
reply_row l n asks p room (server.Replied bytes) =
    ap (λ (q : ℕ). (asks ≡ true → q < 2 ^ 40) × SealsResponse l.context n (if asks then Some q else None) p bytes × (length bytes ≤ room)) (own l)
reply_row l n asks p room x = refl

notify_row : (l : Life) (n : ℕ) (p : Parts) (room : ℕ) (x : server.Entry) → LifeNotify (passed_nothing l) n p room x ≡ LifeNotify l n p room x
notify_row l n p room (server.NotReplied replies.SequenceExhausted) =
    ap (λ (q : ℕ). IsPlainResponse l.context.features p × (is_notification p.code p.options ≡ true) × (q < 2 ^ 40 → ⊥)) (own l)
notify_row l n p room (server.NotReplied replies.TooLong) =
    ap (λ (q : ℕ). (is_notification p.code p.options ≡ true) × (q < 2 ^ 40) × RefusesToSeal (notifications l.context n) (Some q) p room seals.TooLong) (own l)
notify_row l n p room (server.NotReplied replies.NoRoom) =
    ap (λ (q : ℕ). (is_notification p.code p.options ≡ true) × (q < 2 ^ 40) × RefusesToSeal (notifications l.context n) (Some q) p room seals.NoRoom) (own l)
notify_row l n p room (server.Replied bytes) =
    ap (λ (q : ℕ). (is_notification p.code p.options ≡ true) × (q < 2 ^ 40) × SealsNotification l.context n (Some q) p bytes × (length bytes ≤ room)) (own l)
notify_row l n p room x = refl

restart_row : (l : Life) (x : server.Entry) → LifeRestart (Some (passed_nothing l)) x ≡ LifeRestart (Some l) x
restart_row l x = refl

skip_row : (l : Life) (count : ℕ) (x : server.Entry) → LifeSkip (Some (passed_nothing l)) count x ≡ LifeSkip (Some l) count x
skip_row l count (server.NotSkipped skips.TooFewLeft) = ap (λ (q : ℕ). 2 ^ 40 < q + count) (own l)
skip_row l count server.Skipped = ap (λ (q : ℕ). q + count ≤ 2 ^ 40) (own l)
skip_row l count x = refl

-- ---- a client

abbrev after : client.History → client.History
after h = client.Then h (client.Skip 0) client.Skipped

asks : (h : client.History) → client.next (after h) ≡ client.next h
asks h = omega arith

request_row : (n : ℕ) (h : client.History) (now : ℕ) (p : Parts) (room : ℕ) (x : client.Entry) → ClientAnswer n (after h) (client.Request now p room) x ≡ ClientAnswer n h (client.Request now p room) x
request_row n h now p room (client.NotSent requests.SequenceExhausted) =
    ap (λ (q : ℕ). IsNewRequest h (max (client.clock h) now) p × HasPlace n h (max (client.clock h) now) p × (2 ^ 40 ≤ q)) (asks h)
request_row n h now p room (client.NotSent requests.TooLong) =
    ap (λ (q : ℕ). (IsNewRequest h (max (client.clock h) now) p × HasPlace n h (max (client.clock h) now) p × (q < 2 ^ 40))
    × RefusesToSeal (request_protection (client.context h)) q p room seals.TooLong) (asks h)
request_row n h now p room (client.NotSent requests.NoRoom) =
    ap (λ (q : ℕ). (IsNewRequest h (max (client.clock h) now) p × HasPlace n h (max (client.clock h) now) p × (q < 2 ^ 40))
    × RefusesToSeal (request_protection (client.context h)) q p room seals.NoRoom) (asks h)
request_row n h now p room (client.Sent bytes) =
    ap (λ (q : ℕ). (IsNewRequest h (max (client.clock h) now) p × HasPlace n h (max (client.clock h) now) p × (q < 2 ^ 40))
    × SealsRequest (client.context h) q p bytes × (length bytes ≤ room)) (asks h)
request_row n h now p room x = refl

response_row : (n : ℕ) (h : client.History) (now : ℕ) (d : List ℕ) (x : client.Answer) → ClientAnswer n (after h) (client.Datagram now d) (client.Took x) ≡ ClientAnswer n h (client.Datagram now d) (client.Took x)
response_row n h now d x = refl

client_row : (n : ℕ) (h : client.History) (event : client.Event) (x : client.Entry) → ClientAnswer n (after h) event x ≡ ClientAnswer n h event x
client_row n h (client.Request now p room) x = request_row n h now p room x
client_row n h (client.Datagram now d) (client.Took answer) = response_row n h now d answer
client_row n h (client.Skip count) client.NotSkipped = ap (λ (q : ℕ). 2 ^ 40 < q + count) (asks h)
client_row n h (client.Skip count) client.Skipped = ap (λ (q : ℕ). q + count ≤ 2 ^ 40) (asks h)
client_row n h event x = refl

-- ---- both

both : (A B : Type 0) → A ≡ B → A ↔ B
both A B e = (subst (λ (T : Type 0). T) e, subst (λ (T : Type 0). T) (sym e))

server_rows : (l : Life) → HasRowsOf (passed_nothing l) l
server_rows l = record {
  rows = λ i n a x. both _ _ (row_is l i n a x);
  challenges = λ n d mid echo reply. both _ _ (challenge_row l n d mid echo reply);
  replies = λ n asks p room x. both _ _ (reply_row l n asks p room x);
  notifies = λ n p room x. both _ _ (notify_row l n p room x);
  restarts = λ x. both _ _ (restart_row l x);
  skips = λ count x. both _ _ (skip_row l count x);
}

pub rows_as_before : RowsAsBefore
rows_as_before = record { server = server_rows; client = λ h n event x. both _ _ (client_row n h event x) }
