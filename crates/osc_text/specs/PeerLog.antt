-- To be believed: how the entries of a peer print, one per line (own rule: the words)
use Rattle.std.specs.Prelude.{ℕ, Bool, true, false, List, ◌++◌, Ok, Err, codes}
use Rattle.std.specs.Fmt.{decimal}
use Rattle.osc_context.specs.Views.{number_of}
use Rattle.osc_fresh.specs.Text.{echo_request_error_text}
use Rattle.osc_fresh.specs.declared.echo_request_error.EchoRequestError.TheVariants as echo_requests
use Rattle.osc_fresh.specs.declared.followed.Followed.TheVariants as followed
use Rattle.osc_life.specs.Text.{reply_error_text}
use Rattle.osc_peer_runs.specs.declared.peer_event.PeerEntry.{PeerEntry}
use Rattle.osc_peer_runs.specs.declared.peer_event.PeerEntry.TheVariants.{Advanced, Asked, Challenged, Followed, NoRoomForEcho, Served}
use Rattle.osc_text.specs.ClientLog.{asked_text, outcome_text}
use Rattle.osc_text.specs.Lines.{bytes_text}
use Rattle.osc_text.specs.ServerLog.{entry_text}

-- a challenge that a client heard: whether it says that its request wasn't obeyed, the number of that request, and the Echo value (own rule)
abbrev pub challenge_text : Bool → ℕ → List ℕ → List ℕ
challenge_text true number echo = codes "unobeyed " ++ (decimal number ++ (codes " " ++ bytes_text echo))
challenge_text false number echo = codes "perhaps-obeyed " ++ (decimal number ++ (codes " " ++ bytes_text echo))

-- an entry of a peer: printed as a server's or as a client's entry, the challenge to a request that isn't known to be fresh, why there is none, that there is no room
-- for an Echo value, a challenge that was heard or else what was heard, or that the clocks were moved (own rule)
abbrev pub peer_entry_text : PeerEntry → List ℕ
peer_entry_text (Served entry) = entry_text entry
peer_entry_text (Challenged (Ok sealed)) = codes "challenged " ++ bytes_text sealed.datagram.now
peer_entry_text (Challenged (Err e)) = codes "refused: " ++ reply_error_text e
peer_entry_text (Asked entry) = asked_text entry
peer_entry_text NoRoomForEcho = codes "refused: " ++ echo_request_error_text echo_requests.NoRoomForEcho
peer_entry_text (Followed (followed.Challenged c number)) = challenge_text c.unobeyed (number_of number) c.echo.now
peer_entry_text (Followed (followed.Heard outcome)) = outcome_text outcome
peer_entry_text Advanced = codes "advanced"
