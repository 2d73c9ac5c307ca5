-- To be believed: how refusals print, each as its name.
use Rattle.std.specs.Prelude.{ℕ, List, ◌++◌, codes}
use Rattle.std.specs.Fmt.{decimal}
use Rattle.osc_client.specs.declared.client_outcome.RequestError.{RequestError}
use Rattle.osc_client.specs.declared.client_outcome.RequestError.TheVariants as requests

-- how a refusal to seal a request prints, an unsupported option with its number (own rule)
abbrev pub request_error_text : RequestError → List ℕ
request_error_text requests.NotThatKind = codes "NotThatKind"
request_error_text (requests.Unsupported n) = codes "Unsupported " ++ decimal n
request_error_text requests.TokenInUse = codes "TokenInUse"
request_error_text requests.PendingFull = codes "PendingFull"
request_error_text requests.SequenceExhausted = codes "SequenceExhausted"
request_error_text requests.TooLong = codes "TooLong"
request_error_text requests.NoRoom = codes "NoRoom"
request_error_text requests.KeeperFailed = codes "KeeperFailed"
