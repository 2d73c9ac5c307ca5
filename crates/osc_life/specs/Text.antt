-- To be believed: how refusals print, each as its name.
use Rattle.std.specs.Prelude.{ℕ, List, ◌++◌, codes}
use Rattle.std.specs.Fmt.{decimal}
use Rattle.osc_life.specs.declared.server_error.AddError.{AddError}
use Rattle.osc_life.specs.declared.server_error.AddError.TheVariants.{Full, SameLookup}
use Rattle.osc_life.specs.declared.server_error.ReplaceError.{ReplaceError}
use Rattle.osc_life.specs.declared.server_error.ReplaceError.TheVariants as replaces
use Rattle.osc_life.specs.declared.server_error.RestartError.{RestartError}
use Rattle.osc_life.specs.declared.server_error.RestartError.TheVariants.{NoSuchContext, LivesExhausted}
use Rattle.osc_life.specs.declared.server_error.SkipError.{SkipError}
use Rattle.osc_life.specs.declared.server_error.SkipError.TheVariants as skips
use Rattle.osc_life.specs.declared.server_error.ReplyError.{ReplyError}
use Rattle.osc_life.specs.declared.server_error.ReplyError.TheVariants.{KeeperFailed, StaleTicket, NotObserving, NotThatKind, Unsupported, NotNotification, SequenceExhausted, TooLong, NoRoom}

-- how a refusal to add a context prints (own rule)
abbrev pub add_error_text : AddError → List ℕ
add_error_text Full = codes "Full"
add_error_text SameLookup = codes "SameLookup"

-- how a refusal to restart a context prints (own rule)
abbrev pub restart_error_text : RestartError → List ℕ
restart_error_text NoSuchContext = codes "NoSuchContext"
restart_error_text LivesExhausted = codes "LivesExhausted"

-- how a refusal to replace a context prints (own rule)
abbrev pub replace_error_text : ReplaceError → List ℕ
replace_error_text replaces.NoSuchContext = codes "NoSuchContext"
replace_error_text replaces.LivesExhausted = codes "LivesExhausted"
replace_error_text replaces.SameLookup = codes "SameLookup"
replace_error_text replaces.SameSender = codes "SameSender"

-- how a refusal to pass over numbers prints (own rule)
abbrev pub skip_error_text : SkipError → List ℕ
skip_error_text skips.NoSuchContext = codes "NoSuchContext"
skip_error_text skips.TooFewLeft = codes "TooFewLeft"

-- how a refusal to reply or to notify prints, an unsupported option with its number (own rule)
abbrev pub reply_error_text : ReplyError → List ℕ
reply_error_text KeeperFailed = codes "KeeperFailed"
reply_error_text StaleTicket = codes "StaleTicket"
reply_error_text NotObserving = codes "NotObserving"
reply_error_text NotThatKind = codes "NotThatKind"
reply_error_text (Unsupported n) = codes "Unsupported " ++ decimal n
reply_error_text NotNotification = codes "NotNotification"
reply_error_text SequenceExhausted = codes "SequenceExhausted"
reply_error_text TooLong = codes "TooLong"
reply_error_text NoRoom = codes "NoRoom"
