-- To be believed: how refusals print, each as its name.
use Rattle.std.specs.Prelude.{ℕ, List, codes}
use Rattle.osc_client.specs.Text.{request_error_text}
use Rattle.osc_life.specs.Text.{reply_error_text}
use Rattle.osc_message.specs.Calls.{begin_error_text}
use Rattle.osc_node.specs.declared.send_error.NotifyError.{NotifyError}
use Rattle.osc_node.specs.declared.send_error.NotifyError.TheVariants as notifies
use Rattle.osc_node.specs.declared.send_error.RespondError.{RespondError}
use Rattle.osc_node.specs.declared.send_error.RespondError.TheVariants as responds
use Rattle.osc_node.specs.declared.send_error.SendError.{SendError}
use Rattle.osc_node.specs.declared.send_error.SendError.TheVariants as sends

-- how a refusal to send a request prints (own rule)
abbrev pub send_error_text : SendError → List ℕ
send_error_text (sends.Layer e) = begin_error_text e
send_error_text sends.NoMessageId = codes "NoMessageId"
send_error_text (sends.Refused e) = request_error_text e

-- how a refusal to send a response prints (own rule)
abbrev pub respond_error_text : RespondError → List ℕ
respond_error_text responds.Forgotten = codes "Forgotten"
respond_error_text (responds.Layer e) = begin_error_text e
respond_error_text responds.NoMessageId = codes "NoMessageId"
respond_error_text (responds.Refused e) = reply_error_text e

-- how a refusal to send a notification prints (own rule)
abbrev pub notify_error_text : NotifyError → List ℕ
notify_error_text (notifies.Layer e) = begin_error_text e
notify_error_text notifies.NoMessageId = codes "NoMessageId"
notify_error_text (notifies.Refused e) = reply_error_text e
