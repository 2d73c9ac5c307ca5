-- To be believed: how refusals print, each as its name.
use Rattle.std.specs.Prelude.{ℕ, List, codes}
use Rattle.osc_client.specs.Text.{request_error_text}
use Rattle.osc_fresh.specs.declared.echo_request_error.EchoRequestError.{EchoRequestError}
use Rattle.osc_fresh.specs.declared.echo_request_error.EchoRequestError.TheVariants as refusals

-- how a refusal to seal a request with an added Echo value prints (own rule)
abbrev pub echo_request_error_text : EchoRequestError → List ℕ
echo_request_error_text refusals.NoRoomForEcho = codes "NoRoomForEcho"
echo_request_error_text (refusals.Refused e) = request_error_text e
