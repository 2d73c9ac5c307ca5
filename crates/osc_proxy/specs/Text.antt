-- To be believed: how refusals print: each as its name, a format fault as its own text.
use Rattle.std.specs.Prelude.{ℕ, List, codes}
use Rattle.osc_coap.specs.Text.{error_text}
use Rattle.osc_proxy.specs.declared.ask_error.AskProxyError.{AskProxyError}
use Rattle.osc_proxy.specs.declared.split_error.SplitError.{SplitError}
use Rattle.osc_proxy.specs.declared.split_error.SplitError.TheVariants as splits
use Rattle.osc_proxy.specs.declared.uri_error.UriError.{UriError}
use Rattle.osc_proxy.specs.declared.uri_error.UriError.TheVariants as uris
use Rattle.osc_proxy.specs.declared.ask_error.AskProxyError.TheVariants.{Format, NotRequest, Asked, SchemeLength, TooLong, NoRoom}

-- how a refusal to ask a proxy prints (own rule)
abbrev pub ask_error_text : AskProxyError → List ℕ
ask_error_text (Format e) = error_text e
ask_error_text NotRequest = codes "NotRequest"
ask_error_text Asked = codes "Asked"
ask_error_text SchemeLength = codes "SchemeLength"
ask_error_text TooLong = codes "TooLong"
ask_error_text NoRoom = codes "NoRoom"

-- how a refusal to read a URI prints (own rule)
abbrev pub uri_error_text : UriError → List ℕ
uri_error_text uris.Scheme = codes "Scheme"
uri_error_text uris.Fragment = codes "Fragment"
uri_error_text uris.Character = codes "Character"
uri_error_text uris.Authority = codes "Authority"
uri_error_text uris.Userinfo = codes "Userinfo"
uri_error_text uris.Host = codes "Host"
uri_error_text uris.Port = codes "Port"

-- how a refusal to split a Proxy-Uri prints (own rule)
abbrev pub split_error_text : SplitError → List ℕ
split_error_text (splits.Format e) = error_text e
split_error_text splits.NotRequest = codes "NotRequest"
split_error_text splits.NotOneProxyUri = codes "NotOneProxyUri"
split_error_text splits.Mixed = codes "Mixed"
split_error_text (splits.Uri e) = uri_error_text e
split_error_text splits.PartTooLong = codes "PartTooLong"
split_error_text splits.TooLong = codes "TooLong"
split_error_text splits.NoRoom = codes "NoRoom"
