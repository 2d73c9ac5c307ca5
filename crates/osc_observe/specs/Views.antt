-- How the code is seen: what a message that was opened says.
use Rattle.osc_protect.specs.Views.{shown, message_of, opened_number}
use Rattle.osc_protect.specs.declared.opened.Opened.{Opened}
use Rattle.osc_observe.specs.Received.{Received}

-- what an opened message says (how the code is seen)
abbrev pub received_of : Opened → Received
received_of o = record { kind = o.kind; message_id = o.message_id; token = o.token.items; uri_host = shown o.uri_host; uri_port = shown o.uri_port; number = opened_number o; message = message_of o }
