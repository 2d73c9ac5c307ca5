-- To be believed: what the bytes of a server of one context say. s are the bytes, b the bytes of its context.
use Rattle.std.specs.Prelude.{◌∷◌, [], List}
use Rattle.osc_handle.specs.ServerParts.{ServerParts}
use Rattle.osc_handle.specs.declared.single_server_handle.SingleServerHandle.{SingleServerHandle}
use Rattle.osc_handle.specs.declared.slot_handle.SlotHandle.{SlotHandle}

-- the table that has only this context, at index 0 (own rule)
abbrev pub table_of : SlotHandle → List SlotHandle
table_of b = b ∷ []

-- the server that has only this context, and the numbers of its requests that are waiting (own rule)
abbrev pub server_of_one : SingleServerHandle → ServerParts
server_of_one s = record { clock = s.clock; contexts = table_of s.slot; unanswered = s.unanswered ∷ [] }
