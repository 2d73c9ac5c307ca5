-- To be believed: the Type of a reply in a message of its own.
use Rattle.osc_coap.specs.declared.message.Kind.{Kind}
use Rattle.osc_coap.specs.declared.message.Kind.TheVariants as kinds
use Rattle.osc_message.specs.declared.separate.Separate.{Separate}
use Rattle.osc_message.specs.declared.separate.Separate.TheVariants.{Con, Non}

-- the Type of such a reply (RFC 7252, 5.2.2)
abbrev pub kind_of : Separate → Kind
kind_of Con = kinds.Con
kind_of Non = kinds.Non
