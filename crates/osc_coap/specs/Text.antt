-- To be believed: how faults print: the name, and then the place as a decimal number (own rule).
use Rattle.std.specs.Prelude.{ℕ, List, ◌++◌, codes, decimal}
use Rattle.osc_coap.specs.declared.format_error.Fault.{Fault}
use Rattle.osc_coap.specs.declared.format_error.Fault.TheVariants.{DatagramTooLong, Short, Version, TokenLength, EmptyWithRest, TokenCut, Nibble15, OptionCut, NumberTooLarge, EmptyPayload}
use Rattle.osc_coap.specs.declared.format_error.FormatError.{FormatError}
use Rattle.osc_coap.specs.declared.write_error.WriteError.{WriteError}
use Rattle.osc_coap.specs.declared.write_error.WriteError.TheVariants as refusal

-- the name of a fault, as it prints (own rule)
abbrev pub fault_name : Fault → List ℕ
fault_name DatagramTooLong = codes "DatagramTooLong"
fault_name Short = codes "Short"
fault_name Version = codes "Version"
fault_name TokenLength = codes "TokenLength"
fault_name EmptyWithRest = codes "EmptyWithRest"
fault_name TokenCut = codes "TokenCut"
fault_name Nibble15 = codes "Nibble15"
fault_name OptionCut = codes "OptionCut"
fault_name NumberTooLarge = codes "NumberTooLarge"
fault_name EmptyPayload = codes "EmptyPayload"

-- a fault and its place, as they print, such as EmptyPayload at 4 (own rule)
abbrev pub error_text : FormatError → List ℕ
error_text e = fault_name e.fault ++ (codes " at " ++ decimal e.place)

-- the name of a writer's refusal, as it prints (own rule)
abbrev pub refusal_name : WriteError → List ℕ
refusal_name refusal.EmptyWithRest = codes "EmptyWithRest"
refusal_name refusal.Order = codes "Order"
refusal_name refusal.ValueTooLong = codes "ValueTooLong"
refusal_name refusal.NoRoom = codes "NoRoom"
