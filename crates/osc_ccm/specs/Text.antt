-- To be believed: how the refusals print: each as its name.
use Rattle.std.specs.Prelude.{ℕ, List, codes}
use Rattle.osc_ccm.specs.declared.sealing.SealError.{SealError}
use Rattle.osc_ccm.specs.declared.sealing.SealError.TheVariants as sealing
use Rattle.osc_ccm.specs.declared.opening.OpenError.{OpenError}
use Rattle.osc_ccm.specs.declared.opening.OpenError.TheVariants as opening

-- the name of a refusal to seal, as it prints (own rule)
abbrev pub seal_error_name : SealError → List ℕ
seal_error_name sealing.TooLong = codes "TooLong"
seal_error_name sealing.NoRoom = codes "NoRoom"

-- the name of a refusal to open, as it prints (own rule)
abbrev pub open_error_name : OpenError → List ℕ
open_error_name opening.Short = codes "Short"
open_error_name opening.TooLong = codes "TooLong"
open_error_name opening.BadTag = codes "BadTag"
