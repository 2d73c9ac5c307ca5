-- How the code is seen: the key of a context's cipher, and which cipher it is.
use Rattle.std.specs.Prelude.{◌≡◌, ℕ, List, Bool, true, false, length}
use Rattle.osc_aes.specs.Keyed.{key_of, narrow_key_of, plane_key_of}
use Rattle.osc_protect.specs.declared.context_cipher.ContextCipher.{ContextCipher}
use Rattle.osc_protect.specs.declared.context_cipher.ContextCipher.TheVariants.{ByTables, ByTablesOf, ConstantTime, ConstantTimeOf}
use Rattle.osc_protect.specs.declared.context_cipher.KeptSchedule.{KeptSchedule}
use Rattle.osc_protect.specs.declared.context_cipher.KeptSchedule.TheVariants.{Tables, Planes}
use Rattle.osc_protect.specs.declared.context_cipher.Schedule.{Schedule}
use Rattle.osc_protect.specs.declared.context_cipher.Schedule.TheVariants as schedules

-- the key of a schedule (how the code is seen)
abbrev pub schedule_key : Schedule → List ℕ
schedule_key (schedules.Tables schedule) = key_of schedule.now
schedule_key (schedules.Planes schedule) = plane_key_of schedule.now

-- it has 16 bytes (FIPS 197, 5)
abbrev pub schedule_key_length : (schedule : Schedule) → length (schedule_key schedule) ≡ 16
schedule_key_length (schedules.Tables schedule) = schedule.now.key_len
schedule_key_length (schedules.Planes schedule) = schedule.now.key_len

-- the key of the cipher (how the code is seen)
abbrev pub key_under : ContextCipher → List ℕ
key_under (ByTables schedule) = key_of schedule.now
key_under (ConstantTime schedule) = narrow_key_of schedule.now
key_under (ByTablesOf key) = key.now
key_under (ConstantTimeOf key) = key.now

-- the cipher is the one in constant time (own rule)
abbrev pub is_in_constant_time : ContextCipher → Bool
is_in_constant_time (ByTables schedule) = false
is_in_constant_time (ConstantTime schedule) = true
is_in_constant_time (ByTablesOf key) = false
is_in_constant_time (ConstantTimeOf key) = true

-- the key of a schedule that is kept (how the code is seen)
abbrev pub kept_key : KeptSchedule → List ℕ
kept_key (Tables schedule) = key_of schedule
kept_key (Planes schedule) = narrow_key_of schedule

-- the schedule that is kept is of the cipher in constant time (own rule)
abbrev pub keeps_constant_time : KeptSchedule → Bool
keeps_constant_time (Tables schedule) = false
keeps_constant_time (Planes schedule) = true
