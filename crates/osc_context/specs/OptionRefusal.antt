-- To be believed: why bytes aren't a value of the OSCORE option (RFC 8613, 6.1; own rules: three of the reasons). Each
-- reason has a definition, in the order in which the reasons are judged.
use Rattle.std.specs.Prelude.{◌≡◌, ◌≢◌, ℕ, ◌+◌, ◌/◌, ◌%◌, ◌<◌, List, length, slice_index, ◌==◌, if◌then◌else◌, codes}
use Rattle.osc_context.specs.declared.option_error.OptionError.{OptionError}
use Rattle.osc_context.specs.declared.option_error.OptionError.TheVariants.{TooLong, Reserved, PivLength, ZeroFlag, Cut, LeadingZero, Trailing}

-- the flag byte, which is the first byte, or 0 if there are no bytes (RFC 8613, 6.1)
abbrev pub flag_of : List ℕ → ℕ
flag_of bytes = slice_index bytes 0

-- the length of the Partial IV, from the low three bits of the flag byte (RFC 8613, 6.1)
abbrev pub piv_len_of : List ℕ → ℕ
piv_len_of bytes = flag_of bytes % 8

-- the bit that says whether there is a kid (RFC 8613, 6.1)
abbrev pub kid_flag_of : List ℕ → ℕ
kid_flag_of bytes = flag_of bytes / 8 % 2

-- the bit that says whether there is a kid context (RFC 8613, 6.1)
abbrev pub kid_context_flag_of : List ℕ → ℕ
kid_context_flag_of bytes = flag_of bytes / 16 % 2

-- how many bytes come before the kid, according to the flag byte (RFC 8613, 6.1)
abbrev pub front_len : List ℕ → ℕ
front_len bytes = 1 + piv_len_of bytes
    + (if kid_context_flag_of bytes == 1 then 1 + slice_index bytes (1 + piv_len_of bytes) else 0)

-- more bytes than an OSCORE option can have (RFC 8613, 2)
abbrev pub IsTooLong : List ℕ → Type 0
IsTooLong bytes = 255 < length bytes

-- one of the top three bits of the flag byte is set (RFC 8613, 6.1)
abbrev pub HasReservedFlags : List ℕ → Type 0
HasReservedFlags bytes = flag_of bytes / 32 ≢ 0

-- the length of the Partial IV is a reserved length, 6 or 7 (RFC 8613, 6.1)
abbrev pub HasReservedPivLen : List ℕ → Type 0
HasReservedPivLen bytes = 5 < piv_len_of bytes

-- own rule: a flag byte of 0 is written, although an empty value stands for it (RFC 8613, 6.1)
abbrev pub HasZeroFlag : List ℕ → Type 0
HasZeroFlag bytes = (0 < length bytes) × (flag_of bytes ≡ 0)

-- there are fewer bytes than the flag byte says come before the kid (RFC 8613, 6.1)
abbrev pub IsCut : List ℕ → Type 0
IsCut bytes = (0 < length bytes) × (length bytes < front_len bytes)

-- own rule: a Partial IV of two or more bytes that begins with 0 (RFC 8613, 5)
abbrev pub HasLeadingZero : List ℕ → Type 0
HasLeadingZero bytes = (1 < piv_len_of bytes) × (slice_index bytes 1 ≡ 0)

-- own rule: there are bytes in the place of a kid, but no kid flag (RFC 8613, 6.1)
abbrev pub HasTrailing : List ℕ → Type 0
HasTrailing bytes = (kid_flag_of bytes ≡ 0) × (0 < length bytes) × (front_len bytes < length bytes)

-- the condition of each refusal, whatever else is wrong (RFC 8613, 6.1)
abbrev pub RefusesValue : List ℕ → OptionError → Type 0
RefusesValue bytes TooLong = IsTooLong bytes
RefusesValue bytes Reserved = HasReservedFlags bytes
RefusesValue bytes PivLength = HasReservedPivLen bytes
RefusesValue bytes ZeroFlag = HasZeroFlag bytes
RefusesValue bytes Cut = IsCut bytes
RefusesValue bytes LeadingZero = HasLeadingZero bytes
RefusesValue bytes Trailing = HasTrailing bytes

-- the place of a refusal in the order of judging (own rule)
abbrev pub value_rank : OptionError → ℕ
value_rank TooLong = 0
value_rank Reserved = 1
value_rank PivLength = 2
value_rank ZeroFlag = 3
value_rank Cut = 4
value_rank LeadingZero = 5
value_rank Trailing = 6

-- the refusal holds for the bytes, and none judged before it does (own rule)
pub record IsFirstValueRefusal (bytes : List ℕ) (e : OptionError) : Type 0 where
  pub holds : RefusesValue bytes e
  pub first : (f : OptionError) → value_rank f < value_rank e → ¬ RefusesValue bytes f

-- what a refusal prints as: its name (how the code is seen)
abbrev pub option_error_text : OptionError → List ℕ
option_error_text TooLong = codes "TooLong"
option_error_text Reserved = codes "Reserved"
option_error_text PivLength = codes "PivLength"
option_error_text ZeroFlag = codes "ZeroFlag"
option_error_text Cut = codes "Cut"
option_error_text LeadingZero = codes "LeadingZero"
option_error_text Trailing = codes "Trailing"
