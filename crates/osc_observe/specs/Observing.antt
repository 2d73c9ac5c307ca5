-- To be believed: which requests register an observation, and which responses are notifications (RFC 7641, 2 and 3.2; RFC 8613, 4.1.3.5). x is
-- what a context takes part in, code the code of a message, options its options in order.
use Rattle.std.specs.Prelude.{ℕ, ◌+◌, ◌/◌, ◌==◌, ◌||◌, ◌&&◌, Bool, true, false, List, [], ◌∷◌, Option, Some, None, is_some, unwrap_or}
use Rattle.std.specs.Option.{option_map}
use Rattle.osc_coap.specs.Interpreted.{interpreted}
use Rattle.osc_coap.specs.OptionNumbers.{observe}
use Rattle.osc_coap.specs.OptionSpelling.{Entry}
use Rattle.osc_context.specs.declared.features.Features.{Features}

-- the bytes are the number 0, with any count of leading zero bytes (RFC 7252, 3.2)
abbrev pub is_zero : List ℕ → Bool
is_zero [] = true
is_zero (byte ∷ bytes) = (byte == 0) && is_zero bytes

-- the value of an Observe option is there, and says register: the number 0 (RFC 7641, 2)
abbrev pub says_register : Option (List ℕ) → Bool
says_register value = unwrap_or (option_map is_zero value) false

-- the bytes are the number 1, with any count of leading zero bytes (RFC 7252, 3.2)
abbrev pub is_one : List ℕ → Bool
is_one [] = false
is_one (byte ∷ []) = byte == 1
is_one (byte ∷ bytes) = (byte == 0) && is_one bytes

-- the value of an Observe option is there, and says deregister: the number 1 (RFC 7641, 2)
abbrev pub says_deregister : Option (List ℕ) → Bool
says_deregister value = unwrap_or (option_map is_one value) false

-- the code is that of a GET or a FETCH (RFC 7641, 2; RFC 8132, 2.4)
abbrev pub is_observable : ℕ → Bool
is_observable code = (code == 1) || (code == 5)

-- the request registers an observation: it is a GET or FETCH whose Observe option says so, and the context takes part in Observe (RFC 8613, 4.1.3.5.1)
abbrev pub registers : Features → ℕ → List Entry → Bool
registers x code options = x.observe && (is_observable code && says_register (interpreted observe options))

-- the request cancels an observation: it is a GET or FETCH whose Observe option says so, and the context takes part in Observe (RFC 7641, 3.6)
abbrev pub cancels : Features → ℕ → List Entry → Bool
cancels x code options = x.observe && (is_observable code && says_deregister (interpreted observe options))

-- the response continues an observation: it is of class 2, with an Observe option (RFC 7641, 3.2; RFC 8613, 4.1.3.5.2)
abbrev pub is_notification : ℕ → List Entry → Bool
is_notification code options = (code / 32 == 2) && is_some (interpreted observe options)

-- the place of a response among those to a registration: the one without a Partial IV of its own comes first, the others follow their own Partial IVs
-- (RFC 8613, 7.4.1)
abbrev pub place_of : Option ℕ → ℕ
place_of None = 0
place_of (Some own) = own + 1
