-- To be believed: which options a protected message doesn't have at all, doesn't have inside, or has outside (RFC 8613, 4.1). n is the
-- number of an option, x the features of the context; sought says that they have Observe, and that none came before the option.
use Rattle.std.specs.Prelude.{ℕ, ◌==◌, ◌||◌, ◌&&◌, Bool, length, nat_lt, not}
use Rattle.osc_coap.specs.Class.{class, is_outer}
use Rattle.osc_coap.specs.Interpreted.{is_valid_length}
use Rattle.osc_coap.specs.OptionNumbers.{block1, block2, observe, oscore, proxy_scheme, proxy_uri, q_block1, q_block2}
use Rattle.osc_coap.specs.OptionSpelling.{Entry}
use Rattle.osc_context.specs.declared.features.Features.{Features}

-- the option is Observe (RFC 7641, 2)
abbrev pub is_observe : ℕ → Bool
is_observe n = n == observe

-- the option is of block-wise transfer: Block1, Block2, Q-Block1 or Q-Block2 (RFC 7959, 2.1; RFC 9177, 4.1)
abbrev pub is_block : ℕ → Bool
is_block n = (n == block2) || (n == block1) || (n == q_block1) || (n == q_block2)

-- own rule: Observe and block-wise transfer are left out, each unless the context takes part in it (RFC 8613, 4.1.3.4 and 4.1.3.5)
abbrev pub is_left_out : Features → ℕ → Bool
is_left_out x n = (not x.observe && is_observe n) || (not x.blocks && is_block n)

-- the option is for proxies: Proxy-Uri or Proxy-Scheme (RFC 7252, 5.10.2)
abbrev pub is_proxy : ℕ → Bool
is_proxy n = (n == proxy_uri) || (n == proxy_scheme)

-- own rule: a message with such an option isn't sealed; sealing itself makes the OSCORE option (RFC 8613, 4.1)
abbrev pub is_unsupported : Features → ℕ → Bool
is_unsupported x n = is_left_out x n || is_proxy n || (n == oscore)

-- own rule: the option may not stand inside a protected message, because it is left out or is of class U (RFC 8613, 4.1)
abbrev pub is_barred : Features → ℕ → Bool
is_barred x n = is_left_out x n || is_outer (class n)

-- the option counts as Observe: one is sought, and this is one, with a valid value (RFC 7252, 5.4.3; RFC 7641, 2)
abbrev pub counts_as_observe : Bool → Entry → Bool
counts_as_observe sought entry = sought && (is_observe entry.0 && is_valid_length observe (length entry.1))

-- whether Observe is sought behind this option: a further one is as if unknown (RFC 7252, 5.4.5)
abbrev pub sought_behind : Bool → Entry → Bool
sought_behind sought entry = sought && not (is_observe entry.0)

-- the option stands outside, in front of the OSCORE option, whatever it says: it is of class U, with a lower number (RFC 7252, 3.1; RFC 8613, 4.1.2)
abbrev pub is_in_front : ℕ → Bool
is_in_front n = is_outer (class n) && nat_lt n oscore

-- the option stands outside, in front of the OSCORE option: it counts as Observe, which stands inside too, or it stands there anyway (RFC 8613, 4.1.2 and 4.1.3.5)
abbrev pub is_outside : Bool → Entry → Bool
is_outside sought entry = counts_as_observe sought entry || is_in_front entry.0

-- the option stands outside, behind the OSCORE option: it is of class U, with a higher number (RFC 7252, 3.1; RFC 8613, 4.1.2)
abbrev pub is_behind : ℕ → Bool
is_behind n = is_outer (class n) && nat_lt oscore n
