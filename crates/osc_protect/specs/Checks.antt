-- For the proofs: what a check of a plain message says of it. f is what it is sealed as, p what the plain message says, s its lists of options, c a
-- context, r a request.
use Rattle.std.specs.Prelude.{◌≡◌, ◌<◌, ◌≤◌, ◌⊎◌, Bool, IfNone, IfSome}
use Rattle.osc_coap.specs.Datagram.{Parts}
use Rattle.osc_coap.specs.OptionNumbers.{oscore}
use Rattle.osc_coap.specs.OptionSpelling.{last_number, spelling_length}
use Rattle.osc_protect.specs.SealRefusals.{CanBeSealed}
use Rattle.osc_protect.specs.Split.{Behind, Inside, Outside, has_observe, options_on}
use Rattle.osc_protect.specs.Usage.{sealing_features}
use Rattle.osc_context.specs.declared.context.Context.{Context}
use Rattle.osc_protect.specs.Views.{registers, sealed_responses}
use Rattle.osc_protect.specs.declared.checked.Checked.{Checked}
use Rattle.osc_protect.specs.declared.checked.Lists.{Lists}
use Rattle.osc_protect.specs.declared.family.Family.{Family}
use Rattle.osc_protect.specs.declared.request_ref.RequestRef.{RequestRef}
use Rattle.osc_protect.specs.declared.usage.Usage.TheVariants.{Response}

-- the three lists are counted (how the code is seen)
pub record Counts (f : Family) (p : Parts) (s : Lists) : Type 0 where
  pub outer : s.outer.len ≡ spelling_length 0 (options_on (Outside f.features.observe) p.options)
  pub last : s.outer.number ≡ last_number 0 (options_on (Outside f.features.observe) p.options)
  pub behind : s.behind.len ≡ spelling_length oscore (options_on Behind p.options)
  pub inner : s.inner.len ≡ spelling_length 0 (options_on (Inside f.notifies) p.options)
  pub outer_fits : s.outer.len ≤ 65535
  pub behind_fits : s.behind.len ≤ 65535
  pub inner_fits : s.inner.len ≤ 65535

-- one of the lists is longer than a datagram can be (how the code is seen)
abbrev pub IsBeyond : Family → Parts → Type 0
IsBeyond f p = (65535 < spelling_length 0 (options_on (Outside f.features.observe) p.options)) ⊎ ((65535 < spelling_length oscore (options_on Behind p.options)) ⊎ (65535 < spelling_length 0 (options_on (Inside f.notifies) p.options)))

-- the message can be sealed, whether one of its options counts as Observe, and these are its lists, or one of them is too long (how the code is
-- seen)
pub record Checks (f : Family) (p : Parts) (checked : Checked) : Type 0 where
  pub can : CanBeSealed f.usage (sealing_features f.usage f.features p.code) p
  pub observes : checked.observes ≡ has_observe f.features.observe p.options
  pub counted : IfSome checked.lists (λ s. Counts f p s)
  pub beyond : IfNone checked.lists (IsBeyond f p)

-- the response to this request under this context was checked (RFC 8613, 8.3)
abbrev pub ChecksResponse : Context → RequestRef → Parts → Checked → Type 0
ChecksResponse c r p checked = Checks (record { usage = Response; features = (sealed_responses c r).features; notifies = registers r }) p checked

-- one of the options of a message that was checked counts as Observe (how the code is seen)
abbrev pub observes : Checked → Bool
observes checked = checked.observes
