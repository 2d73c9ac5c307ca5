-- To be believed: a sealed request that asks a forward proxy by Proxy-Scheme, which stands outside of the protection (RFC 7252, 5.7.2 and
-- 5.10.2; RFC 8613, 4.1.3.3). p is what the sealed request says, scheme the value of Proxy-Scheme, entries are options in order.
use Rattle.std.specs.Prelude.{◌≡◌, ℕ, ◌==◌, ◌||◌, Bool, false, not, List, [], ◌∷◌, filter, nat_le, if◌then◌else◌}
use Rattle.osc_coap.specs.Datagram.{Parts}
use Rattle.osc_coap.specs.OptionNumbers.{proxy_scheme, proxy_uri}
use Rattle.osc_coap.specs.OptionSpelling.{Entry}
use Rattle.osc_coap.specs.Search.{has_number}

-- an option with this number asks a forward proxy: Proxy-Uri or Proxy-Scheme (RFC 7252, 5.10.2)
abbrev pub asks_proxy : ℕ → Bool
asks_proxy n = (n == proxy_uri) || (n == proxy_scheme)

-- the options with one more, which stands behind all with lower or equal numbers (RFC 7252, 3.1)
abbrev pub inserted : Entry → List Entry → List Entry
inserted entry [] = entry ∷ []
inserted entry (x ∷ entries) = if nat_le x.0 entry.0 then x ∷ inserted entry entries else entry ∷ x ∷ entries

-- what the request says with Proxy-Scheme besides (RFC 7252, 5.10.2; RFC 8613, 4.1.3.3)
abbrev pub asked : List ℕ → Parts → Parts
asked scheme p = record p { options = inserted (proxy_scheme, scheme) p.options }

-- what a request says without Proxy-Scheme, which a proxy takes out before it sends the request on (RFC 7252, 5.7.2 and 5.10.2)
abbrev pub without_scheme : Parts → Parts
without_scheme p = record p { options = filter (λ entry. not (entry.0 == proxy_scheme)) p.options }

-- what a proxy takes Proxy-Scheme out of says what was sealed: head, token, options and payload (RFC 7252, 5.7.2; RFC 8613, 4.1.3.3)
abbrev pub SchemeIsTakenOut : Type 0
SchemeIsTakenOut = (p : Parts) (scheme : List ℕ) → has_number asks_proxy p.options ≡ false → without_scheme (asked scheme p) ≡ p
