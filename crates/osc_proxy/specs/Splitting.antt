-- To be believed: a request whose Proxy-Uri is split into the options that say the same (RFC 7252, 5.10.2 and 6.4; RFC 8613, 4.1.3.3). p is
-- what the request says, u what its Proxy-Uri says, entries are options in order, parts those of a path or a query.
use Rattle.std.specs.Prelude.{ℕ, ◌==◌, ◌&&◌, ◌||◌, Bool, true, nat_le, List, [], ◌∷◌, ◌++◌, length, if◌then◌else◌, false}
use Rattle.osc_coap.specs.Datagram.{Parts}
use Rattle.osc_coap.specs.OptionSpelling.{Entry}
use Rattle.osc_proxy.specs.Uri.{UriParts, arguments_of, decoded, host_value_of, port_value_of, segments_of}

-- a number lies in a range, both ends in it (RFC 7252, 3.1)
abbrev pub is_between : ℕ → ℕ → ℕ → Bool
is_between least most n = nat_le least n && nat_le n most

-- the options with numbers in a range (RFC 7252, 3.1)
abbrev pub between : ℕ → ℕ → List Entry → List Entry
between least most [] = []
between least most (entry ∷ entries) = if is_between least most entry.0 then entry ∷ between least most entries else between least most entries

-- Proxy-Uri takes the place of this option: Uri-Host, Uri-Port, Uri-Path, Uri-Query or Proxy-Scheme (RFC 7252, 5.10.2)
abbrev pub is_replaced : ℕ → Bool
is_replaced n = (n == 3) || (n == 7) || (n == 11) || (n == 15) || (n == 39)

-- the parts, each as an option with this number (RFC 7252, 6.4, steps 8 and 9)
abbrev pub part_options : ℕ → List (List ℕ) → List Entry
part_options n [] = []
part_options n (part ∷ parts) = (n, decoded false part) ∷ part_options n parts

-- each part stands for at most 255 bytes (RFC 7252, 5.10)
abbrev pub parts_fit : List (List ℕ) → Bool
parts_fit [] = true
parts_fit (part ∷ parts) = nat_le (length (decoded false part)) 255 && parts_fit parts

-- the options with these values of Uri-Host (3) and Uri-Port (7), and these parts as Uri-Path (11) and Uri-Query (15), each in its place, and without Proxy-Uri (35) (RFC 7252, 3.1)
abbrev pub in_place : List ℕ → List ℕ → List (List ℕ) → List (List ℕ) → List Entry → List Entry
in_place host port path query entries =
    between 0 3 entries ++ ((3, host) ∷ (between 4 7 entries ++ ((7, port) ∷ (between 8 11 entries ++ (part_options 11 path ++ (between 12 15 entries ++ (part_options 15 query ++ (between 16 34 entries ++ between 36 65535 entries))))))))

-- what the request says with its Proxy-Uri split (RFC 7252, 5.10.2 and 6.4; RFC 8613, 4.1.3.3)
abbrev pub split : UriParts → Parts → Parts
split u p = record p { options = in_place (host_value_of u) (port_value_of u) (segments_of u.path) (arguments_of u.query) p.options }
