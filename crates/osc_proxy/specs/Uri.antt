-- To be believed: what a URI of CoAP says (RFC 7252, 6.4; RFC 3986, 3 and B). text is the URI, byte by byte; 58 is a colon, 47 a slash, 63 a
-- question mark, 35 a number sign, 64 a commercial at, 91 and 93 are square brackets, 38 is an ampersand, 37 a percent sign.
use Rattle.std.specs.Prelude.{ℕ, ◌+◌, ◌*◌, ◌-◌, ◌==◌, ◌&&◌, ◌||◌, Bool, true, false, nat_le, nat_lt, ◌/◌, ◌%◌, List, [], ◌∷◌, length, take, drop, codes, Option, Some, None, Result, Ok, Err, if◌then◌else◌}
use Rattle.std.specs.Option.{unwrap_or}
use Rattle.std.specs.Char.{to_ascii_lowercase}
use Rattle.std.specs.Str.{str_eq_ignore_ascii_case}
use Rattle.osc_proxy.specs.declared.uri_error.UriError.{UriError}
use Rattle.osc_proxy.specs.declared.uri_error.UriError.TheVariants.{Scheme, Fragment, Character, Authority, Userinfo, Host, Port}
use Rattle.osc_proxy.specs.declared.uri.UriScheme.{UriScheme}
use Rattle.osc_proxy.specs.declared.uri.UriScheme.TheVariants.{Coap, Coaps}

-- the bytes in front of the first d, or all of them (RFC 3986, B)
abbrev pub before : ℕ → List ℕ → List ℕ
before d [] = []
before d (x ∷ xs) = if x == d then [] else x ∷ before d xs

-- the bytes behind the first d, if there is one (RFC 3986, B)
abbrev pub behind : ℕ → List ℕ → Option (List ℕ)
behind d [] = None
behind d (x ∷ xs) = if x == d then Some xs else behind d xs

-- one step, and then another if the first finds no fault (RFC 7252, 6.4)
abbrev pub and_then : {A B : Type 0} → Result A UriError → (A → Result B UriError) → Result B UriError
and_then (Ok x) f = f x
and_then (Err e) f = Err e

-- what there is, or a fault (RFC 7252, 6.4)
abbrev pub or_fault : {A : Type 0} → Bool → A → UriError → Result A UriError
or_fault fine x e = if fine then Ok x else Err e

-- the name of a scheme (RFC 7252, 6.1 and 6.2)
abbrev pub scheme_name : UriScheme → List ℕ
scheme_name Coap = codes "coap"
scheme_name Coaps = codes "coaps"

-- the scheme by its name, in any letter case (RFC 7252, 6.1, 6.2 and 6.4, step 3)
abbrev pub scheme_at : List ℕ → Result UriScheme UriError
scheme_at name = if str_eq_ignore_ascii_case name (codes "coap") then Ok Coap else or_fault (str_eq_ignore_ascii_case name (codes "coaps")) Coaps Scheme

-- a letter, a digit, or one of the other characters that a URI can have, but for percent and number sign (RFC 3986, 2.2 and 2.3)
abbrev pub is_uri_character : ℕ → Bool
is_uri_character x = (nat_le 97 x && nat_le x 122) || (nat_le 63 x && nat_le x 91) || (nat_le 38 x && nat_le x 59) || (x == 33) || (x == 36) || (x == 61) || (x == 93) || (x == 95) || (x == 126)

-- a digit in base 16 (RFC 3986, 2.1)
abbrev pub is_hex : ℕ → Bool
is_hex x = (nat_le 48 x && nat_le x 57) || (nat_le 65 x && nat_le x 70) || (nat_le 97 x && nat_le x 102)

-- each byte is one that a URI can have, and two digits in base 16 follow each percent sign; due is how many are still due (RFC 3986, 2.1 to 2.3)
abbrev pub are_characters : ℕ → List ℕ → Bool
are_characters due [] = due == 0
are_characters due (x ∷ xs) = if due == 0 then (if x == 37 then are_characters 2 xs else is_uri_character x && are_characters 0 xs) else (is_hex x && are_characters (due - 1) xs)

-- what stands behind the two slashes, which follow the colon (RFC 7252, 6.1)
abbrev pub hierarchy_at : List ℕ → Result (List ℕ) UriError
hierarchy_at [] = Err Authority
hierarchy_at (x ∷ []) = Err Authority
hierarchy_at (x ∷ y ∷ rest) = or_fault ((x == 47) && (y == 47)) rest Authority

-- how many bytes the host has: up to a colon, or in brackets (RFC 3986, 3.2.2)
abbrev pub host_length : List ℕ → ℕ
host_length [] = 0
host_length (x ∷ xs) = if x == 91 then length (before 93 (x ∷ xs)) + 1 else length (before 58 (x ∷ xs))

-- host, and what follows it; there is one, and its bracket is closed (RFC 7252, 6.1; RFC 3986, 3.2.2)
abbrev pub host_at : List ℕ → Result (List ℕ × List ℕ) UriError
host_at authority = or_fault (nat_le 1 (host_length authority) && nat_le (host_length authority) (length authority)) (take (host_length authority) authority, drop (host_length authority) authority) Host

-- the number that the digits name behind n, if it is at most 65,535 (RFC 3986, 3.2.3)
abbrev pub number_from : ℕ → List ℕ → Result ℕ UriError
number_from n [] = Ok n
number_from n (x ∷ xs) = if nat_le 48 x && nat_le x 57 && nat_le (10 * n + (x - 48)) 65535 then number_from (10 * n + (x - 48)) xs else Err Port

-- the port: behind a colon, if any digits follow (RFC 7252, 6.1)
abbrev pub port_at : List ℕ → Result (Option ℕ) UriError
port_at [] = Ok None
port_at (x ∷ []) = or_fault (x == 58) None Port
port_at (x ∷ y ∷ ys) = if x == 58 then and_then (number_from 0 (y ∷ ys)) (λ n. Ok (Some n)) else Err Port

-- what a URI says; path is what stands behind its first slash, and query behind the question mark (RFC 7252, 6.1)
pub record UriParts : Type 0 where
  pub scheme : UriScheme
  pub host : List ℕ
  pub port : Option ℕ
  pub path : Option (List ℕ)
  pub query : Option (List ℕ)

-- there is none (RFC 3986, B)
abbrev pub is_absent : Option (List ℕ) → Bool
is_absent None = true
is_absent (Some bytes) = false

-- the URI has no fragment, and its characters are those of a URI (RFC 7252, 6.4, step 4; RFC 3986, 2)
abbrev pub text_at : List ℕ → Result (Unit {0}) UriError
text_at text = if is_absent (behind 35 text) then or_fault (are_characters 0 text) tt Character else Err Fragment

-- what stands behind the colon, if there is one (RFC 7252, 6.1)
abbrev pub behind_scheme : Option (List ℕ) → List ℕ
behind_scheme None = []
behind_scheme (Some rest) = rest

-- the host, and what follows it in the authority, which has no user information (RFC 7252, 6.1)
abbrev pub authority_at : List ℕ → Result (List ℕ × List ℕ) UriError
authority_at authority = if is_absent (behind 64 authority) then host_at authority else Err Userinfo

-- what a URI says, or its first fault (RFC 7252, 6.4, steps 1 to 4; RFC 3986, B)
abbrev pub decomposed : List ℕ → Result UriParts UriError
decomposed text =
    and_then (scheme_at (before 58 (before 63 text))) (λ scheme.
    and_then (text_at text) (λ _.
    and_then (hierarchy_at (behind_scheme (behind 58 (before 63 text)))) (λ hierarchy.
    and_then (authority_at (before 47 hierarchy)) (λ place.
    and_then (port_at place.1) (λ port. Ok (record { scheme = scheme; host = place.0; port = port; path = behind 47 hierarchy; query = behind 63 text }))))))

-- a list of byte lists, whose first has one byte more in front (RFC 3986, B)
abbrev pub extended : ℕ → List (List ℕ) → List (List ℕ)
extended x [] = (x ∷ []) ∷ []
extended x (part ∷ parts) = (x ∷ part) ∷ parts

-- the parts between the delimiters d (RFC 7252, 6.4, steps 8 and 9)
abbrev pub parts_between : ℕ → List ℕ → List (List ℕ)
parts_between d [] = [] ∷ []
parts_between d (x ∷ xs) = if x == d then [] ∷ parts_between d xs else extended x (parts_between d xs)

-- the segments of a path: none if it is empty or a single slash (RFC 7252, 6.4, step 8)
abbrev pub segments_of : Option (List ℕ) → List (List ℕ)
segments_of None = []
segments_of (Some []) = []
segments_of (Some (x ∷ xs)) = parts_between 47 (x ∷ xs)

-- the arguments of a query: none if there is no query (RFC 7252, 6.4, step 9)
abbrev pub arguments_of : Option (List ℕ) → List (List ℕ)
arguments_of None = []
arguments_of (Some query) = parts_between 38 query

-- the number that a digit in base 16 stands for, and 0 for any other byte (RFC 3986, 2.1)
abbrev pub hex_value : ℕ → ℕ
hex_value x = if nat_le 48 x && nat_le x 57 then x - 48 else (if nat_le 65 x && nat_le x 70 then x - 55 else (if nat_le 97 x && nat_le x 102 then x - 87 else 0))

-- a character as it stands, or in lower case (RFC 7252, 6.4, step 5)
abbrev pub character : Bool → ℕ → ℕ
character lowers x = if lowers then to_ascii_lowercase x else x

-- the bytes that a part stands for: a percent sign and two digits stand for one byte, each other byte for itself (RFC 3986, 2.1)
abbrev pub decoded : Bool → List ℕ → List ℕ
decoded lowers [] = []
decoded lowers (x ∷ []) = character lowers x ∷ []
decoded lowers (x ∷ y ∷ []) = character lowers x ∷ character lowers y ∷ []
decoded lowers (x ∷ y ∷ z ∷ rest) = if x == 37 then (16 * hex_value y + hex_value z) ∷ decoded lowers rest else character lowers x ∷ decoded lowers (y ∷ z ∷ rest)

-- the value of Uri-Host: in lower case, and decoded (RFC 7252, 6.4, step 5)
abbrev pub host_value_of : UriParts → List ℕ
host_value_of u = decoded true u.host

-- the port where a URI names none (RFC 7252, 6.1 and 6.2)
abbrev pub default_port : UriScheme → ℕ
default_port Coap = 5683
default_port Coaps = 5684

-- the value of Uri-Port: the port of the URI, or that of its scheme (RFC 7252, 6.4, step 6)
abbrev pub port_of : UriParts → ℕ
port_of u = unwrap_or u.port (default_port u.scheme)

-- a number in as few bytes as it takes, high byte first, and 0 in none (RFC 7252, 3.2)
abbrev pub uint : ℕ → List ℕ
uint n = if n == 0 then [] else (if nat_lt n 256 then n ∷ [] else (n / 256) ∷ (n % 256) ∷ [])

-- the value of Uri-Port (RFC 7252, 5.10.1 and 6.4, step 7)
abbrev pub port_value_of : UriParts → List ℕ
port_value_of u = uint (port_of u)
