-- To be believed: a URI is its parts, one behind the other (RFC 7252, 6.1; RFC 3986, 3). text is the URI, u what it says.
use Rattle.std.specs.Prelude.{◌≡◌, ℕ, List, [], ◌∷◌, ◌++◌, Option, Some, None, Ok}
use Rattle.osc_proxy.specs.Uri.{UriParts, authority_at, behind, decomposed, parts_between, port_at, scheme_at, text_at}

-- d and the bytes behind it, or nothing (RFC 3986, 5.3)
abbrev pub marked_by : ℕ → Option (List ℕ) → List ℕ
marked_by d None = []
marked_by d (Some bytes) = d ∷ bytes

-- the bytes have no d (RFC 3986, 3)
abbrev pub Lacks : ℕ → List ℕ → Type 0
Lacks d bytes = behind d bytes ≡ None

-- scheme, colon, two slashes, host, port and path, one behind the other (RFC 7252, 6.1; RFC 3986, 3 and 5.3)
abbrev pub front_text : List ℕ → List ℕ → UriParts → List ℕ
front_text name port_text u = name ++ (58 ∷ 47 ∷ 47 ∷ (u.host ++ (port_text ++ marked_by 47 u.path)))

-- the text is the URI that says this: its front and its query, each piece without the delimiter that ends it (RFC 7252, 6.1; RFC 3986, 3 and 5.3)
pub record IsUri (u : UriParts) (text : List ℕ) : Type 0 where
  pub name : List ℕ
  pub port_text : List ℕ
  pub whole : text ≡ front_text name port_text u ++ marked_by 63 u.query
  pub characters : text_at text ≡ Ok tt
  pub scheme : scheme_at name ≡ Ok u.scheme
  pub authority : authority_at (u.host ++ port_text) ≡ Ok (u.host, port_text)
  pub port : port_at port_text ≡ Ok u.port
  pub no_colon : Lacks 58 name
  pub no_slash : Lacks 47 (u.host ++ port_text)
  pub no_question_mark : Lacks 63 (front_text name port_text u)

-- the parts, with d between them (RFC 3986, 3.3)
abbrev pub joined : ℕ → List (List ℕ) → List ℕ
joined d [] = []
joined d (part ∷ []) = part
joined d (part ∷ other ∷ parts) = part ++ d ∷ joined d (other ∷ parts)

-- what is read is the URI of what it says, and each URI is read as what it says (RFC 7252, 6.4)
abbrev pub UrisAreTheirParts : Type 0
UrisAreTheirParts = (text : List ℕ) (u : UriParts) → (decomposed text ≡ Ok u → IsUri u text) × (IsUri u text → decomposed text ≡ Ok u)

-- the parts between delimiters are joined by them again (RFC 7252, 6.4, steps 8 and 9, and 6.5)
abbrev pub PartsAreJoined : Type 0
PartsAreJoined = (d : ℕ) (bytes : List ℕ) → joined d (parts_between d bytes) ≡ bytes
