-- How the code is seen: what reading a URI gives.
use Rattle.std.specs.Prelude.{◌≡◌, ℕ, List, [], Option, None, Some, Result, Ok, Err, option_copied}
use Rattle.std.specs.Borrow.{Bor}
use Rattle.osc_proxy.specs.Uri.{UriParts, parts_between}
use Rattle.osc_proxy.specs.declared.uri.ProxyUri.{ProxyUri}
use Rattle.osc_proxy.specs.declared.parts.Components.{Components}

-- what the code returns is what is read, seen through a view (how the code is seen)
abbrev pub Gives : {X Y E : Type 0} → (X → Y) → Result X E → Result Y E → Type 0
Gives view (Ok x) read = read ≡ Ok (view x)
Gives view (Err e) read = read ≡ Err e

-- what a URI that was read says (how the code is seen)
abbrev pub uri_parts_of : ProxyUri → UriParts
uri_parts_of u = record { scheme = u.scheme; host = u.host.now; port = u.port; path = option_copied u.path; query = option_copied u.query }

-- the parts of the bytes, if there are any (how the code is seen)
abbrev pub parts_in : ℕ → Option (List ℕ) → List (List ℕ)
parts_in d None = []
parts_in d (Some bytes) = parts_between d bytes

-- the parts that an iterator still has to give, in order (how the code is seen)
abbrev pub parts_left : Components → List (List ℕ)
parts_left s = parts_in s.delimiter (option_copied s.rest)

-- the bytes of a part that an iterator gives (how the code is seen)
abbrev pub seen_part : Bor (List ℕ) → List ℕ
seen_part x = x.now
