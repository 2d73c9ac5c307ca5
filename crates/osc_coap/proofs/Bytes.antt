-- Lists of bytes, taken apart and put together.
use Rattle.std.proofs.Common.{ℕ, ◌<◌, List, ◌++◌, length, take, get_or, subst, refl}
use Rattle.std.proofs.lemmas.List.{take_at, drop_at}
use Rattle.std.proofs.lemmas.List.Elements.{All-append, All-take, All-drop, All-from_get_or}
use Rattle.osc_coap.specs.OptionSpelling.{AreBytes}

-- what the code's slices hold
pub bytes_by_place : (xs : List ℕ) → ((i : ℕ) → get_or xs i 0 < 256) → AreBytes xs
bytes_by_place xs h = All-from_get_or (λ b. b < 256) xs 0 (λ i lt. h i)

-- bytes in front of bytes are bytes
pub bytes_append : (xs ys : List ℕ) → AreBytes xs → AreBytes ys → AreBytes (xs ++ ys)
bytes_append xs ys h k = All-append (λ b. b < 256) xs ys h k

-- the first of some bytes are bytes
pub bytes_take : (n : ℕ) (xs : List ℕ) → AreBytes xs → AreBytes (take n xs)
bytes_take n xs h = All-take (λ b. b < 256) n xs h

-- the bytes in front of others
pub bytes_front : (xs ys : List ℕ) → AreBytes (xs ++ ys) → AreBytes xs
bytes_front xs ys h = subst AreBytes (take_at xs ys (length xs) refl) (All-take (λ b. b < 256) (length xs) (xs ++ ys) h)

-- the bytes behind others
pub bytes_back : (xs ys : List ℕ) → AreBytes (xs ++ ys) → AreBytes ys
bytes_back xs ys h = subst AreBytes (drop_at xs ys (length xs) refl) (All-drop (λ b. b < 256) (length xs) (xs ++ ys) h)
