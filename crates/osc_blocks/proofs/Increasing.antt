-- Pieces that came by requests with increasing numbers.
use Rattle.std.proofs.Common.{◌≡◌, ℕ, ◌<◌, List, [], ◌∷◌, ◌++◌, length, refl, arith}
use Rattle.osc_blocks.specs.InBlocks.{Piece, AreAbove, AreIncreasing, last_request}

-- ---- one piece more

above_push : (n : ℕ) (front : List Piece) (p : Piece) → AreAbove n front → last_request n front < p.request → AreAbove n (front ++ p ∷ [])
above_push n [] p f lt = (lt, tt)
above_push n (q ∷ later) p f lt = (f.0, above_push q.request later p f.1 lt)

-- increasing ones with a higher one behind them
pub increasing_push : (front : List Piece) (p : Piece) → AreIncreasing front → last_request 0 front < p.request → AreIncreasing (front ++ p ∷ [])
increasing_push [] p f lt = tt
increasing_push (q ∷ later) p f lt = above_push q.request later p f lt

-- the last of them is the one behind
pub last_push : (n : ℕ) (front : List Piece) (p : Piece) → last_request n (front ++ p ∷ []) ≡ p.request
last_push n [] p = refl
last_push n (q ∷ later) p = last_push q.request later p

-- ---- some of them

-- those behind the first
pub above_increasing : (n : ℕ) (pieces : List Piece) → AreAbove n pieces → AreIncreasing pieces
above_increasing n [] f = tt
above_increasing n (p ∷ later) f = f.1

above_split : (n : ℕ) (earlier : List Piece) (p : Piece) (later : List Piece) → AreAbove n (earlier ++ p ∷ later) → last_request n earlier < p.request
above_split n [] p later f = f.0
above_split n (q ∷ rest) p later f = above_split q.request rest p later f.1

-- one is above those before it
pub increasing_split : (earlier : List Piece) (p : Piece) (later : List Piece) → 0 < length earlier → AreIncreasing (earlier ++ p ∷ later)
    → last_request 0 earlier < p.request
increasing_split [] p later some f = absurd (omega (arith, some))
increasing_split (q ∷ rest) p later some f = above_split q.request rest p later f
