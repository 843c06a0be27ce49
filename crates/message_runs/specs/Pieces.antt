-- A run put together from clean messages.
use Rattle.std.specs.Prelude.{◌≡◌, List, [], ◌∷◌, ◌++◌, ℕ, ◌+◌, ◌<◌, length, drop}
use Rattle.std.proofs.Math.Option.{none, some}
use Rattle.x691.specs.Bits.{bit_of}
use Rattle.x691.specs.Range.{All}
use Rattle.atn.specs.Format.{Fmt}
use Rattle.atn.specs.Entries.{read_frame}
use Rattle.message_runs.specs.declared.Starts.{Starts}
use Rattle.message_runs.specs.declared.Starts.TheVariants as starts
use Rattle.message_runs.specs.Runs.{clean_reach, bytes_for}

-- a clean message, padded to a byte
pub record Padded (f : Fmt) (x : List ℕ) : Type 0 where
  pub reach : ℕ
  pub clean : clean_reach (read_frame f x) ≡ some reach
  pub fills : length x ≡ bytes_for reach

-- the pieces back to back
unfoldable pub run : List (List ℕ) → List ℕ
run [] = []
run (x ∷ xs) = x ++ run xs

-- where each begins, the first at byte b
unfoldable pub places : ℕ → List (List ℕ) → List ℕ
places b [] = []
places b (x ∷ xs) = b ∷ places (b + length x) xs

-- the places in the lent numbers w; those behind them stay
abbrev pub filled : List (List ℕ) → List ℕ → List ℕ
filled xs w = places 0 xs ++ drop (length xs) w

-- a way to cut the run s: into clean messages and a rest that begins with none
pub record Way (f : Fmt) (s : List ℕ) : Type 0 where
  pub pieces : List (List ℕ)
  pub rest : List ℕ
  pub whole : s ≡ run pieces ++ rest
  pub padded : All (Padded f) pieces
  pub ends : clean_reach (read_frame f rest) ≡ none

-- what is said of it: all messages are clean if nothing is left, and else where the rest begins
unfoldable pub said : List (List ℕ) → List ℕ → Starts
said xs [] = starts.All (length xs)
said xs (y ∷ r) = starts.UpTo (length xs) (length (run xs))

-- y is the clean message x with other padding: as long, and the same up to the reach
pub record Repadded (f : Fmt) (x y : List ℕ) : Type 0 where
  pub piece : Padded f x
  pub long : length y ≡ length x
  pub bits : (i : ℕ) → i < piece.reach → bit_of x i ≡ bit_of y i

pub data Pairwise (R : List ℕ → List ℕ → Type 0) : List (List ℕ) → List (List ℕ) → Type 0 where
  none_left : Pairwise R [] []
  and : {x y : List ℕ} {xs ys : List (List ℕ)} → R x y → Pairwise R xs ys → Pairwise R (x ∷ xs) (y ∷ ys)
