-- How bytes that are put go together, over any bytes.
use mathlib.Core.Path.{◌≡◌, ◌∙◌, refl, sym}
use mathlib.Core.List.{List, [], ◌∷◌, ◌++◌}
use Prim.Native.Nat.{ℕ, suc, ◌+◌, ◌≤◌, ◌<◌}
use native.Mathlib.Nat.{add-zero}
use native.Mathlib.Numerals.{add-one}
use native.Mathlib.Omega.{arith}
use lib.ListN.{length, take, drop, set, get_or, length-append}
use lib.Seq.{sets, length-sets, sets-eq, set_out, take-suc}
use Rattle.screen_bytes.specs.Put.{puts, Put}

-- parts one behind the other
pub sets-append : (w : List ℕ) (at : ℕ) (l m : List ℕ) → sets w at (l ++ m) ≡ sets (sets w at l) (at + length l) m
sets-append w at [] m = rw (add-zero at)
sets-append w at (b ∷ l) m =
    let e : suc at + length l ≡ at + suc (length l) = omega arith in
    sets-append (set w at b) (suc at) l m ∙ rw e

pub puts-append : (at : ℕ) (l m w : List ℕ) → puts (at + length l) m (puts at l w) ≡ puts at (l ++ m) w
unfolding puts
puts-append at l m w = sym (sets-append w at l m)

pub puts-length : (at : ℕ) (l w : List ℕ) → length (puts at l w) ≡ length w
unfolding puts
puts-length at l w = length-sets w at l

-- no byte is lent
pub puts_nowhere : (at : ℕ) (l : List ℕ) → puts at l [] ≡ []
unfolding puts
puts_nowhere at [] = refl
puts_nowhere at (b ∷ l) = puts_nowhere (suc at) l

-- there is room for all
pub puts-fits : (at : ℕ) (l w : List ℕ) → at + length l ≤ length w → puts at l w ≡ take at w ++ l ++ drop (at + length l) w
unfolding puts
puts-fits at l w h = sets-eq l w at h

pub put-none : {w : List ℕ} {at : ℕ} → Put 0 w w at at []
unfolding puts
put-none {at = at} = record { count = sym (add-zero at); few = omega arith; bytes = refl }

pub put_then : {j k : ℕ} {w w₁ w₂ : List ℕ} {at m n : ℕ} {l r : List ℕ} → Put j w w₁ at m l → Put k w₁ w₂ m n r → Put (j + k) w w₂ at n (l ++ r)
put_then {w = w} {at = at} {l = l} {r = r} p q =
    record {
      count = simp length-append (omega (arith, p.count, q.count));
      few = omega (arith, p.few, q.few);
      bytes = q.bytes ∙ rw (p.bytes, p.count) (puts-append at l r w);
    }

-- a wider bound
pub put-within : {j : ℕ} (k : ℕ) {w w' : List ℕ} {at m : ℕ} {l : List ℕ} → j ≤ k → Put j w w' at m l → Put k w w' at m l
put-within k h p = record { count = p.count; few = omega (arith, p.few); bytes = p.bytes }

pub put-length : {k : ℕ} {w w' : List ℕ} {at m : ℕ} {l : List ℕ} → Put k w w' at m l → length w' ≡ length w
put-length {w = w} {at = at} {l = l} p = rw p.bytes (puts-length at l w)

-- one byte
pub put_one : (w : List ℕ) (at b : ℕ) → Put 1 w (set w at b) at (at + 1) (b ∷ [])
unfolding puts
put_one w at b = record { count = refl; few = omega arith; bytes = refl }

pub put_out : (w : List ℕ) (at b : ℕ) → length w ≤ at → Put 1 w w at (at + 1) (b ∷ [])
unfolding puts
put_out w at b h = record { count = refl; few = omega arith; bytes = sym (set_out w at b h) }

-- the first i bytes of a text, and the next
pub put_next : (text : List ℕ) (i : ℕ) {w w₁ w₂ : List ℕ} {at m n : ℕ} → i < length text → Put i w w₁ at m (take i text) → Put 1 w₁ w₂ m n (get_or text i 0 ∷ []) → Put (i + 1) w w₂ at n (take (i + 1) text)
put_next text i h p q = rw (add-one i, take-suc text i 0 h) (rw (← add-one i) (put_then p q))
