-- Records one after another in lent words.
use mathlib.Core.Path.{◌≡◌, refl, sym, ap, ◌∙◌}
use mathlib.Core.Bool.{Bool, true, false}
use mathlib.Core.List.{List, [], ◌∷◌, ◌++◌, append_assoc}
use Prim.Native.Nat.{ℕ, zero, suc, ◌+◌, ◌*◌, ◌≤◌, ◌<◌, min}
use native.Mathlib.Nat.{add-zero}
use native.Mathlib.Omega.{arith}
use lib.ListN.{length, take, drop, length-append, length-take, length-drop}
use lib.Seq.{take_at, drop_at, drop-drop}
use lib.Dec.{leb}
use borrow.Author.Tests.{le-leb, lt-leb, leb-true, leb-false}
use Rattle.atn.specs.Reading.{Rec, rec}
use Rattle.atn.specs.Entries.{flat, need}
use Rattle.schema_tables.specs.Entry.{top}
use Rattle.capped_records.specs.Place.{counted, place_one, place}

pub place-room : (w : List ℕ) (n : ℕ) (r : Rec) → n * 5 + 5 ≤ length w → place_one w n r ≡ take (n * 5) w ++ (flat (r ∷ []) ++ drop (n * 5 + 5) w)
unfolding place_one
place-room w n r h = rw (le-leb (n * 5 + 5) (length w) h)

pub place_none : (w : List ℕ) (n : ℕ) (r : Rec) → length w < n * 5 + 5 → place_one w n r ≡ w
unfolding place_one
place_none w n r h = rw (lt-leb (n * 5 + 5) (length w) h)

flat-one : (r : Rec) → length (flat (r ∷ [])) ≡ 5
unfolding flat
flat-one (rec t m v s q) = refl

pub one-length : (w : List ℕ) (n : ℕ) (r : Rec) → length (place_one w n r) ≡ length w
one-length w n r = go (leb (n * 5 + 5) (length w)) refl
  where
    go : (t : Bool) → leb (n * 5 + 5) (length w) ≡ t → length (place_one w n r) ≡ length w
    go true q = let h = leb-true (n * 5 + 5) (length w) q in rw (place-room w n r h) (simp (length-append, length-take, length-drop, flat-one) (omega arith))
    go false q = rw (place_none w n r (leb-false (n * 5 + 5) (length w) q))

pub place-length : (w : List ℕ) (n : ℕ) (R : List Rec) → length (place w n R) ≡ length w
unfolding place
place-length w n [] = refl
place-length w n (r ∷ R) = place-length (place_one w n r) (suc n) R ∙ one-length w n r

pub place-append : (w : List ℕ) (n : ℕ) (R S : List Rec) → place w n (R ++ S) ≡ place (place w n R) (n + length R) S
unfolding place
place-append w n [] S = rw (add-zero n)
place-append w n (r ∷ R) S = let e : n + suc (length R) ≡ suc n + length R = omega arith in rw e (place-append (place_one w n r) (suc n) R S)

place-over : (w : List ℕ) (n : ℕ) (R : List Rec) → length w < n * 5 + 5 → place w n R ≡ w
unfolding place
place-over w n [] h = refl
place-over w n (r ∷ R) h = rw (place_none w n r h) (place-over w (suc n) R (omega arith))

-- a number that stays at the top has no room any more, as the number itself
pub place-capped : (w : List ℕ) (n : ℕ) (R : List Rec) → length w ≤ top → place w (min n top) R ≡ place w n R
place-capped w n R h = go (leb n top) refl
  where
    go : (t : Bool) → leb n top ≡ t → place w (min n top) R ≡ place w n R
    go true q = let e : min n top ≡ n = omega (arith, leb-true n top q) in rw e
    go false q = let l = leb-false n top q in let e : min n top ≡ top = omega arith in rw e (place-over w top R (omega arith) ∙ sym (place-over w n R (omega arith)))

-- with room for all, they stand behind the n others, and the words after them stay
place-all : (w : List ℕ) (n : ℕ) (R : List Rec) → n * 5 + need R ≤ length w → place w n R ≡ take (n * 5) w ++ (flat R ++ drop (n * 5 + need R) w)
unfolding place flat need
place-all w n [] h = let e : n * 5 + 0 ≡ n * 5 = omega arith in rw e (sym (split-take w (n * 5)))
  where
    split-take : (l : List ℕ) (k : ℕ) → take k l ++ drop k l ≡ l
    split-take l zero = refl
    split-take [] (suc k) = refl
    split-take (x ∷ l) (suc k) = ap (λ y. x ∷ y) (split-take l k)
place-all w n (rec t m v s p ∷ R) h =
    let r : Rec = rec t m v s p in
    let a : n * 5 + 5 ≤ length w = omega arith in
    let e : suc n * 5 ≡ n * 5 + 5 = omega arith in
    let front : List ℕ = take (n * 5) w ++ flat (r ∷ []) in
    let q : place_one w n r ≡ front ++ drop (n * 5 + 5) w = place-room w n r a ∙ sym (append_assoc (take (n * 5) w) (flat (r ∷ [])) (drop (n * 5 + 5) w)) in
    let l : length front ≡ n * 5 + 5 = simp (length-append, length-take, flat-one) (omega arith) in
    let d : n * 5 + suc (length R) * 5 ≡ n * 5 + 5 + length R * 5 = omega arith in
    place-all (place_one w n r) (suc n) R (rw (one-length w n r) (omega arith))
    ∙ rw (e, q, take_at front (drop (n * 5 + 5) w) (n * 5 + 5) l, d)
    (rw (← drop-drop (length R * 5) (n * 5 + 5) (front ++ drop (n * 5 + 5) w), drop_at front (drop (n * 5 + 5) w) (n * 5 + 5) l, drop-drop (length R * 5) (n * 5 + 5) w) (append_assoc (take (n * 5) w) (flat (r ∷ [])) (flat R ++ drop (n * 5 + 5 + length R * 5) w)))

pub place-front : (w : List ℕ) (R : List Rec) → need R ≤ length w → place w 0 R ≡ flat R ++ drop (need R) w
place-front w R h = let e : 0 + need R ≡ need R = omega arith in place-all w 0 R (omega arith) ∙ rw e

---------------------------------------------------------------- numbers of records

pub counted_none : (n : ℕ) → n ≤ top → counted n 0 ≡ n
unfolding counted
counted_none n h = omega arith

pub counted-then : (n j k : ℕ) → counted (counted n j) k ≡ counted n (j + k)
unfolding counted
counted-then n j k = omega arith

pub counted-top : (n k : ℕ) → counted n k ≤ top
unfolding counted
counted-top n k = omega arith
