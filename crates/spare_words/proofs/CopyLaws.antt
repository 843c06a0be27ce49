-- Words copied one after another.
use mathlib.Core.Path.{◌≡◌, refl, sym, ap, ◌∙◌}
use mathlib.Core.List.{List, [], ◌∷◌, ◌++◌, append_assoc, append-nil}
use Prim.Native.Nat.{ℕ, zero, suc, ◌+◌, ◌-◌, ◌≤◌, ◌<◌}
use native.Mathlib.Nat.{le_refl, le_of_suc-le-suc, not-suc-le-zero}
use native.Mathlib.Numerals.{add-one}
use native.Mathlib.Omega.{arith}
use lib.ListN.{length, take, drop, get_or, set, length-append, length-drop, drop_of_length-le}
use lib.Seq.{take_all, take_at, drop_at, drop-drop, drop-cons, take-add, take-length, length-take-le}
use borrow.Rule.Slice.PartMut.{put_mid, mid_of}

-- n words from index i, one by one
abbrev pub words : ℕ → ℕ → List ℕ → List ℕ
words zero i l = []
words (suc n) i l = get_or l i 0 ∷ words n (suc i) l

pub words_take : (n i : ℕ) (l : List ℕ) → i + n ≤ length l → words n i l ≡ take n (drop i l)
words_take zero i l h = refl
words_take (suc n) i l h =
    ap (λ (r : List ℕ). get_or l i 0 ∷ r) (words_take n (suc i) l (omega (arith, h)))
    ∙ ap (λ (r : List ℕ). take (suc n) r) (sym (drop-cons l i 0 (omega (arith, h))))

-- what is lent from index i on
tail : (w : List ℕ) (i : ℕ) → mid_of i (length w - i) w ≡ drop i w
tail w i = take_all (length w - i) (drop i w) (simp length-drop (le_refl _))

pub tail_length : (w : List ℕ) (i : ℕ) → length (mid_of i (length w - i) w) ≡ length w - i
tail_length w i = rw (tail w i) (length-drop i w)

-- w is v with the first i words of `from` at its front
pub record Copied (from v w : List ℕ) (i : ℕ) : Type 0 where
  pub few : i ≤ length from
  pub fits : length from ≤ length v
  pub front : w ≡ take i from ++ drop i v
  pub long : length w ≡ length v

module _ {from : List ℕ} where
  pub copied : {v w : List ℕ} (i : ℕ) → i ≤ length from → length from ≤ length v → w ≡ take i from ++ drop i v → Copied from v w i
  copied {v = v} i few fits front =
      record { few = few; fits = fits; front = front; long = rw front (simp (length-append, length-take-le i from few, length-drop) (omega arith)) }

  pub copied_none : {v : List ℕ} → length from ≤ length v → Copied from v v 0
  copied_none fits = copied 0 (omega arith) fits refl

  -- what is behind the copied words stays
  behind : {v w : List ℕ} {i : ℕ} (j : ℕ) → i ≤ j → Copied from v w i → drop j w ≡ drop j v
  behind {v} {w} {i} j h c =
      let e : j ≡ i + (j - i) = omega arith in
      let d : drop i w ≡ drop i v = rw c.front (drop_at (take i from) (drop i v) i (length-take-le i from c.few)) in
      ap (λ (n : ℕ). drop n w) e ∙ sym (drop-drop (j - i) i w) ∙ ap (λ (l : List ℕ). drop (j - i) l) d ∙ drop-drop (j - i) i v ∙ ap (λ (n : ℕ). drop n v) (sym e)

  before : {v w : List ℕ} {i : ℕ} → Copied from v w i → take i w ≡ take i from
  before {v} {i = i} c = rw c.front (take_at (take i from) (drop i v) i (length-take-le i from c.few))

  -- a copy goes on from where another stopped
  pub copied_on : {v w : List ℕ} {i : ℕ} → Copied from v w i → Copied from w w i
  copied_on {v} {w} {i} c = copied i c.few (omega (arith, c.fits, c.long)) (c.front ∙ ap (λ (l : List ℕ). take i from ++ l) (sym (behind i (le_refl i) c)))

  pub copied_then : {v w x : List ℕ} {i j : ℕ} → Copied from v w i → i ≤ j → Copied from w x j → Copied from v x j
  copied_then {j = j} c h d = copied j d.few c.fits (d.front ∙ ap (λ (l : List ℕ). take j from ++ l) (behind j h c))

  -- k words more, from tail to tail
  pub copied_more : {v w t : List ℕ} {i : ℕ} (k : ℕ) → Copied from v w i → k ≤ length from - i → t ≡ take k (mid_of i (length from - i) from) ++ drop k (mid_of i (length w - i) w) → Copied from v (put_mid i (length w - i) w t) (i + k)
  copied_more {v} {w} {t} {i} k c h e =
      let l : length (drop i w) ≤ length w - i = simp length-drop (le_refl _) in
      let p : put_mid i (length w - i) w t ≡ take i w ++ (take k (drop i from) ++ drop k (drop i w)) = rw (e, tail from i, tail w i, drop_of_length-le (drop i w) l, append-nil) in
      copied (i + k) (omega (arith, c.few)) c.fits
      (p
      ∙ rw (before c, drop-drop k i w, behind (i + k) (omega arith) c, take-add i k from, append_assoc (take i from) (take k (drop i from)) (drop (i + k) v)))

  -- one word more
  pub copied_word : {v w : List ℕ} {i : ℕ} → Copied from v w i → i < length from → Copied from v (set w i (get_or from i 0)) (i + 1)
  copied_word {v} {w} {i} c h = copied (i + 1) (omega arith) c.fits (rw c.front (store from v i h (omega (arith, c.fits))) ∙ ap (λ (n : ℕ). take n from ++ drop n v) (sym (add-one i)))
    where
      store : (f v : List ℕ) (i : ℕ) → i < length f → i < length v → set (take i f ++ drop i v) i (get_or f i 0) ≡ take (suc i) f ++ drop (suc i) v
      store [] v i h k = absurd (not-suc-le-zero h)
      store (x ∷ f) [] i h k = absurd (not-suc-le-zero k)
      store (x ∷ f) (y ∷ v) zero h k = refl
      store (x ∷ f) (y ∷ v) (suc i) h k = ap (λ (l : List ℕ). x ∷ l) (store f v i (le_of_suc-le-suc h) (le_of_suc-le-suc k))

  pub copied_all : {v w : List ℕ} {i : ℕ} → Copied from v w i → length from ≤ i → w ≡ from ++ drop (length from) v
  copied_all {v} {i = i} c h =
      let e : i ≡ length from = omega (arith, c.few) in
      c.front ∙ ap (λ (n : ℕ). take n from ++ drop n v) e ∙ ap (λ (l : List ℕ). l ++ drop (length from) v) (take-length from)
