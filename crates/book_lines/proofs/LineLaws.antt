-- Digits written from the last one on.
use mathlib.Core.Path.{◌≡◌, refl, sym, ◌∙◌}
use mathlib.Core.List.{List, [], ◌∷◌, ◌++◌, append_assoc, append-nil}
use Prim.Native.Nat.{ℕ, zero, suc, ◌+◌, ◌*◌, ◌/◌, ◌%◌, ◌-◌, ◌^◌, ◌≤◌, ◌<◌}
use native.Mathlib.Numerals.{add-one}
use native.Mathlib.Omega.{arith}
use lib.ListN.{length, take, drop, set, length-append, length-drop, take-append-drop}
use lib.Seq.{take-set-le, set_split, take_at, drop_at, drop-drop, drop-append-add, append_snoc, length-take-le}
use Rattle.book_entries.specs.declared.Entry.{Entry}
use Rattle.book_entries.specs.Entries.{text, size, bytes}
use Rattle.book_lines.specs.Lines.{digit, digits, put, line}

pub digits-length : (n x : ℕ) → length (digits n x) ≡ n
unfolding digits
digits-length zero x = refl
digits-length (suc n) x = length-append (digits n (x / 16)) (digit (x % 16) ∷ []) ∙ omega (arith, digits-length n (x / 16))

-- behind the place i of a list in which v was put there
behind : (v : List ℕ) (i d : ℕ) → i < length v → drop i (set v i d) ≡ d ∷ drop (i + 1) v
behind v i d p = rw (set_split v i d p, add-one i) (drop_at (take i v) (d ∷ drop (suc i) v) i (length-take-le i v (omega arith)))

-- k digits of x are still to be put behind `at`
pub turn : (at k x : ℕ) (v : List ℕ) {y : List ℕ} → at + k < length v → y ≡ take at v ++ digits (k + 1) x ++ drop (at + (k + 1)) v → y ≡ take at (set v (at + k) (digit (x % 16))) ++ digits k (x / 16) ++ drop (at + k) (set v (at + k) (digit (x % 16)))
unfolding digits
turn at k x v p e =
    let d = digit (x % 16) in
    let a : at + (k + 1) ≡ at + k + 1 = omega arith in
    rw (e, a, add-one k, take-set-le at v (at + k) d (omega arith), behind v (at + k) d p) (simp (append_assoc, append_snoc))

-- none are left
pub finished : (at n x z : ℕ) (w v : List ℕ) → take at w ++ digits n x ++ drop (at + n) w ≡ take at v ++ digits 0 z ++ drop (at + 0) v → v ≡ put at (digits n x) w
unfolding digits put
finished at n x z w v e =
    let a : at + 0 ≡ at = omega arith in
    rw (digits-length n x, e, a, append-nil (take at v)) (sym (take-append-drop at v))

past : (x d : List ℕ) {n : ℕ} (m : ℕ) → length x ≡ n → drop (n + m) (x ++ d) ≡ drop m d
past x d m e = rw (← e) (drop-append-add x d m)

-- bytes put behind bytes
module _ (at : ℕ) (l v : List ℕ) (p : at + length l ≤ length v) where
  front : length (take at v ++ l) ≡ at + length l
  front = length-append (take at v) l ∙ omega (arith, length-take-le at v (omega arith))

  pub put-length : length (put at l v) ≡ length v
  unfolding put
  put-length = length-append (take at v ++ l) (drop (at + length l) v) ∙ omega (arith, front, length-drop (at + length l) v)

  pub put-put : (m : List ℕ) → put (at + length l) m (put at l v) ≡ put at (l ++ m) v
  unfolding put
  put-put m =
      let d = drop (at + length l) v in
      let e : at + length l + length m ≡ at + length (l ++ m) = omega (arith, length-append l m) in
      rw (take_at (take at v ++ l) d (at + length l) front, past (take at v ++ l) d (length m) front, drop-drop (length m) (at + length l) v, e, append_assoc (take at v) l m)

set-put : (v : List ℕ) (i d : ℕ) → i < length v → set v i d ≡ put i (d ∷ []) v
unfolding put
set-put v i d p = rw (set_split v i d p, add-one i) (sym (append_snoc (take i v) d (drop (suc i) v)))

-- b put behind a
behind-put : (at : ℕ) (a b v : List ℕ) {v₁ v₂ : List ℕ} {i : ℕ} → v₁ ≡ put at a v → v₂ ≡ put i b v₁ → i ≡ at + length a → at + length a ≤ length v → v₂ ≡ put at (a ++ b) v
behind-put at a b v e₁ e₂ f p = rw (e₂, e₁, f) (put-put at a v p b)

-- three parts and a last byte, one behind the other
pub chained : (at : ℕ) (a b c v : List ℕ) (d : ℕ) {v₁ v₂ v₃ x : List ℕ} {i j k : ℕ} → v₁ ≡ put at a v → v₂ ≡ put i b v₁ → i ≡ at + length a → v₃ ≡ put j c v₂ → j ≡ i + length b → x ≡ set v₃ k d → k ≡ j + length c → k < length v → x ≡ put at (a ++ b ++ c ++ d ∷ []) v
chained at a b c v d {v₃ = v₃} {k = k} e₁ e₂ f₂ e₃ f₃ e f p =
    let l₁ = length-append a b in
    let l₂ = length-append (a ++ b) c in
    let g : v₃ ≡ put at (a ++ b ++ c) v = behind-put at (a ++ b) c v (behind-put at a b v e₁ e₂ f₂ (omega arith)) e₃ (omega arith) (omega arith) in
    let n : k < length v₃ = rw (g, put-length at (a ++ b ++ c) v (omega arith)) p in
    behind-put at (a ++ b ++ c) (d ∷ []) v g (e ∙ set-put v₃ k d n) (omega arith) (omega arith)

pub line-length : (e : Entry) → length (line e) ≡ size e * 2 + 14
unfolding line
line-length e =
    let a = digits (size e * 2) (text e / 256 ^ (8 - size e)) in
    let b = digits 8 e.number in
    let c = digits 5 (bytes e) in
    length-append (a ++ b ++ c) (10 ∷ []) ∙ omega (arith, length-append (a ++ b) c, length-append a b, digits-length (size e * 2) (text e / 256 ^ (8 - size e)), digits-length 8 e.number, digits-length 5 (bytes e))
