-- The end of an inner string, by the tests that decide it.
use mathlib.Core.Path.{◌≡◌, refl, sym, ap, ◌∙◌}
use Prim.Native.Nat.{ℕ, ◌%◌}
use native.Mathlib.Omega.{arith}
use lib.Dec.{eqb}
use borrow.Author.Tests.{eq-eqb, ne_eqb}
use Rattle.atn.specs.Format.{out}
use Rattle.atn.specs.Reading.{or, unless, mark}
use Rattle.cursor.specs.declared.place.Cursor.{Cursor}
use Rattle.cursor.specs.Place.{number, put}
use Rattle.runs.specs.Windows.{closed_why, closed_marks, closed}

pub why_out : (w : ℕ) → w % 16 ≡ 4 → 5 ≡ closed_why w
unfolding closed_why
why_out w q = rw q refl

pub why_bad : {w : ℕ} → w ≡ 5 → 5 ≡ closed_why w
unfolding closed_why
why_bad q = rw q refl

pub why_lack : {w : ℕ} → w ≡ 6 → 6 ≡ closed_why w
unfolding closed_why
why_lack q = rw q refl

pub why_none : {w : ℕ} → (w % 16 ≡ 4 → ⊥) → (w ≡ 5 → ⊥) → (w ≡ 6 → ⊥) → 0 ≡ closed_why w
unfolding closed_why
why_none {w} n₄ n₅ n₆ = rw (ne_eqb (w % 16) 4 n₄, ne_eqb w 5 n₅, ne_eqb w 6 n₆)

pub none_left : {p q : ℕ} → p ≡ q → 0 ≡ unless (eqb p q) 6
unfolding unless
none_left {p} {q} e = rw (eq-eqb p q e)

pub some_left : {p q : ℕ} → (p ≡ q → ⊥) → 32 ≡ unless (eqb p q) 6
unfolding unless mark
some_left {p} {q} n = rw (ne_eqb p q n)

module _ (r : Cursor) {left : ℕ} (e : left ≡ unless (eqb r.at r.end) 6) where
  pub marks_past : r.why ≡ 7 → or (or r.marks 64) left ≡ closed_marks r
  unfolding closed_marks
  marks_past q = rw (q, e)

  pub marks_left : r.why ≡ 0 → or r.marks left ≡ closed_marks r
  unfolding closed_marks
  marks_left z = rw (z, e)

  pub marks_dropped : r.why ≡ 9 → or r.marks left ≡ closed_marks r
  unfolding closed_marks
  marks_dropped z = rw (z, e)

  pub marks_kept : (r.why ≡ 7 → ⊥) → (r.why ≡ 0 → ⊥) → (r.why ≡ 9 → ⊥) → r.marks ≡ closed_marks r
  unfolding closed_marks
  marks_kept n m k = rw (ne_eqb r.why 7 n, ne_eqb r.why 0 m, ne_eqb r.why 9 k)

-- a reading inside that ran out, whatever it lacked
pub closed_out : (d r : Cursor) (k : ℕ) → r.why ≡ number (out k) → closed d r ≡ put d d.at 5 r.marks
unfolding closed
closed_out d r k q =
    let a : 5 ≡ closed_why r.why = why_out r.why (omega arith) in
    let b : r.marks ≡ closed_marks r = marks_kept r refl (λ z. omega arith) (λ z. omega arith) (λ z. omega arith) in
    ap (λ (w : ℕ). put d d.at w (closed_marks r)) (sym a) ∙ ap (put d d.at 5) (sym b)
