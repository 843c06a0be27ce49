-- A slice holds the entries E exactly if it is the number of places that they leave and their picture.
use mathlib.Core.Path.{◌≡◌, refl, ap, ◌∙◌}
use mathlib.Core.Bool.{Bool, true, false, cond, ◌&&◌}
use mathlib.Core.List.{List, [], ◌∷◌}
use mathlib.Core.Option.{Option, none, some}
use Prim.Native.Nat.{ℕ, suc, ◌+◌, ◌*◌, ◌/◌, ◌-◌, ◌≤◌}
use native.Mathlib.Omega.{arith}
use lib.Dec.{eqb}
use lib.ListN.{length, drop}
use borrow.Author.Tests.{le-leb, eqb-true, eq-eqb}
use Rattle.book_entries.specs.declared.Entry.{Entry}
use Rattle.book_entries.specs.Book.{orderly, laid, entries, listed}
use Rattle.book_entries.proofs.Places.{places}
use Rattle.book_entries.proofs.Tests.{both}
use Rattle.book_entries.proofs.Listed.{listing, laid-is, laid-length, listed-laid}
use Rattle.std.specs.Prelude.{Ok}
use Rattle.counted_books.specs.Counted.{high, low, left, room, shown, held, recounted, free}
use Rattle.counted_books.specs.Holding.{Fits, Holding}

judged : (b : Bool) (o : Option (List Entry)) {E : List Entry} → cond b o none ≡ some E → (b ≡ true) × (o ≡ some E)
judged true o e = (refl, e)
judged false o e = absurd (let z : ◌≡◌ {A = ℕ} 0 1 = cc in omega arith)

pub holding : (w : List ℕ) {E : List Entry} → held w ≡ some E → Holding w E
unfolding held shown free
holding [] e = absurd (let z : ◌≡◌ {A = ℕ} 0 1 = cc in omega arith)
holding (h ∷ []) e = absurd (let z : ◌≡◌ {A = ℕ} 0 1 = cc in omega arith)
holding (h ∷ l ∷ w) {E} e =
    let j = judged (eqb h (high (left w)) && eqb l (low (left w))) (listed w) e in
    let b = both (eqb h (high (left w))) (eqb l (low (left w))) j.0 in
    let i = listing j.1 in
    let n : suc (suc (length w)) - 2 ≡ length w = omega arith in
    let hi : h ≡ high (length w / 4 - length E) = eqb-true h (high (left w)) b.0 ∙ rw i.is in
    let lo : l ≡ low (length w / 4 - length E) = eqb-true l (low (left w)) b.1 ∙ rw i.is in
    record {
      long = omega arith;
      places = j.1;
      fits = record { orderly = i.orderly; few = omega (arith, places w, ap length i.is) };
      is = rw (n, ← hi, ← lo) (ap (λ (v : List ℕ). h ∷ l ∷ v) (laid-is j.1));
      free = rw (le-leb (h * 4294967296 + l) (room (h ∷ l ∷ w)) (omega (arith, hi, lo))) (ap (λ (k : ℕ). Ok k) (omega (arith, hi, lo)));
    }

-- n words that hold E
module _ (n : ℕ) (E : List Entry) (long : 2 ≤ n) (fits : Fits ((n - 2) / 4) E) where
  pub shown-length : length (shown n E) ≡ n
  unfolding shown
  shown-length = omega (arith, laid-length (n - 2) E (omega (arith, fits.few)))

  laid-entries : entries (laid (n - 2) E) ≡ E
  laid-entries = (listing (listed-laid (n - 2) E fits.orderly (omega (arith, fits.few)))).is

  pub held-shown : held (shown n E) ≡ some E
  unfolding held shown
  held-shown =
      let l = laid-length (n - 2) E (omega (arith, fits.few)) in
      let k = (n - 2) / 4 - length E in
      rw (l, laid-entries, eq-eqb (high k) (high k) refl, eq-eqb (low k) (low k) refl) (listed-laid (n - 2) E fits.orderly (omega (arith, fits.few)))

  -- the places hold E, and the number is set anew
  pub recounted-shown : (w : List ℕ) → drop 2 w ≡ laid (n - 2) E → recounted w ≡ shown n E
  unfolding recounted shown
  recounted-shown w e = rw (e, laid-length (n - 2) E (omega (arith, fits.few)), laid-entries)
