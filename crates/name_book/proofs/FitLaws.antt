-- What a call makes of the entries that so many places hold, they hold.
use mathlib.Core.Path.{◌≡◌, refl, sym, ◌∙◌}
use mathlib.Core.Bool.{Bool, true, false, cond, not}
use mathlib.Core.List.{List}
use Prim.Native.Nat.{ℕ}
use native.Mathlib.Omega.{arith}
use lib.Dec.{ltb}
use lib.ListN.{length}
use borrow.Author.Tests.{ltb-true, not-false}
use Rattle.std.specs.Prelude.{Result}
use Rattle.book_entries.specs.declared.Entry.{Entry}
use Rattle.book_entries.specs.Entries.{good}
use Rattle.book_entries.specs.Book.{holds, place, numbered}
use Rattle.book_entries.proofs.Tests.{holds-place}
use Rattle.book_changes.proofs.Orderly.{alike, insert-orderly, insert-length, without-orderly, without-length}
use Rattle.counted_books.specs.Holding.{Fits}
use Rattle.name_book.specs.declared.Added.{Added}
use Rattle.name_book.specs.declared.Refusal.{Refusal}
use Rattle.name_book.specs.Calls.{offer, take_out}

pub either : {A : Type 0} (P : A → Type 0) (b : Bool) {x y : A} → (b ≡ true → P x) → (b ≡ false → P y) → P (cond b x y)
either P true f g = f refl
either P false f g = g refl

module _ (places : ℕ) (E : List Entry) (f : Fits places E) where
  pub offered : (e : Entry) → Fits places (offer places e E).1
  unfolding offer
  offered e =
      let P : Result Added Refusal × List Entry → Type 0 = λ o. Fits places o.1 in
      either P (holds (numbered e.number) E) (λ t. f) (λ t.
      either P (not (good e)) (λ g. f) (λ g.
      either P (holds (alike e) E) (λ n. f) (λ n.
      either P (ltb (length E) places)
      (λ r. record { orderly = insert-orderly e E (not-false (good e) g) t n f.orderly; few = omega (arith, insert-length e E, ltb-true (length E) places r) })
      (λ r. f))))

  pub taken : (k : ℕ) → Fits places (take_out k E).1
  unfolding take_out
  taken k =
      let P : Result (Unit {0}) Refusal × List Entry → Type 0 = λ o. Fits places o.1 in
      either P (holds (numbered k) E)
      (λ h. record { orderly = without-orderly k E f.orderly; few = omega (arith, f.few, without-length k E (ltb-true (place (numbered k) E) (length E) (sym (holds-place (numbered k) E) ∙ h))) })
      (λ h. f)
