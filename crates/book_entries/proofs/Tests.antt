-- Tests of entries.
use mathlib.Core.Path.{◌≡◌, refl, sym, ◌∙◌}
use mathlib.Core.Bool.{Bool, true, false, cond, ◌&&◌, ◌||◌, true≢false, false≢true}
use mathlib.Core.List.{List, [], ◌∷◌}
use Prim.Native.Nat.{suc, ◌<◌}
use native.Mathlib.Omega.{arith}
use lib.Dec.{ltb, leb-zero, leb-suc-suc}
use lib.ListN.{length}
use borrow.Author.Tests.{leb-true}
use Rattle.book_entries.specs.declared.Entry.{Entry}
use Rattle.book_entries.specs.Entries.{size, good}
use Rattle.book_entries.specs.Book.{place, holds}

pub both : (a b : Bool) → a && b ≡ true → (a ≡ true) × (b ≡ true)
both true b e = (refl, e)
both false b e = absurd (false≢true e)

pub neither : (a b : Bool) → a || b ≡ false → (a ≡ false) × (b ≡ false)
neither true b e = absurd (true≢false e)
neither false b e = (refl, e)

-- where the place is one of the places, an entry fits
pub holds-place : (fits : Entry → Bool) (E : List Entry) → holds fits E ≡ ltb (place fits E) (length E)
unfolding holds place
holds-place fits [] = refl
holds-place fits (e ∷ E) = go (fits e) (holds-place fits E)
  where
    go : (b : Bool) → holds fits E ≡ ltb (place fits E) (length E) → b || holds fits E ≡ ltb (cond b 0 (suc (place fits E))) (suc (length E))
    go true h = sym (leb-suc-suc 0 (length E) ∙ leb-zero (length E))
    go false h = h ∙ sym (leb-suc-suc (suc (place fits E)) (length E))

-- a good entry has a shape that is not 0
pub shape_good : (e : Entry) → good e ≡ true → 0 < e.shape
unfolding good
shape_good e g = omega (arith, leb-true 2 (size e) (both _ _ g).0)
