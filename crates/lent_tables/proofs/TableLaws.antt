-- The test of the lent tables.
use mathlib.Core.Path.{◌≡◌, refl, sym, ◌∙◌}
use mathlib.Core.Bool.{Bool, true, false, not, ◌&&◌}
use mathlib.Core.List.{List}
use Prim.Native.Nat.{ℕ, ◌≤◌, ◌<◌}
use lib.ListN.{length}
use lib.Dec.{leb}
use borrow.Author.Tests.{leb-true, le-leb, lt-leb}
use Rattle.atn.specs.Entries.{table_fits}
use Rattle.atn.proofs.Inverse.{both}

pub table-some : (t : List ℕ) → table_fits t ≡ true → (1 ≤ length t) × (length t ≤ 256)
unfolding table_fits
table-some t h = let z = both (leb 1 (length t)) (leb (length t) 256) h in (leb-true 1 (length t) z.0, leb-true (length t) 256 z.1)

pub table_none : (t : List ℕ) → length t < 1 → false ≡ table_fits t
unfolding table_fits
table_none t h = rw (lt-leb 1 (length t) h)

pub table-rest : (t : List ℕ) → 1 ≤ length t → leb (length t) 256 ≡ table_fits t
unfolding table_fits
table-rest t h = rw (le-leb 1 (length t) h)

pub both_down : {a b : Bool} {t : Bool} → a ≡ true → b ≡ t → b ≡ a && t
both_down x y = rw (x, y)

pub both_up : {a : Bool} (t : Bool) → a ≡ false → false ≡ a && t
both_up t x = rw x

module _ (down up : List ℕ) {t : Bool} (q : t ≡ (table_fits down && table_fits up)) where
  pub tables_fail : not t ≡ true → (table_fits down && table_fits up) ≡ false
  tables_fail h = sym q ∙ go t h
    where
      go : (t : Bool) → not t ≡ true → t ≡ false
      go true y = sym y
      go false y = refl

  pub tables_hold : not t ≡ false → (table_fits down && table_fits up) ≡ true
  tables_hold h = sym q ∙ go t h
    where
      go : (t : Bool) → not t ≡ false → t ≡ true
      go true y = refl
      go false y = sym y

  pub tables-are : not t ≡ false → (1 ≤ length down) × (length down ≤ 256) × (1 ≤ length up) × (length up ≤ 256)
  tables-are h =
      let z = both (table_fits down) (table_fits up) (tables_hold h) in
      let d = table-some down z.0 in
      let u = table-some up z.1 in
      (d.0, d.1, u.0, u.1)
