-- Any two outcomes that `Took` allows are equal: number and cursor are determined, for every frame, cursor and count.
use mathlib.Core.Path.{◌≡◌, refl, sym, ap, ◌∙◌}
use mathlib.Core.Bool.{Bool, true, false}
use mathlib.Core.List.{List}
use Prim.Native.Nat.{ℕ, ◌+◌, ◌-◌, ◌*◌}
use native.Mathlib.Omega.{arith}
use lib.ListN.{length}
use lib.Dec.{leb}
use borrow.Author.Tests.{leb-true, leb-false}
use Rattle.atn.specs.Format.{out}
use Rattle.cursor.specs.declared.place.Cursor.{Cursor}
use Rattle.cursor.specs.declared.place.Got.{Got}
use Rattle.cursor.specs.Place.{number, put, stopped, Inside, Pulled, stuck, short, got}
use Rattle.cursor.proofs.Laws.{stopped_stops}
use Rattle.reader.specs.Reads.{Took}

module _ (s : List ℕ) (c : Cursor) (n : ℕ) where
  stops : (c.why ≡ 0 → ⊥) → {d : Cursor} → d ≡ c → d.why ≡ 0 → ⊥
  stops y q z = y (sym (ap (λ (e : Cursor). e.why) q) ∙ z)

  runs_out : {d : Cursor} (k : ℕ) {p m : ℕ} → d ≡ put c p (number (out k)) m → d.why ≡ 0 → ⊥
  runs_out k q z = let y : number (out k) ≡ 0 = sym (ap (λ (e : Cursor). e.why) q) ∙ z in omega arith

  -- off the frame it has stopped too
  lost : {d : Cursor} → d ≡ stopped c 4 0 → d.why ≡ 0 → ⊥
  lost = stopped_stops c 4 0 (λ z. omega arith)

  module _ {g h : Got ℕ} (a : Took s c n g) (b : Took s c n h) where
    -- neither has a number
    neither : g.c ≡ h.c → (g.c.why ≡ 0 → ⊥) → g ≡ h
    neither q y = let v = a.none y ∙ sym (b.none (λ z. y (ap (λ (e : Cursor). e.why) q ∙ z))) in λ i. record { v = v i; c = q i }

    in_frame : Pulled s c n g → Pulled s c n h → g ≡ h
    in_frame (stuck y q) (stuck z r) = neither (q ∙ sym r) (stops y q)
    in_frame (stuck y q) (short w l r) = absurd (y w)
    in_frame (stuck y q) (got w l v r) = absurd (y w)
    in_frame (short w l q) (stuck y r) = absurd (y w)
    in_frame (short w l q) (short x k r) = neither (q ∙ sym r) (runs_out (c.at + n - c.end) q)
    in_frame (short w l q) (got x k v r) = absurd (omega arith)
    in_frame (got w l v q) (stuck y r) = absurd (y w)
    in_frame (got w l v q) (short x k r) = absurd (omega arith)
    in_frame (got w l v q) (got x k u r) = let p = v ∙ sym u in let e = q ∙ sym r in λ i. record { v = p i; c = e i }

    astray : (Inside s c → ⊥) → g ≡ h
    astray y = neither (a.astray y ∙ sym (b.astray y)) (lost (a.astray y))

    pub took_one : g ≡ h
    took_one = go (leb c.at c.end) refl (leb c.end (length s * 8)) refl
      where
        go : (t : Bool) → leb c.at c.end ≡ t → (u : Bool) → leb c.end (length s * 8) ≡ u → g ≡ h
        go true e true f = let i : Inside s c = (leb-true c.at c.end e, leb-true c.end (length s * 8) f) in in_frame (a.pulls.gave i) (b.pulls.gave i)
        go true e false f = let z = leb-false c.end (length s * 8) f in astray (λ i. omega (arith, i.1))
        go false e u f = let z = leb-false c.at c.end e in astray (λ i. omega (arith, i.0))
