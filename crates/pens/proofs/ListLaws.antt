-- How a list is written: its members first, and then their number, before them.
use mathlib.Core.Path.{◌≡◌, refl, sym, ap, ◌∙◌}
use mathlib.Core.Bool.{true, false, false≢true}
use mathlib.Core.List.{List, [], ◌∷◌, ◌++◌}
use Prim.Native.Nat.{ℕ, suc, ◌+◌, ◌-◌, ◌≤◌, ◌<◌}
use native.Mathlib.Omega.{arith}
use lib.ListN.{length, length-append}
use lib.Dec.{leb}
use borrow.Author.Tests.{le-leb, lt-leb}
use Rattle.x691.specs.Bits.{bits_of}
use Rattle.x691.specs.Types.{Value}
use Rattle.x691.specs.Encoding.{width, size_bits, joined, encode}
use Rattle.x691.proofs.BitLaws.{length-bits_of}
use Rattle.atn.specs.Format.{Fmt, many, type_of}
use Rattle.atn.specs.Reading.{Ctx}
use Rattle.bit_writer.specs.Put.{set_bits}
use Rattle.bit_writer.proofs.PutLaws.{set_bits-join}
use Rattle.record_lists.specs.Items.{Item}
use Rattle.record_lists.specs.Clear.{firsts}
use Rattle.record_lists.specs.Parse.{Got, no, got, opens, keep, feed, turn, several, parse}
use Rattle.record_lists.proofs.Forth.{feed_inv, turn_inv}
use Rattle.pens.specs.Stand.{Stand}
use Rattle.pens.specs.Rest.{items}
use Rattle.pens.specs.Writes.{limit, Took, Wrote, Skips, Part, Repeats}
use Rattle.pens.proofs.PenLaws.{then_writes, writes_still}
use Rattle.pens.proofs.MemberLaws.{set_bits_swap}

module _ (b : ℕ → ℕ) (W : List ℕ) (m : ℕ) (f : Fmt) (e i : ℕ) (p q r : Stand) (X Y Z : List ℕ) where
  abbrev T : ℕ → List Item
  T j = items b W m j

  abbrev those : ℕ → ℕ → List Item → Got (List (Value (type_of f)))
  those k n R = several (λ j S. parse f (e, j) S) (λ S. opens (firsts f) S) k n R

  -- nothing more
  ended : (n : ℕ) → those i n (T p.next) ≡ got [] (T p.next) → Repeats f e i n b W m p X p X 0
  unfolding joined set_bits
  ended n h =
      record {
        writes = record { still = λ z. z; goes = λ z l. rw h (record { on = z; left = refl; fits = l; wrote = λ _. (omega arith, refl) }) };
        counts = λ z l vs S k. let y : vs ≡ [] = empty (sym h ∙ k) in rw y;
        few = omega arith;
      }
    where
      empty : {vs : List (Value (type_of f))} {S U : List Item} → got [] S ≡ got vs U → vs ≡ []
      empty q = cc

  pub repeats_none : Repeats f e i 0 b W m p X p X 0
  unfolding several
  repeats_none = ended 0 refl

  pub repeats_end : (n : ℕ) → opens (firsts f) (T p.next) ≡ false → Repeats f e i (suc n) b W m p X p X 0
  unfolding several
  repeats_end n h = ended (suc n) (rw h)

  -- the list is refused already
  pub repeats_still : (n : ℕ) → p.off ≡ true → q.off ≡ true → Repeats f e i n b W m p X q Y 0
  repeats_still n h o = record { writes = writes_still _ _ T m p X q Y h o; counts = λ z l vs S j. absurd (false≢true (sym z ∙ h)); few = omega arith }

  pub repeats_more : (n k : ℕ) → opens (firsts f) (T p.next) ≡ true → Part f (e, i) b W m p X q Y → Repeats f e (i + 1) n b W m q Y r Z k → Repeats f e i (suc n) b W m p X r Z (k + 1)
  unfolding several joined
  repeats_more n k h a c =
      let s : i + 1 ≡ suc i = omega arith in
      let d : Repeats f e (suc i) n b W m q Y r Z k = rw s at c in
      let w = then_writes (λ v. encode (type_of f) v) (λ vs. joined (λ v. encode (type_of f) v) vs) (λ vs. joined (λ v. encode (type_of f) v) vs) (λ R. parse f (e, i) R) (λ R. those (suc i) n R) (λ v vs. v ∷ vs) (λ v vs. refl) T m p q r X Y Z a d.writes in
      record {
        writes = record { still = w.still; goes = λ z l. rw h (w.goes z l) };
        counts = λ z l vs S j. counted d z l vs S (rw h at j);
        few = omega (arith, d.few);
      }
    where
      counted : Repeats f e (suc i) n b W m q Y r Z k → p.off ≡ false → p.next ≤ m → (vs : List (Value (type_of f))) (S : List Item) → feed (parse f (e, i) (T p.next)) (λ v U. turn (λ us. v ∷ us) (those (suc i) n U)) ≡ got vs S → length vs ≡ k + 1
      counted d z l vs S j =
          let y = feed_inv (parse f (e, i) (T p.next)) _ j in
          let u = turn_inv _ (those (suc i) n y.1) y.3 in
          let t : Took (λ v. encode (type_of f) v) T m p X q Y y.0 y.1 = rw y.2 at (a.goes z l) in
          let o = d.counts t.on t.fits u.0 S (ap (λ (R : List Item). those (suc i) n R) (sym t.left) ∙ u.1) in
          rw u.2 (omega (arith, o))

module _ (b : ℕ → ℕ) (W : List ℕ) (m : ℕ) (x : Ctx) (lo hi : ℕ) (f : Fmt) (p q r : Stand) (X Y Z : List ℕ) (count : ℕ) (skipped : Skips p (width (hi - lo)) q) (rep : Repeats f x.0 1 hi b W m q X r Y count) where
  abbrev T' : ℕ → List Item
  T' j = items b W m j

  abbrev all : List Item → Got (List (Value (type_of f)))
  all R = several (λ j S. parse f (x.0, j) S) (λ S. opens (firsts f) S) 1 hi R

  there : p.off ≡ false → p.next ≤ m → Wrote (λ vs. joined (λ v. encode (type_of f) v) vs) T' m q X r Y (all (T' p.next))
  there z l = rw (← skipped.next_stays) (rep.writes.goes (skipped.off_stays ∙ z) (omega (arith, skipped.next_stays, l)))

  numbered : p.off ≡ false → p.next ≤ m → (vs : List (Value (type_of f))) (S : List Item) → all (T' p.next) ≡ got vs S → length vs ≡ count
  numbered z l vs S h = rep.counts (skipped.off_stays ∙ z) (omega (arith, skipped.next_stays, l)) vs S (ap (λ (n : ℕ). all (T' n)) skipped.next_stays ∙ h)

  -- enough of them
  pub many_part : lo ≤ count → (p.at ≤ limit → Z ≡ set_bits Y p.at (bits_of (width (hi - lo)) (count - lo))) → Part (many lo hi f) x b W m p X r Z
  unfolding parse encode keep size_bits
  many_part h s = record { still = λ z. rep.writes.still (skipped.off_stays ∙ z); goes = λ z l. go z l (all (T' p.next)) refl (there z l) }
    where
      go : p.off ≡ false → p.next ≤ m → (g : Got (List (Value (type_of f)))) → all (T' p.next) ≡ g → Wrote (λ vs. joined (λ v. encode (type_of f) v) vs) T' m q X r Y g
          → Wrote (λ vs. bits_of (width (hi - lo)) (length vs - lo) ++ joined (λ v. encode (type_of f) v) vs) T' m p X r Z (keep (λ vs. leb lo (length vs)) g)
      go z l no k w = w
      go z l (got vs S) k w =
          let c = numbered z l vs S k in
          rw (le-leb lo (length vs) (omega (arith, c, h)))
          (record {
            on = w.on;
            left = w.left;
            fits = w.fits;
            wrote = λ j.
                let u = width (hi - lo) in
                let A = bits_of u (length vs - lo) in
                let B = joined (λ v. encode (type_of f) v) vs in
                let n = length-append A B in
                let k = length-bits_of u (length vs - lo) in
                let y = skipped.moves (omega (arith, j)) in
                let o = w.wrote (omega (arith, j, n, k, y)) in
                let g = s (omega (arith, j)) in
                let t : q.at ≡ p.at + length A = y ∙ ap (λ (n : ℕ). p.at + n) (sym k) in
                let d : bits_of u (count - lo) ≡ A = ap (λ (n : ℕ). bits_of u (n - lo)) (sym c) in
                (omega (arith, n, k, y, o.0), g ∙ rw (d, o.1, t) (set_bits_swap X p.at (p.at + length A) A B (omega arith) ∙ sym (set_bits-join X p.at A B)));
          })

  -- too few
  pub many_few : (o : Stand) → count < lo → o.off ≡ true → Part (many lo hi f) x b W m p X o Z
  unfolding parse keep
  many_few o h k = record { still = λ _. k; goes = λ z l. go z l (all (T' p.next)) refl }
    where
      go : p.off ≡ false → p.next ≤ m → (g : Got (List (Value (type_of f)))) → all (T' p.next) ≡ g → Wrote (λ v. encode (type_of (many lo hi f)) v) T' m p X o Z (keep (λ vs. leb lo (length vs)) g)
      go z l no e = k
      go z l (got vs S) e = rw (lt-leb lo (length vs) (omega (arith, numbered z l vs S e, h))) k

  pub many_refused : (o : Stand) → r.off ≡ true → o.off ≡ true → Part (many lo hi f) x b W m p X o Z
  unfolding parse keep
  many_refused o h k = record { still = λ _. k; goes = λ z l. go (all (T' p.next)) (there z l) }
    where
      go : (g : Got (List (Value (type_of f)))) → Wrote (λ vs. joined (λ v. encode (type_of f) v) vs) T' m q X r Y g → Wrote (λ v. encode (type_of (many lo hi f)) v) T' m p X o Z (keep (λ vs. leb lo (length vs)) g)
      go no w = k
      go (got vs S) w = absurd (false≢true (sym w.on ∙ h))
