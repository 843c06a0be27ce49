-- A part by what is got from the list: the same in other words, nothing, and bits that no record tells.
use mathlib.Core.Path.{◌≡◌, refl, sym, ap, ◌∙◌}
use mathlib.Core.Bool.{true, false≢true}
use mathlib.Core.List.{List, []}
use Prim.Native.Nat.{ℕ, ◌+◌}
use native.Mathlib.Omega.{arith}
use Rattle.x691.specs.Bits.{bits_of}
use Rattle.x691.proofs.BitLaws.{length-bits_of}
use Rattle.bit_writer.specs.Put.{set_bits}
use Rattle.record_lists.specs.Items.{Item}
use Rattle.record_lists.specs.Parse.{Got, no, got}
use Rattle.pens.specs.Stand.{Stand}
use Rattle.pens.specs.Writes.{Wrote, Writes, Inks}
use Rattle.std.specs.Prelude.{Result}
use Rattle.std.specs.Result.{IsErrAnd}
use Rattle.std.proofs.lemmas.Result.{err_from_is_err_and}
use Rattle.pens.specs.declared.Pen.{Pen}
use Rattle.pens.specs.declared.Refused.{Refused}
use Rattle.pens.specs.Stand.{refused, after}

module _ {A : Type 0} (enc enc' : A → List ℕ) (g g' : List Item → Got A) (T : ℕ → List Item) (m : ℕ) (p : Stand) (X : List ℕ) (q : Stand) (Y : List ℕ) where
  -- what is got, and its bits, said in another way
  pub writes_as : g (T p.next) ≡ g' (T p.next) → ((v : A) (S : List Item) → g' (T p.next) ≡ got v S → enc v ≡ enc' v) → Writes enc g T m p X q Y → Writes enc' g' T m p X q Y
  writes_as e f w = record { still = w.still; goes = λ z l. go (g' (T p.next)) refl (rw e at (w.goes z l)) }
    where
      go : (k : Got A) → g' (T p.next) ≡ k → Wrote enc T m p X q Y k → Wrote enc' T m p X q Y k
      go no h x = x
      go (got v S) h x = record { on = x.on; left = x.left; fits = x.fits; wrote = rw (f v S h) at x.wrote }

module _ {A : Type 0} (enc : A → List ℕ) (g : List Item → Got A) (T : ℕ → List Item) (m : ℕ) (p : Stand) (X : List ℕ) (q : Stand) (Y : List ℕ) where
  -- no value is got, and the list is refused
  pub writes_none : g (T p.next) ≡ no → q.off ≡ true → Writes enc g T m p X q Y
  writes_none e k = record { still = λ _. k; goes = λ z l. rw e k }

  -- a list that is refused is refused wherever the writer stands, and whatever it put
  pub writes_off : (r : Stand) (Z : List ℕ) → Writes enc g T m p X q Y → q.off ≡ true → r.off ≡ true → Writes enc g T m p X r Z
  writes_off r Z w o k = record { still = λ _. k; goes = λ z l. go (g (T p.next)) (w.goes z l) }
    where
      go : (h : Got A) → Wrote enc T m p X q Y h → Wrote enc T m p X r Z h
      go no x = k
      go (got v S) x = absurd (false≢true (sym x.on ∙ o))

-- behind an error the list is refused
pub went_off : (Q : Refused → Type 0) (r : Result Pen Refused) → IsErrAnd r Q → after r ≡ refused
went_off Q r k = let p = err_from_is_err_and r k in rw p.1 refl

-- as if n bits of v had been put
pub inked : (n v : ℕ) (q : Stand) (X : List ℕ) → Inks q X n v (record { next = q.next; at = q.at + n; off = q.off }) (set_bits X q.at (bits_of n v))
inked n v q X = record { next_stays = refl; off_stays = refl; puts = λ _. (refl, refl) }

-- nothing to write
pub writes_nothing : {A : Type 0} (enc : A → List ℕ) (v : A) → enc v ≡ [] → (T : ℕ → List Item) (m : ℕ) (p : Stand) (X : List ℕ) → Writes enc (λ R. got v R) T m p X p X
unfolding set_bits
writes_nothing enc v e T m p X = record { still = λ z. z; goes = λ z l. record { on = z; left = refl; fits = l; wrote = λ _. rw e (omega arith, refl) } }

-- the bits of a number, which no record tells
pub writes_ink : {A : Type 0} (enc : A → List ℕ) (a : A) (k v : ℕ) → enc a ≡ bits_of k v → (T : ℕ → List Item) (m : ℕ) (p : Stand) (X : List ℕ) (q : Stand) (Y : List ℕ) → Inks p X k v q Y → Writes enc (λ R. got a R) T m p X q Y
writes_ink enc a k v e T m p X q Y i =
    record {
      still = λ z. i.off_stays ∙ z;
      goes = λ z l.
          record {
            on = i.off_stays ∙ z;
            left = ap T (sym i.next_stays);
            fits = rw i.next_stays l;
            wrote = λ h. rw (e, length-bits_of k v) (i.puts (omega (arith, h)));
          };
    }
