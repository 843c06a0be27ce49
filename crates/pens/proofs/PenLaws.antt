-- Parts written one after another.
use mathlib.Core.Path.{◌≡◌, refl, sym, ap, ◌∙◌}
use mathlib.Core.Bool.{true, false, false≢true}
use mathlib.Core.List.{List, [], ◌∷◌, ◌++◌}
use Prim.Native.Nat.{ℕ, zero, ◌+◌, ◌≤◌, ◌<◌}
use native.Mathlib.Omega.{arith}
use lib.ListN.{length, drop, length-append}
use Rattle.x691.specs.Bits.{bits_of}
use Rattle.bit_writer.specs.Put.{set_bits}
use Rattle.bit_writer.proofs.PutLaws.{set_bits-join}
use Rattle.record_lists.specs.Items.{Item}
use Rattle.record_lists.specs.Parse.{Got, no, got, begins, peel, feed, turn}
use Rattle.pens.specs.Stand.{Stand}
use Rattle.pens.specs.Writes.{limit, Took, Wrote, Writes, Inks}
use Rattle.pens.proofs.GotLaws.{writes_none}

module _ {A : Type 0} (enc : A → List ℕ) (g : List Item → Got A) (T : ℕ → List Item) (m : ℕ) (p : Stand) (X : List ℕ) (q : Stand) (Y : List ℕ) where
  -- the list is refused already
  pub writes_still : p.off ≡ true → q.off ≡ true → Writes enc g T m p X q Y
  writes_still h k = record { still = λ _. k; goes = λ z l. absurd (false≢true (sym z ∙ h)) }

  pub writes_got : {v : A} {S : List Item} → p.off ≡ false → g (T p.next) ≡ got v S → Took enc T m p X q Y v S → Writes enc g T m p X q Y
  writes_got h e k = record { still = λ z. absurd (false≢true (sym h ∙ z)); goes = λ z l. rw e k }

---------------------------------------------------------------- bits

pub ink_far : (p : Stand) (X : List ℕ) (n v : ℕ) (Y : List ℕ) → limit < p.at → Inks p X n v p Y
ink_far p X n v Y h = record { next_stays = refl; off_stays = refl; puts = λ l. absurd (omega (arith, h, l)) }

pub ink-near : (p : Stand) (X : List ℕ) (n v : ℕ) (q : Stand) (Y : List ℕ) → q.next ≡ p.next → q.off ≡ p.off → q.at ≡ p.at + n → Y ≡ set_bits X p.at (bits_of n v) → Inks p X n v q Y
ink-near p X n v q Y a b c d = record { next_stays = a; off_stays = b; puts = λ _. (c, d) }

---------------------------------------------------------------- one record

peel_yes : (x : Item) (R : List Item) → begins x R ≡ true → peel (x ∷ []) zero R ≡ got zero (drop 1 R)
unfolding begins peel
peel_yes x [] h = absurd (false≢true h)
peel_yes x (j ∷ R) h = rw h

peel_not : (x : Item) (R : List Item) → begins x R ≡ false → peel (x ∷ []) zero R ≡ no
unfolding begins peel
peel_not x [] h = refl
peel_not x (j ∷ R) h = rw h

module _ (x : Item) (T : ℕ → List Item) (m : ℕ) (p q : Stand) (X : List ℕ) where
  pub took_record : p.off ≡ false → begins x (T p.next) ≡ true → drop 1 (T p.next) ≡ T q.next → q.next ≤ m → q.at ≡ p.at → q.off ≡ false → Writes (λ _. []) (λ R. peel (x ∷ []) zero R) T m p X q X
  unfolding set_bits
  took_record h b t l a o =
      writes_got (λ _. []) (λ R. peel (x ∷ []) zero R) T m p X q X h (peel_yes x (T p.next) b)
      (record { on = o; left = t; fits = l; wrote = λ _. (a ∙ omega arith, refl) })

  pub other_record : p.off ≡ false → begins x (T p.next) ≡ false → q.off ≡ true → Writes (λ _. []) (λ R. peel (x ∷ []) zero R) T m p X q X
  other_record h b o = writes_none (λ _. []) (λ R. peel (x ∷ []) zero R) T m p X q X (peel_not x (T p.next) b) o

---------------------------------------------------------------- one part, and then another

module _ {A B C : Type 0} (enc : A → List ℕ) (enc' : B → List ℕ) (enc'' : C → List ℕ) (g : List Item → Got A) (h : List Item → Got B) (c : A → B → C) (joins : (a : A) (b : B) → enc'' (c a b) ≡ enc a ++ enc' b) (T : ℕ → List Item) (m : ℕ) where
  took_both : (p q r : Stand) (X Y Z : List ℕ) (a : A) (b : B) (S U : List Item) → Took enc T m p X q Y a S → Took enc' T m q Y r Z b U → Took enc'' T m p X r Z (c a b) U
  took_both p q r X Y Z a b S U x y =
      record {
        on = y.on;
        left = y.left;
        fits = y.fits;
        wrote = λ l.
            let e = ap (λ (z : List ℕ). length z) (joins a b) ∙ length-append (enc a) (enc' b) in
            let i = x.wrote (omega (arith, l, e)) in
            let j = y.wrote (omega (arith, l, e, i.0)) in
            (omega (arith, e, i.0, j.0), j.1 ∙ rw (i.1, i.0, joins a b) (sym (set_bits-join X p.at (enc a) (enc' b))));
      }

  pub then_writes : (p q r : Stand) (X Y Z : List ℕ) → Writes enc g T m p X q Y → Writes enc' h T m q Y r Z → Writes enc'' (λ R. feed (g R) λ a S. turn (λ b. c a b) (h S)) T m p X r Z
  unfolding feed turn
  then_writes p q r X Y Z x y = record { still = λ z. y.still (x.still z); goes = λ z l. go (g (T p.next)) (x.goes z l) }
    where
      more : (a : A) (S : List Item) → Took enc T m p X q Y a S → (k : Got B) → Wrote enc' T m q Y r Z k → Wrote enc'' T m p X r Z (turn (λ b. c a b) k)
      more a S t no w = w
      more a S t (got b U) w = took_both p q r X Y Z a b S U t w

      go : (k : Got A) → Wrote enc T m p X q Y k → Wrote enc'' T m p X r Z (feed k λ a S. turn (λ b. c a b) (h S))
      go no w = y.still w
      go (got a S) w = more a S w (h S) (rw w.left (y.goes w.on w.fits))
