-- Where a reading went on, the places behind its numbers are known; elsewhere the records told of it are free.
use Rattle.std.proofs.Common.{◌≡◌, ℕ, ◌+◌, ◌^◌, ◌<◌, List, refl, ◌∙◌, arith}
use Rattle.x691.specs.Types.{extent}
use Rattle.x691.specs.Bits.{bit_of}
use Rattle.x691.specs.Encoding.{width}
use Rattle.atn.specs.Format.{Fmt, num}
use Rattle.atn.specs.Reading.{Rec, Ans, word, read}
use Rattle.atn.proofs.Inverse.{pull_inv}
use Rattle.cursor.specs.declared.place.Cursor.{Cursor}
use Rattle.cursor.specs.declared.place.Got.{Got}
use Rattle.cursor.specs.Place.{Inside, Pulls, Led, stayed, went, failed, Takes}
use Rattle.cursor.proofs.Laws.{led_inside, pulled_inside}
use Rattle.field_ranges.specs.Ends.{lowest, highest}
use Rattle.ranged_numbers.specs.Numbers.{Ranged}
use Rattle.ranged_numbers.proofs.Split.{pull_went}

-- records that are the same where the reading went on
pub takes_told : {f : Fmt} {s : List ℕ} {c d : Cursor} (T U : ℕ → List Rec) → (Inside s c → d.why ≡ 0 → (n : ℕ) → T n ≡ U n) → Takes f s c d T → Takes f s c d U
takes_told {f} {s} {c} {d} T U h t = record { took = λ x. record { led = λ i. go x.0 (λ e p. read f x (bit_of s) e p) i ((t.took x).led i) } }
  where
    go : (n : ℕ) (k : ℕ → ℕ → Ans) → Inside s c → Led k c d (T n) → Led k c d (U n)
    go n k i (stayed y q) = stayed y q
    go n k i (went p m z a l q) = let e : T n ≡ U n = h i (rw q refl) n in went p m z (a ∙ rw e) l q
    go n k i (failed w p m S y z a l q) = failed w p m S y z a l q

-- the cursor d stands n bits behind c, in the same window; neither has stopped
pub record Behind (c : Cursor) (n : ℕ) (d : Cursor) : Type 0 where
  pub going : c.why ≡ 0
  pub to : d.at ≡ c.at + n
  pub same : d.end ≡ c.end

module _ {s : List ℕ} {c : Cursor} {g : Got ℕ} (k : ℕ) (r : Ranged k s c g) (i : Inside s c) where
  number-inside : Inside s g.c
  number-inside = led_inside _ s c g.c (((r.number 0).took (0, 0)).led i) i

  number_behind : g.c.why ≡ 0 → Behind c (width (extent (lowest k) (highest k))) g.c
  unfolding read
  number_behind z = go (((r.number 0).took (0, 0)).led i)
    where
      w : ℕ
      w = width (extent (lowest k) (highest k))

      go : {R : List Rec} → Led (λ e p. read (num 0 (lowest k) (highest k)) (0, 0) (bit_of s) e p) c g.c R → Behind c w g.c
      go (stayed h q) = absurd (h (rw q at z))
      go (went p m h a l q) = let x = (pull_inv (bit_of s) c.end c.at w _ a).1 in let y : c.at + w ≡ p = cc in record { going = h; to = rw (q, ← y) refl; same = rw q refl }
      go (failed v p m S n h a l q) = absurd (n (rw q at z))

---------------------------------------------------------------- one behind another

-- where the reading goes on at d, it stands n bits behind c
pub record Along (s : List ℕ) (c : Cursor) (n : ℕ) (d : Cursor) : Type 0 where
  pub inside : Inside s c → Inside s d
  pub there : Inside s c → d.why ≡ 0 → Behind c n d

pub along_here : {s : List ℕ} {c : Cursor} → Along s c 0 c
along_here = record { inside = λ i. i; there = λ i z. record { going = z; to = omega arith; same = refl } }

pub pull_along : {s : List ℕ} {c : Cursor} {n : ℕ} {g : Got ℕ} → Pulls s c n g → Along s c n g.c
pull_along {s} {c} {n} {g} p = record { inside = λ i. pulled_inside s c n g i (p.gave i); there = λ i z. let w = pull_went p z i in record { going = rw w.from; to = rw w.to; same = rw w.to } }

module _ {s : List ℕ} {c d : Cursor} {n : ℕ} {g : Got ℕ} (k : ℕ) (a : Along s c n d) (r : Ranged k s d g) where
  -- the reading goes on behind the number, so it did before
  pub number_back : Inside s c → g.c.why ≡ 0 → d.why ≡ 0
  number_back i z = (number_behind k r (a.inside i) z).going

  pub number_along : Along s c (n + width (extent (lowest k) (highest k))) g.c
  number_along =
      record {
        inside = λ i. number-inside k r (a.inside i);
        there = λ i z.
            let x = number_behind k r (a.inside i) z in
            let y = a.there i x.going in
            record { going = y.going; to = omega (arith, x.to, y.to); same = x.same ∙ y.same };
      }

-- the window fits a word, and so does the place
pub along_place : {s : List ℕ} {c d : Cursor} {n : ℕ} → Along s c n d → c.end < 2 ^ 64 → Inside s c → d.why ≡ 0 → d.at ≡ word (c.at + n)
unfolding word
along_place a fits i z = let x = a.there i z in let j = a.inside i in omega (arith, x.to, x.same, j.0)
