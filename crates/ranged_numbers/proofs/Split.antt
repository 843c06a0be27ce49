-- Several numbers out of one pull: the bits of each stand among those that were pulled.
use Rattle.std.proofs.Common.{◌≡◌, ℕ, ◌+◌, ◌/◌, ◌%◌, ◌^◌, ◌≤◌, List, refl, ap, ◌∙◌, arith}
use lib.Pow.{high, low}
use Rattle.x691.specs.Types.{extent}
use Rattle.x691.specs.Bits.{bit_of, uint}
use Rattle.per.proofs.Laws.{uint-below, uint-split}
use Rattle.atn.specs.Format.{Fmt}
use Rattle.atn.specs.Reading.{Rec, over, or}
use Rattle.cursor.specs.declared.place.Cursor.{Cursor}
use Rattle.cursor.specs.declared.place.Got.{Got}
use Rattle.cursor.specs.Place.{put, marked, stopped, Inside, Pulled, stuck, short, got, Pulls, Takes}
use Rattle.field_ranges.specs.declared.table.Range.{Range}
use Rattle.field_ranges.specs.Ranges.{Listed, width_of}
use Rattle.ranged_numbers.specs.Numbers.{FromLowest, Ranged}
use Rattle.ranged_numbers.proofs.NumberLaws.{ranged-told}

---------------------------------------------------------------- bits that stand there

-- the n bits from p on are before e, and spell v
pub record Stands (s : List ℕ) (e p n v : ℕ) : Type 0 where
  pub room : p + n ≤ e
  pub spelt : v ≡ uint (bit_of s) p n

module _ {s : List ℕ} {e p v : ℕ} (m n : ℕ) (h : Stands s e p (m + n) v) where
  pub stands_first : Stands s e p m (v / 2 ^ n)
  stands_first = record { room = omega (arith, h.room); spelt = rw (h.spelt, uint-split (bit_of s) p m n) (high (uint (bit_of s) p m) n (uint-below s (p + m) n)) }

  pub stands_last : Stands s e (p + m) n (v % 2 ^ n)
  stands_last = record { room = omega (arith, h.room); spelt = rw (h.spelt, uint-split (bit_of s) p m n) (low (uint (bit_of s) p m) n (uint-below s (p + m) n)) }

-- a pull behind which the reading goes on
pub record Went (s : List ℕ) (c : Cursor) (n : ℕ) (g : Got ℕ) : Type 0 where
  pub from : c ≡ put c c.at 0 c.marks
  pub to : g.c ≡ put c (c.at + n) 0 c.marks
  pub stands : Stands s c.end c.at n g.v

pub pull_went : {s : List ℕ} {c : Cursor} {n : ℕ} {g : Got ℕ} → Pulls s c n g → g.c.why ≡ 0 → Inside s c → Went s c n g
pull_went {s} {c} {n} {g} p z i = go (p.gave i)
  where
    go : Pulled s c n g → Went s c n g
    go (stuck h q) = absurd (h (rw q at z))
    go (short h l q) = absurd (let y = rw q at z in omega arith)
    go (got h l v q) = record { from = ap (λ (w : ℕ). put c c.at w c.marks) h; to = q; stands = record { room = l; spelt = v } }

---------------------------------------------------------------- numbers of them

-- A number is told by a cursor b that is further on: that one stays, and has mark 1 more or not.
pub told_at_lem : {b : Cursor} (c : Cursor) {p m v : ℕ} {r : Range} {g : Got ℕ} → b ≡ put c p 0 m → FromLowest r b v g → g.c ≡ put c p 0 (or m (over (extent r.lo r.hi) v))
unfolding marked stopped
told_at_lem c e t = t.marks ∙ rw e

-- It is the number that is read from d, which has the same marks, up to q, if its bits stand there.
pub ranged_at : {s : List ℕ} {b d : Cursor} (c : Cursor) {p m v : ℕ} {r : Range} {g : Got ℕ} (q : ℕ) → d ≡ put c p 0 m → Listed r → FromLowest r b v g → Stands s c.end p (width_of r) v → p + width_of r ≡ q
    → Ranged r.row s d (record { v = g.v; c = put c q 0 (or m (over (extent r.lo r.hi) v)) })
unfolding marked stopped
ranged_at c {p} {m} {v} {r} q e l t h z =
    rw (e, ← z) (ranged-told l (record { v = v; c = put c (p + width_of r) 0 m }) (record { gave = λ i. got refl h.room h.spelt refl }) (record { number = t.number; marks = refl }))

-- that the cursor is inside its window may be used
pub takes_inside : {f : Fmt} {s : List ℕ} {c d : Cursor} {T : ℕ → List Rec} → (Inside s c → Takes f s c d T) → Takes f s c d T
takes_inside h = record { took = λ x. record { led = λ i. ((h i).took x).led i } }
