-- A number of a range and a name, from the bits that were pulled for them.
use Rattle.std.proofs.Common.{◌≡◌, ℕ, ◌+◌, ◌<◌, ◌≤◌, leb, List, [], ◌∷◌, refl, ◌∙◌, arith, le-leb}
use borrow.Author.Tests.{lt-leb}
use Rattle.x691.specs.Types.{extent}
use Rattle.x691.specs.Encoding.{width}
use Rattle.atn.specs.Format.{num, name, bad}
use Rattle.atn.specs.Reading.{Rec, rec, ok, guard, word, over, unless, mark, read}
use Rattle.cursor.specs.declared.place.Cursor.{Cursor}
use Rattle.cursor.specs.declared.place.Got.{Got}
use Rattle.field_ranges.specs.declared.table.Range.{Range}
use Rattle.cursor.specs.Place.{number, marked, stopped, Pulls, Takes}
use Rattle.field_ranges.specs.Ranges.{Listed, width_of}
use Rattle.ranged_numbers.specs.Numbers.{FromLowest, Ranged, Named}
use Rattle.field_ranges.proofs.RowLaws.{lowest_of, highest_of}
use Rattle.cursor.proofs.Laws.{reads_ok, reads_stop, pull-from, marked-nil}

-- mark 1 above the extent alone
pub in_extent : {d top v : ℕ} → top ≡ d → v ≤ top → over d v ≡ 0
unfolding over unless
in_extent {d} {top} {v} z l = rw (le-leb v d (rw z at l))

pub above-extent : {d top v : ℕ} → top ≡ d → top < v → over d v ≡ 1
unfolding over unless mark
above-extent {d} {top} {v} z l = rw (lt-leb v d (rw z at l))

module _ {s : List ℕ} {c d : Cursor} (g : Got ℕ) where
  takes_num : (t lo hi : ℕ) → Pulls s c (width (extent lo hi)) g → d ≡ marked g.c (over (extent lo hi) g.v) → Takes (num t lo hi) s c d (λ n. rec t n (word (lo + g.v)) 0 c.at ∷ [])
  unfolding read
  takes_num t lo hi p q = record { took = λ x. pull-from (width (extent lo hi)) g (λ a v u z. ok z (rec t x.0 (word (lo + v)) 0 a ∷ []) (over (extent lo hi) v)) p (reads_ok _ _ q) }

  takes_name : (t hi : ℕ) → Pulls s c (width (extent 0 hi)) g → g.v ≤ extent 0 hi → d ≡ g.c → Takes (name t hi) s c d (λ n. rec t n g.v 0 c.at ∷ [])
  unfolding read guard
  takes_name t hi p l q =
      record {
        took = λ x.
            pull-from (width (extent 0 hi)) g (λ a v u z. guard (leb v (extent 0 hi)) z (mark 1) (ok z (rec t x.0 v 0 a ∷ []) 0)) p
            (rw (le-leb g.v (extent 0 hi) l) (reads_ok _ 0 (q ∙ marked-nil g.c)));
      }

  takes_unnamed : (t hi : ℕ) {T : ℕ → List Rec} → Pulls s c (width (extent 0 hi)) g → extent 0 hi < g.v → d ≡ stopped g.c 5 (mark 1) → Takes (name t hi) s c d T
  unfolding read guard
  takes_unnamed t hi p l q =
      record {
        took = λ x.
            pull-from (width (extent 0 hi)) g (λ a v u z. guard (leb v (extent 0 hi)) z (mark 1) (ok z (rec t x.0 v 0 a ∷ []) 0)) p
            (rw (lt-leb g.v (extent 0 hi) l) (reads_stop bad (mark 1) (λ z. omega arith) q));
      }

module _ {r : Range} (listed : Listed r) {s : List ℕ} {c : Cursor} (g : Got ℕ) (p : Pulls s c (width_of r) g) where
  -- and what was told of it
  pub ranged-told : {t : Got ℕ} → FromLowest r g.c g.v t → Ranged r.row s c t
  ranged-told {t} h =
      record { number = λ n. rw (lowest_of listed, highest_of listed, h.number) (takes_num g n r.lo r.hi p h.marks) }

  module _ (from : r.lo ≡ 0) where
    from_zero : Pulls s c (width (extent 0 r.hi)) g
    from_zero = rw from at p

    pub named_in : {top : ℕ} → top ≡ extent r.lo r.hi → g.v ≤ top → Named r.row s c (record { v = g.v; c = g.c })
    named_in z l = record { name = λ t. rw (highest_of listed) (takes_name g t r.hi from_zero (rw (z, from) at l) refl) }

    pub named-over : {top : ℕ} {d : Cursor} → top ≡ extent r.lo r.hi → top < g.v → d ≡ stopped g.c 5 1 → Named r.row s c (record { v = g.v; c = d })
    unfolding mark
    named-over z l e = record { name = λ t. rw (highest_of listed) (takes_unnamed g t r.hi from_zero (rw (z, from) at l) e) }
