-- Records in words: where they stand, one after another, and the end.
use mathlib.Core.List.{List, [], ◌∷◌}
use mathlib.Core.Path.{◌≡◌, refl, ap, ◌∙◌}
use Prim.Native.Nat.{ℕ, zero, suc, ◌+◌, ◌*◌, ◌/◌, ◌^◌, ◌<◌, ◌≤◌}
use native.Mathlib.Omega.{arith}
use lib.ListN.{length, get_or, drop_of_length-le, get_or-eq_default}
use lib.Seq.{drop-cons, get_or-drop}
use Rattle.atn.specs.Reading.{Rec, rec}
use Rattle.atn.specs.Entries.{need}
use Rattle.record_lists.specs.Message.{records_of}
use Rattle.record_lists.specs.Message as message
use Rattle.records.specs.Space.{size, space}
use Rattle.record_views.specs.View.{count, record_at, records_from}

pub one-record : space 1 ≡ size
unfolding space
one-record = omega arith

pub a_record : 0 < space 1
unfolding space size need
a_record = omega arith

-- the record whose words stand from a place on
abbrev pub words_from : List ℕ → ℕ → Rec
words_from w at = rec (get_or w at 0) (get_or w (at + 1) 0) (get_or w (at + 2) 0) (get_or w (at + 3) 0) (get_or w (at + 4) 0)

so_many : (w : List ℕ) (i k : ℕ) → length (message.records_from w i k) ≡ k
unfolding message.records_from
so_many w i zero = refl
so_many w i (suc k) = ap suc (so_many w (suc i) k)

this_one : (w : List ℕ) (i k j : ℕ) → j < k → get_or (message.records_from w i k) j (rec 0 0 0 0 0) ≡ words_from w ((i + j) * 5)
unfolding message.records_from
this_one w i zero j h = elim h [ ]
this_one w i (suc k) zero h = let e : i ≡ i + 0 = omega arith in ap (λ (n : ℕ). words_from w (n * 5)) e
this_one w i (suc k) (suc j) h = let e : suc i + j ≡ i + suc j = omega arith in this_one w (suc i) k j (omega arith) ∙ ap (λ (n : ℕ). words_from w (n * 5)) e

-- as many as there is room for
pub counted : (w : List ℕ) → count w ≡ length w / size
unfolding count records_of size need
counted w = so_many w 0 (length w / 5)

-- a record's words stand within those that are lent
pub stands : (w : List ℕ) (i : ℕ) → i < count w → i * space 1 + 4 < length w
unfolding space size need
stands w i h = omega (arith, rw (counted w) at h)

pub record_there : (w : List ℕ) (i : ℕ) → i < count w → record_at w i ≡ words_from w (i * space 1)
unfolding record_at records_of space size need
record_there w i h = let e : 0 + i ≡ i = omega arith in this_one w 0 (length w / 5) i (rw (counted w) at h) ∙ ap (λ (n : ℕ). words_from w (n * 5)) e

pub record_past : (w : List ℕ) (i : ℕ) → count w ≤ i → record_at w i ≡ rec 0 0 0 0 0
unfolding record_at count
record_past w i h = get_or-eq_default (records_of w) (rec 0 0 0 0 0) h

-- one record, and the others
pub from_here : (w : List ℕ) (i : ℕ) → i < count w → records_from i w ≡ record_at w i ∷ records_from (suc i) w
unfolding records_from record_at count
from_here w i h = drop-cons (records_of w) i (rec 0 0 0 0 0) h

pub from_end : (w : List ℕ) (i : ℕ) → count w ≤ i → records_from i w ≡ []
unfolding records_from count
from_end w i h = drop_of_length-le (records_of w) h

-- record k of those from i on
pub nth : (w : List ℕ) (i k : ℕ) → get_or (records_from i w) k (rec 0 0 0 0 0) ≡ record_at w (i + k)
unfolding records_from record_at
nth w i k = get_or-drop i (records_of w) k (rec 0 0 0 0 0)

-- a place below the number of records is far below the largest
pub far_below : (w : List ℕ) (i : ℕ) → i < count w → length w < 2 ^ 64 → i < 2 ^ 62
unfolding size need
far_below w i h l = omega (arith, rw (counted w) at h)
