-- Ranged numbers, and names by their places.
use Rattle.std.proofs.Common.{◌≡◌, ℕ, ◌+◌, ◌/◌, ◌%◌, ◌^◌, ◌<◌, ◌≤◌, leb, List, [], ◌∷◌, sym, refl, ap, ◌∙◌, arith, eq-eqb, le-leb}
use borrow.Author.Tests.{lt-leb}
use Rattle.x691.specs.Bits.{bit_of}
use Rattle.x691.specs.Types.{extent}
use Rattle.x691.specs.Encoding.{width}
use Rattle.atn.specs.Format.{num, name, bad}
use Rattle.atn.specs.Reading.{rec, Ans, ok, or, mark, over, unless, word, guard, read}
use Rattle.atn.proofs.Marks.{or_nil}
use Rattle.atn.proofs.Steps.{over_in}
use Rattle.cursor.specs.declared.place.Cursor.{Cursor}
use Rattle.cursor.specs.declared.place.Got.{Got}
use Rattle.cursor.specs.Place.{put, stopped, marked, Pulls}
use Rattle.capped_records.specs.Place.{Put}
use Rattle.schema_leaves.specs.declared.Step.{Step}
use Rattle.schema_leaves.specs.Came.{Open, Came}
use Rattle.schema_leaves.proofs.CameLaws.{at, came_told, came_stopped, came_short, came_pull, there}

-- the extent of a range by the code's difference
pub extent_of : (lo hi d : ℕ) → lo < 2 ^ 64 → d < 2 ^ 64 → (d + lo) % 2 ^ 64 ≡ hi → d ≡ extent lo hi
unfolding extent
extent_of lo hi d l m h = omega arith

from_zero : (hi : ℕ) → hi < 2 ^ 64 → hi ≡ extent 0 hi
unfolding extent
from_zero hi h = omega arith

-- a cursor that goes on, marked
pub goes_marked : (c : Cursor) {d : Cursor} (m : ℕ) → c.why ≡ 0 → d ≡ marked c m → d ≡ put c c.at 0 (or c.marks m)
unfolding marked stopped
goes_marked c m z e = e ∙ rw (eq-eqb c.why 0 z)

-- unmarked
pub goes_unmarked : (c : Cursor) → c.why ≡ 0 → c ≡ put c c.at 0 (or c.marks 0)
goes_unmarked c z = rw (or_nil c.marks) (rw (← z) refl)

pub over-above : (d v : ℕ) → d < v → over d v ≡ 1
unfolding over unless mark
over-above d v h = rw (lt-leb v d h)

module _ {s : List ℕ} {a : Step} (o : Open s a) (t lo hi d n : ℕ) (g : Got ℕ) (e : d ≡ extent lo hi) (q : n ≡ width d) (p : Pulls s a.c n g) where
  w_is : width (extent lo hi) ≡ n
  w_is = sym (q ∙ ap width e)

  abbrev after : ℕ → Ans
  after v = ok (a.c.at + n) (rec t 0 (word (lo + v)) 0 a.c.at ∷ []) (over (extent lo hi) v)

  pub number_short : {w : List ℕ} → (g.c.why ≡ 0 → ⊥) → Came (read (num t lo hi) (0, 0) (bit_of s) a.c.end a.c.at) a w (at g.c (g.c.why / 16)) w
  unfolding read
  number_short h = rw w_is (came_short o n g p after h)

  number_as : {c : Cursor} {k u : ℕ} {w w' : List ℕ} → g.c.why ≡ 0 → c ≡ put g.c g.c.at 0 (or g.c.marks (over (extent lo hi) g.v)) → u ≡ (lo + g.v) % 2 ^ 64 → Put w w' a.n k (rec t 0 u 0 a.c.at)
      → Came (read (num t lo hi) (0, 0) (bit_of s) a.c.end a.c.at) a w (at c k) w'
  unfolding read word
  number_as z i u h =
      let y = there o n g p z in
      rw w_is (came_pull o n g p after z (came_told (over (extent lo hi) g.v) (rec t 0 (word (lo + g.v)) 0 a.c.at) (rw y.cursor y.room) (i ∙ rw y.cursor) (rw u at h)))

  pub number-over : {c : Cursor} {k u : ℕ} {w w' : List ℕ} → g.c.why ≡ 0 → d < g.v → c ≡ marked g.c 1 → u ≡ (lo + g.v) % 2 ^ 64 → Put w w' a.n k (rec t 0 u 0 a.c.at)
      → Came (read (num t lo hi) (0, 0) (bit_of s) a.c.end a.c.at) a w (at c k) w'
  number-over z l i u h = number_as z (goes_marked g.c 1 z i ∙ rw (over-above (extent lo hi) g.v (rw e at l))) u h

  pub number_in : {k u : ℕ} {w w' : List ℕ} → g.c.why ≡ 0 → g.v ≤ d → u ≡ (lo + g.v) % 2 ^ 64 → Put w w' a.n k (rec t 0 u 0 a.c.at)
      → Came (read (num t lo hi) (0, 0) (bit_of s) a.c.end a.c.at) a w (at g.c k) w'
  number_in z l u h = number_as z (goes_unmarked g.c z ∙ rw (over_in (extent lo hi) g.v (rw e at l))) u h

---------------------------------------------------------------- names

module _ {s : List ℕ} {a : Step} (o : Open s a) (t hi n : ℕ) (g : Got ℕ) (b : hi < 2 ^ 64) (q : n ≡ width hi) (p : Pulls s a.c n g) where
  name-width : width (extent 0 hi) ≡ n
  name-width = sym (q ∙ ap width (from_zero hi b))

  abbrev named : ℕ → Ans
  named v = guard (leb v (extent 0 hi)) (a.c.at + n) (mark 1) (ok (a.c.at + n) (rec t 0 v 0 a.c.at ∷ []) 0)

  pub name-short : {w : List ℕ} → (g.c.why ≡ 0 → ⊥) → Came (read (name t hi) (0, 0) (bit_of s) a.c.end a.c.at) a w (at g.c (g.c.why / 16)) w
  unfolding read
  name-short h = rw name-width (came_short o n g p named h)

  pub name-over : {c : Cursor} {w : List ℕ} → g.c.why ≡ 0 → hi < g.v → c ≡ stopped g.c 5 1 → Came (read (name t hi) (0, 0) (bit_of s) a.c.end a.c.at) a w (at c 0) w
  unfolding read guard stopped
  name-over {c} z l i =
      let y = there o n g p z in
      let x : extent 0 hi < g.v = rw (from_zero hi b) at l in
      let u : c ≡ put g.c g.c.at 5 (or g.c.marks 1) = i ∙ rw (eq-eqb g.c.why 0 z) in
      rw name-width
      (came_pull o n g p named z
      (rw (lt-leb g.v (extent 0 hi) x) (came_stopped bad (mark 1) (λ f. omega arith) (rw y.cursor y.room) (rw u refl) refl (rw (u, y.cursor) refl) refl)))

  pub name_in_lem : {k : ℕ} {w w' : List ℕ} → g.c.why ≡ 0 → g.v ≤ hi → Put w w' a.n k (rec t 0 g.v 0 a.c.at) → Came (read (name t hi) (0, 0) (bit_of s) a.c.end a.c.at) a w (at g.c k) w'
  unfolding read guard
  name_in_lem z l h =
      let y = there o n g p z in
      let x : g.v ≤ extent 0 hi = rw (from_zero hi b) at l in
      rw name-width
      (came_pull o n g p named z
      (rw (le-leb g.v (extent 0 hi) x) (came_told 0 (rec t 0 g.v 0 a.c.at) (rw y.cursor y.room) (goes_unmarked g.c z ∙ rw y.cursor) h)))
