-- A choice, an extension bit, a part with a record before it.
use mathlib.Core.Path.{◌≡◌, refl, sym, ap, ◌∙◌}
use mathlib.Core.List.{List, [], ◌∷◌}
use Prim.Native.Nat.{ℕ, zero, suc, ◌+◌, ◌-◌, ◌/◌, ◌≤◌, ◌<◌}
use native.Mathlib.Nat.{add-zero}
use native.Mathlib.Omega.{arith}
use lib.ListN.{length}
use borrow.Author.Tests.{eq-eqb}
use Rattle.x691.specs.Bits.{bit_of}
use Rattle.x691.specs.Encoding.{width, highest}
use Rattle.atn.specs.Format.{Fmt, Alts, choice, ext, noted, bad, alternatives_of}
use Rattle.atn.specs.Alternatives.{alternatives_from}
use Rattle.atn.specs.Reading.{Ctx, Ans, Rec, rec, ok, stop, or, mark, then, glue, fork, read, read_choice}
use Rattle.atn.specs.Messages.{extended}
use Rattle.atn.proofs.Marks.{or_nil}
use Rattle.atn.proofs.Alternatives.{count-from}
use Rattle.cursor.specs.declared.place.Cursor.{Cursor}
use Rattle.cursor.specs.declared.place.Got.{Got}
use Rattle.cursor.specs.Place.{put, stopped, marked, Pulls}
use Rattle.schema_tables.specs.Entry.{top}
use Rattle.capped_records.specs.Place.{Put}
use Rattle.capped_records.proofs.PlaceLaws.{counted-top}
use Rattle.schema_leaves.specs.declared.Step.{Step}
use Rattle.schema_leaves.specs.Came.{Open, Came}
use Rattle.schema_leaves.proofs.CameLaws.{at, came_same, came_told, came_stopped, came_then, came_short, came_pull, there, open-pull}
use Rattle.schema_leaves.proofs.NumberLaws.{goes_marked, goes_unmarked}

---------------------------------------------------------------- the alternatives

module _ (F : ℕ → Fmt) where
  alternatives-width : (k n : ℕ) → width (highest (alternatives_of (alternatives_from F k n))) ≡ width (n - 1)
  unfolding highest
  alternatives-width k n = rw (count-from F k n)

  pick_in : (x : Ctx) (b : ℕ → ℕ) (e p k n i : ℕ) → i < n → read_choice (alternatives_from F k n) i x b e p ≡ read (F (k + i)) x b e p
  unfolding alternatives_from read
  pick_in x b e p k zero i l = absurd (omega arith)
  pick_in x b e p k (suc n) zero l = rw (add-zero k)
  pick_in x b e p k (suc n) (suc i) l = let q : k + suc i ≡ suc k + i = omega arith in rw q (pick_in x b e p (suc k) n i (omega arith))

  pick_out : (x : Ctx) (b : ℕ → ℕ) (e p k n i : ℕ) → n ≤ i → read_choice (alternatives_from F k n) i x b e p ≡ stop bad p [] (mark 1)
  unfolding alternatives_from read
  pick_out x b e p k zero i l = refl
  pick_out x b e p k (suc n) zero l = absurd (omega arith)
  pick_out x b e p k (suc n) (suc i) l = pick_out x b e p (suc k) n i (omega arith)

-- a record was told, and the reading goes on
pub told-open : {s : List ℕ} {a : Step} {w w' : List ℕ} {k : ℕ} {r : Rec} → Open s a → Put w w' a.n k r → Open s (at a.c k)
told-open {a = a} o h = record { goes = o.goes; inside = o.inside; short = o.short; few = rw h.count (counted-top a.n 1) }

module _ (F : ℕ → Fmt) (t first n : ℕ) (s : List ℕ) {a : Step} (o : Open s a) {b : ℕ} (g : Got ℕ) (q : b ≡ width (n - 1)) (p : Pulls s a.c b g) where
  fs : Alts
  fs = alternatives_from F first n

  abbrev Choice : List ℕ → Step → List ℕ → Type 0
  Choice w z w' = Came (read (choice t (alternatives_from F first n)) (0, 0) (bit_of s) a.c.end a.c.at) a w z w'

  abbrev chosen : ℕ → Ans
  chosen i = then (ok (a.c.at + b) (rec t 0 i 0 a.c.at ∷ []) 0) λ r. read_choice (alternatives_from F first n) i (0, 0) (bit_of s) a.c.end r

  bits_are : width (highest (alternatives_of (alternatives_from F first n))) ≡ b
  bits_are = alternatives-width F first n ∙ sym q

  pub index_short : {w : List ℕ} → (g.c.why ≡ 0 → ⊥) → Choice w (at g.c (g.c.why / 16)) w
  unfolding read
  index_short h = rw bits_are (came_short o b g p chosen h)

  module _ (z : g.c.why ≡ 0) {w w₁ : List ℕ} (t' : length w ≤ top) {m : ℕ} (h : Put w w₁ a.n m (rec t 0 g.v 0 a.c.at)) where
    pub index-open : Open s (at g.c m)
    index-open = told-open (open-pull o b g p z) h

    onward : {v : Step} {w' : List ℕ} → Came (read_choice (alternatives_from F first n) g.v (0, 0) (bit_of s) g.c.end g.c.at) (at g.c m) w₁ v w' → Choice w v w'
    unfolding read
    onward x =
        let y = there o b g p z in
        let e : g.c.end ≡ a.c.end = rw y.cursor in
        let f : g.c.at ≡ a.c.at + b = rw y.cursor in
        rw bits_are
        (came_pull o b g p chosen z
        (came_then {b = at g.c m} (λ r. read_choice (alternatives_from F first n) g.v (0, 0) (bit_of s) a.c.end r) t'
        (came_told {a = at g.c a.n} 0 (rec t 0 g.v 0 a.c.at) (rw e y.room) (rw (← f) (goes_unmarked g.c z)) h) z (came_same (ap (λ u. read_choice (alternatives_from F first n) g.v (0, 0) (bit_of s) u g.c.at) (sym e)) x)))

    pub index_in : {v : Step} {w' : List ℕ} → g.v < n → Came (read (F (first + g.v)) (0, 0) (bit_of s) g.c.end g.c.at) (at g.c m) w₁ v w' → Choice w v w'
    index_in l x = onward (came_same (pick_in F (0, 0) (bit_of s) g.c.end g.c.at first n g.v l) x)

    pub index_out : {d : Cursor} → n ≤ g.v → d ≡ stopped g.c 5 1 → Choice w (at d 0) w₁
    unfolding stopped
    index_out {d} l e =
        let u : d ≡ put g.c g.c.at 5 (or g.c.marks 1) = e ∙ rw (eq-eqb g.c.why 0 z) in
        onward (came_same (pick_out F (0, 0) (bit_of s) g.c.end g.c.at first n g.v l) (came_stopped bad (mark 1) (λ f. omega arith) index-open.inside.0 (rw u refl) refl (rw u refl) refl))

---------------------------------------------------------------- an extension bit

module _ (f : Fmt) (t : ℕ) (s : List ℕ) {a : Step} (o : Open s a) (g : Got ℕ) (p : Pulls s a.c 1 g) where
  abbrev Extension : List ℕ → Step → List ℕ → Type 0
  Extension w z w' = Came (read (ext f (extended t)) (0, 0) (bit_of s) a.c.end a.c.at) a w z w'

  abbrev forked : ℕ → Ans
  forked v = fork v (read f (0, 0) (bit_of s) a.c.end (a.c.at + 1)) (then (ok (a.c.at + 1) [] (mark 2)) λ r. read (extended t) (0, 0) (bit_of s) a.c.end r)

  pub bit-short : {w : List ℕ} → (g.c.why ≡ 0 → ⊥) → Extension w (at g.c (g.c.why / 16)) w
  unfolding read
  bit-short h = came_short o 1 g p forked h

  module _ (z : g.c.why ≡ 0) where
    pub bit-open : Open s (at g.c a.n)
    bit-open = open-pull o 1 g p z

    pub bit-clear : {v : Step} {w w' : List ℕ} → g.v ≡ 0 → Came (read f (0, 0) (bit_of s) g.c.end g.c.at) (at g.c a.n) w v w' → Extension w v w'
    unfolding read fork
    bit-clear e x =
        let y = there o 1 g p z in
        came_pull o 1 g p forked z (rw e (came_same (rw y.cursor) x))

    pub bit-set : {d : Cursor} {m : ℕ} {w w' : List ℕ} → (g.v ≡ 0 → ⊥) → d ≡ marked g.c 2 → Put w w' a.n m (rec t 0 0 1 g.c.at) → Extension w (at d m) w'
    unfolding read fork then glue mark
    bit-set {d} n e h =
        let y = there o 1 g p z in
        let v : g.v ≡ suc (g.v - 1) = omega (arith, n) in
        let u : g.c.at ≡ a.c.at + 1 = rw y.cursor in
        came_pull o 1 g p forked z
        (came_same (ap forked v ∙ rw (or_nil 0, or_nil 2)) (came_told {a = at g.c a.n} {c = d} {p = a.c.at + 1} 2 (rec t 0 0 1 (a.c.at + 1)) (rw y.cursor y.room) (goes_marked g.c 2 z e ∙ rw y.cursor) (rw u at h)))

---------------------------------------------------------------- a record before a part

pub headed : (f : Fmt) (t : ℕ) (s : List ℕ) {a z : Step} {w w₁ w' : List ℕ} {m : ℕ} → Open s a → length w ≤ top → Put w w₁ a.n m (rec t 0 0 0 a.c.at) → Came (read f (0, 0) (bit_of s) a.c.end a.c.at) (at a.c m) w₁ z w'
    → Came (read (noted t 0 0 f) (0, 0) (bit_of s) a.c.end a.c.at) a w z w'
unfolding read
headed f t s {a} o l h x = came_then {b = at a.c _} (λ r. read f (0, 0) (bit_of s) a.c.end r) l (came_told 0 (rec t 0 0 0 a.c.at) o.inside.0 (goes_unmarked a.c o.goes) h) o.goes x
