-- Grows of formats, outside elements: what stands behind an extension bit, and numbers.
use Rattle.std.proofs.Common.{◌≡◌, ℕ, zero, suc, ◌+◌, ◌^◌, ◌<◌, cond, ◌&&◌, eqb, leb, List, [], ◌∷◌, sym, refl, arith}
use Rattle.x691.specs.Bits.{bit_of}
use Rattle.x691.specs.Range.{member}
use Rattle.x691.specs.Encoding.{width}
use Rattle.x691.specs.Types.{extent}
use Rattle.atn.specs.Format.{Fmt, num, listed, null, ext}
use Rattle.atn.specs.Reading.{Rec, rec, Ans, ok, glue, then, fork, or, mark, word, over, unless, read}
use Rattle.atn.specs.Messages.{extended}
use Rattle.cursor.specs.declared.place.Cursor.{Cursor}
use Rattle.cursor.specs.declared.place.Got.{Got}
use Rattle.cursor.specs.Place.{marked, Pulls}
use Rattle.acse_reasons.specs.SoFar.{Grows, Keeps}
use Rattle.acse_reasons.proofs.GrowLaws.{grows_same, grows_ok, grows_here, grows_mark, grows_pull, grows_from}

abbrev pub Read : Fmt → List ℕ → ℕ → ℕ → Ans
Read f s u p = read f (0, 0) (bit_of s) u p

---------------------------------------------------------------- behind an extension bit

pub fork-set : (v : ℕ) (x y : Ans) → (v ≡ 0 → ⊥) → fork v x y ≡ y
unfolding fork
fork-set zero x y n = absurd (n refl)
fork-set (suc v) x y n = refl

abbrev Forks : Fmt → Fmt → List ℕ → ℕ → ℕ → ℕ → Ans
Forks f k s v u q = fork v (Read f s u q) (then (ok q [] (mark 2)) λ r. Read k s u r)

module _ {f k : Fmt} {s : List ℕ} {c d : Cursor} {R : List Rec} {g : Got ℕ} (p : Pulls s c 1 g) where
  pub keeps-root : g.v ≡ 0 → Keeps f s g.c d R → Keeps (ext f k) s c d R
  unfolding read fork
  keeps-root z h = record { grows = grows_pull 1 g (Forks f k s) p (rw z h.grows) }

  keeps-set : (g.v ≡ 0 → ⊥) → Grows (λ u q. then (ok q [] (mark 2)) λ r. Read k s u r) s g.c d R → Keeps (ext f k) s c d R
  unfolding read
  keeps-set n h =
      let past : ℕ → ℕ → Ans = λ u q. then (ok q [] (mark 2)) λ r. Read k s u r in
      record { grows = grows_pull 1 g (Forks f k s) p (grows_same past (Forks f k s g.v) (λ i z. sym (fork-set g.v _ _ n)) h) }

module _ {f : Fmt} {s : List ℕ} {c d : Cursor} {g : Got ℕ} (p : Pulls s c 1 g) (n : g.v ≡ 0 → ⊥) (q : d ≡ marked g.c 2) where
  -- nothing is told of it
  pub keeps-unread : Keeps (ext f null) s c d []
  unfolding read then glue mark or
  keeps-unread = keeps-set p n (grows_mark 2 q)

  pub keeps-extended : (t : ℕ) → Keeps (ext f (extended t)) s c d (cond (eqb d.why 0) (rec t 0 0 1 g.c.at ∷ []) [])
  unfolding read then glue mark or
  keeps-extended t = keeps-set p n (grows_here (λ r. rec t 0 0 1 r ∷ []) 2 q)

---------------------------------------------------------------- numbers

from_zero : (hi : ℕ) → hi < 2 ^ 64 → extent 0 hi ≡ hi
unfolding extent
from_zero hi h = omega arith

pub keeps-number : (t hi : ℕ) {s : List ℕ} {c d : Cursor} {g : Got ℕ} → hi < 2 ^ 64 → g.v < 2 ^ 64 → Pulls s c (width hi) g → d ≡ marked g.c (over hi g.v)
    → Keeps (num t 0 hi) s c d (cond (eqb d.why 0) (rec t 0 g.v 0 c.at ∷ []) [])
unfolding read word
keeps-number t hi {s} {c} {d} {g} h l p q =
    let e : extent 0 hi ≡ hi = from_zero hi h in
    let w : word (0 + g.v) ≡ g.v = omega arith in
    let p' : Pulls s c (width (extent 0 hi)) g = rw e p in
    let q' : d ≡ marked g.c (over (extent 0 hi) g.v) = rw e q in
    let r : Keeps (num t 0 hi) s c d (cond (eqb d.why 0) (rec t 0 (word (0 + g.v)) 0 c.at ∷ []) []) = record { grows = grows_from (width (extent 0 hi)) g (λ a v u r. ok r (rec t 0 (word (0 + v)) 0 a ∷ []) (over (extent 0 hi) v)) p' (grows_ok _ _ q') } in
    rw w at r

pub keeps-listed : (t hi : ℕ) (xs : List ℕ) {s : List ℕ} {c d : Cursor} {g : Got ℕ} → Pulls s c (width hi) g → d ≡ marked g.c (unless (leb g.v hi && member g.v xs) 1)
    → Keeps (listed t hi xs) s c d (cond (eqb d.why 0) (rec t 0 g.v 0 c.at ∷ []) [])
unfolding read
keeps-listed t hi xs {g = g} p q = record { grows = grows_from (width hi) g (λ a v u r. ok r (rec t 0 v 0 a ∷ []) (unless (leb v hi && member v xs) 1)) p (grows_ok _ _ q) }
