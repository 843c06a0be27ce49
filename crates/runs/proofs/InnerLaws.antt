-- An inner string is read as a part of the frame by itself, from its first byte, and closed.
use mathlib.Core.Path.{◌≡◌, refl, ap, ◌∙◌}
use mathlib.Core.Bool.{true, false}
use mathlib.Core.List.{List, []}
use Prim.Native.Nat.{ℕ, ◌+◌, ◌-◌, ◌*◌, ◌/◌, ◌%◌, ◌≤◌, ◌<◌}
use native.Mathlib.Omega.{arith}
use lib.ListN.{length, take, drop, length-take, length-drop}
use lib.Dec.{eqb}
use Rattle.x691.specs.Bits.{bit_of, uint}
use Rattle.atn.specs.Format.{Fmt, out, bad, lack, quit, inner}
use Rattle.atn.specs.Reading.{Rec, Ctx, Ans, ok, stop, or, unless, mark, pull, close, shut, read}
use Rattle.atn.proofs.Steps.{pull_go, pull_no}
use Rattle.atn.proofs.Marks.{or_assoc, or_nil, or_swap}
use Rattle.atn.proofs.Reach.{reach}
use Rattle.atn.proofs.Places.{tells, rises}
use Rattle.atn.proofs.Shift.{placeless, displaced, moved, moved_close, shift}
use Rattle.per.proofs.Laws.{bit_of-part}
use Rattle.cursor.specs.declared.place.Cursor.{Cursor}
use Rattle.cursor.specs.declared.place.Got.{Got}
use Rattle.cursor.specs.Place.{put, Inside, Pulled, stuck, short, got, Led, Reads}
use Rattle.cursor.specs.Place as place
use Rattle.length_determinants.specs.Lengths.{Measures, Passes}
use Rattle.records.specs.Space.{space}
use Rattle.records.specs.Moves.{relocated, raised_places}
use Rattle.records.proofs.Telling.{told_none}
use Rattle.records.proofs.Moving.{told_moved, relocated_displaced}
use Rattle.runs.specs.declared.At.{At}
use Rattle.runs.specs.Runs.{Ran, stayed, went, passed, gave_up, failed, Runs}
use Rattle.runs.specs.Windows.{closed_why, closed_marks, closed, Tells}
use Rattle.runs.proofs.WindowLaws.{closed_out}

-- the part of the frame from the byte of bit q on, as far as the bit end
abbrev pub part : List ℕ → ℕ → ℕ → List ℕ
part s q end = take ((end + 7) / 8 - q / 8) (drop (q / 8) s)

abbrev pub window : ℕ → ℕ → ℕ → Cursor
window q k m = record { at = q % 8; end = q % 8 + k; why = 0; marks = m }

both_moved : (f : Fmt) (x : Ctx) (s : List ℕ) {e q u v : ℕ} → e ≡ u → q ≡ v → close e (read f x (bit_of s) e q) ≡ close u (read f x (bit_of s) u v)
both_moved f x s {e} {q} {u} g h = ap (λ t. close t (read f x (bit_of s) t q)) g ∙ ap (λ t. close u (read f x (bit_of s) u t)) h

-- what is read there is what is read in the frame, moved
in_part : (f : Fmt) (x : Ctx) (s : List ℕ) (q k : ℕ) → placeless f ≡ true → close (q + k) (read f x (bit_of s) (q + k) q) ≡ moved (8 * (q / 8)) (close (q % 8 + k) (read f x (bit_of (part s q (q + k))) (q % 8 + k) (q % 8)))
in_part f x s q k z =
    let a : ℕ = 8 * (q / 8) in
    let l : ℕ = (q + k + 7) / 8 - q / 8 in
    let b : q ≡ a + q % 8 = omega arith in
    let e : q + k ≡ a + (q % 8 + k) = omega arith in
    let y : read f x (bit_of s) (a + (q % 8 + k)) (a + q % 8) ≡ moved a (read f x (bit_of (part s q (q + k))) (q % 8 + k) (q % 8)) =
    shift (bit_of (part s q (q + k))) (bit_of s) a (8 * l) (λ i h. bit_of-part s (q / 8) l i h) f x (q % 8 + k) (q % 8) z (omega arith) in
    let u : close (q + k) (read f x (bit_of s) (q + k) q) ≡ close (a + (q % 8 + k)) (read f x (bit_of s) (a + (q % 8 + k)) (a + q % 8)) = both_moved f x s e b in
    u ∙ ap (close (a + (q % 8 + k))) y ∙ moved_close a (q % 8 + k) (read f x (bit_of (part s q (q + k))) (q % 8 + k) (q % 8))

---------------------------------------------------------------- closing

-- how a reading of a string leads on, seen from the cursor c in front of the string's bits to the cursor d behind them
abbrev string_of : Fmt → List ℕ → ℕ → ℕ → ℕ → Ans
string_of f s k u p = pull (bit_of s) u p k (λ _. close (p + k) (read f (0, 0) (bit_of s) (p + k) p))

module _ (f : Fmt) (s : List ℕ) {c d : Cursor} (k : ℕ) (z : placeless f ≡ true) (i : Inside s c) (few : length s ≤ 65536) where
  close_led : {r : Cursor} {R : List Rec} → c.why ≡ 0 → c.at + k ≤ c.end → d ≡ put c (c.at + k) 0 c.marks
      → Ran (λ u p. read f (0, 0) (bit_of (part s c.at (c.at + k))) u p) (window c.at k d.marks) r R → Led (string_of f s k) c (closed d r) (relocated (8 * (c.at / 8)) R)
  unfolding closed closed_why closed_marks close shut moved mark unless tells reach
  close_led {r} {R} w l q x = go x
    where
      a : ℕ
      a = 8 * (c.at / 8)

      e : a + (c.at % 8 + k) ≡ c.at + k
      e = omega arith

      same : {y : Ans} → read f (0, 0) (bit_of (part s c.at (c.at + k))) (c.at % 8 + k) (c.at % 8) ≡ y → string_of f s k c.end c.at ≡ moved a (close (c.at % 8 + k) y)
      same h = pull_go (bit_of s) c.end c.at k _ l ∙ in_part f (0, 0) s c.at k z ∙ ap (λ y. moved a (close (c.at % 8 + k) y)) h

      -- the records are told with places in the part, and moved
      same_recs : {y : Ans} → read f (0, 0) (bit_of (part s c.at (c.at + k))) (c.at % 8 + k) (c.at % 8) ≡ y → reach y ≤ c.at % 8 + k → relocated a (tells y) ≡ displaced a (tells y)
      same_recs {y} h g = relocated_displaced a (c.at % 8) (reach y) (tells y) (rw h at (rises (bit_of (part s c.at (c.at + k))) f (0, 0) (c.at % 8 + k) (c.at % 8))) (omega (arith, i.1))

      go : Ran (λ u p. read f (0, 0) (bit_of (part s c.at (c.at + k))) u p) (window c.at k d.marks) r R → Led (string_of f s k) c (closed d r) (relocated (8 * (c.at / 8)) R)
      go (stayed h _ _) = absurd (h refl)
      go (went p m _ g u y) = place.Led.went (c.at + k) (or m (unless (eqb p (c.at % 8 + k)) 6)) w (same g ∙ rw (same_recs g u) (ap (λ t. ok t (displaced a R) (or m (unless (eqb p (c.at % 8 + k)) 6))) e)) l (rw (y, q, or_assoc c.marks m (unless (eqb p (c.at % 8 + k)) 6)))
      go (passed lacked p m _ g u y) = place.Led.went (c.at + k) (or 64 (or m (unless (eqb p (c.at % 8 + k)) 6))) w (same g ∙ rw (same_recs g u) (ap (λ t. ok t (displaced a R) (or 64 (or m (unless (eqb p (c.at % 8 + k)) 6)))) e)) l (rw (y, q, or_swap 64 m (unless (eqb p (c.at % 8 + k)) 6), or_assoc (or c.marks m) 64 (unless (eqb p (c.at % 8 + k)) 6), or_assoc c.marks m (or 64 (unless (eqb p (c.at % 8 + k)) 6))))
      go (gave_up o false t p m _ g u y) = place.Led.went (c.at + k) (or (mark t) m) w (same g ∙ rw (same_recs g u) (ap (λ x. ok x (displaced a R) (or (mark t) m)) e)) l (rw (y, q))
      go (gave_up o true t p m _ g u y) = place.Led.went (c.at + k) (or (mark t) (or m (unless (eqb p (c.at % 8 + k)) 6))) w (same g ∙ rw (same_recs g u) (ap (λ x. ok x (displaced a R) (or (mark t) (or m (unless (eqb p (c.at % 8 + k)) 6)))) e)) l (rw (y, q, or_assoc c.marks (or (mark t) m) (unless (eqb p (c.at % 8 + k)) 6), or_assoc (mark t) m (unless (eqb p (c.at % 8 + k)) 6)))
      go (failed (out lacked) p m S n _ g _ y) = place.Led.failed bad (c.at + k) m (displaced a S) (λ h. omega arith) w (same g ∙ ap (λ t. stop bad t (displaced a S) m) e) l (closed_out d r lacked (ap (λ (x : Cursor). x.why) y) ∙ rw (y, q))
      go (failed bad p m S n _ g _ y) = place.Led.failed bad (c.at + k) m (displaced a S) (λ h. omega arith) w (same g ∙ ap (λ t. stop bad t (displaced a S) m) e) l (rw (y, q))
      go (failed lack p m S n _ g _ y) = place.Led.failed lack (c.at + k) m (displaced a S) (λ h. omega arith) w (same g ∙ ap (λ t. stop lack t (displaced a S) m) e) l (rw (y, q))
      go (failed (quit o j t) p m S n _ g _ y) = absurd (n refl)

---------------------------------------------------------------- the string

module _ (f : Fmt) {s : List ℕ} {c d : Cursor} {l : Got ℕ} (z : placeless f ≡ true) (measures : Measures s c l) (passes : Passes l.c l.v d) where
  abbrev reading : ℕ → ℕ → Ans
  reading u p = read (inner f) (0, 0) (bit_of s) u p

  abbrev behind : Cursor → List Rec → Type 0
  behind e R = Reads (string_of f s l.v) s l.c e R

  from-length : {e : Cursor} {R : List Rec} → behind e R → Reads reading s c e R
  unfolding read
  from-length x = measures.then (λ n u p. string_of f s n u p) x

  -- the string is not there
  pub inner_lost : {n : ℕ} {w : List ℕ} → (d.why ≡ 0 → ⊥) → Tells 0 reading s c n w w (record { n = n; c = d })
  inner_lost h = record { recs = []; reads = from-length (record { led = λ i. go i ((passes.pulls s).gave i) }); told = told_none }
    where
      go : Inside s l.c → Pulled s l.c l.v (record { v = uint (bit_of s) l.c.at l.v; c = d }) → Led (string_of f s l.v) l.c d []
      go i (stuck g q) = place.Led.stayed g q
      go i (short g y q) = place.Led.failed (out (l.c.at + l.v - l.c.end)) l.c.at 0 [] (λ x. omega arith) g (pull_no (bit_of s) l.c.end l.c.at l.v _ y) i.0 (q ∙ rw (or_nil l.c.marks))
      go i (got g y v q) = absurd (h (rw q refl))

  -- it is there, and was read as a part of the frame
  pub inner_read : {b n : ℕ} {w w' : List ℕ} {r : At} → length s ≤ 65536 → d.why ≡ 0 → Runs b (λ u p. read f (0, 0) (bit_of (part s l.c.at (l.c.at + l.v))) u p) (part s l.c.at (l.c.at + l.v)) (window l.c.at l.v d.marks) n w w' r
      → Tells b reading s c n w (raised_places (8 * (l.c.at / 8)) (r.n - n) (space n) w') (record { n = r.n; c = closed d r.c })
  inner_read {b} {n} {w} {w'} {r} few h x = record { recs = relocated (8 * (l.c.at / 8)) x.recs; reads = from-length (record { led = λ i. go i ((passes.pulls s).gave i) }); told = told_moved (8 * (l.c.at / 8)) x.told }
    where
      go : Inside s l.c → Pulled s l.c l.v (record { v = uint (bit_of s) l.c.at l.v; c = d }) → Led (string_of f s l.v) l.c (closed d r.c) (relocated (8 * (l.c.at / 8)) x.recs)
      go i (stuck g q) = absurd (g (rw q at h))
      go i (short g y q) = absurd (let u = rw q at h in omega arith)
      go i (got g y v q) = close_led f s l.v z i few g y q (x.ran inside)
        where
          inside : Inside (part s l.c.at (l.c.at + l.v)) (window l.c.at l.v d.marks)
          inside = (omega arith, omega (arith, i.1, y, length-take ((l.c.at + l.v + 7) / 8 - l.c.at / 8) (drop (l.c.at / 8) s), length-drop (l.c.at / 8) s))

  -- it would be there, and the frame does not hold it: no cursor in the frame comes to this
  pub inner_off : {e : Cursor} {n : ℕ} {w : List ℕ} → d.why ≡ 0 → length s * 8 < l.c.at + l.v → Tells 0 reading s c n w w (record { n = n; c = e })
  inner_off {e} h o = record { recs = []; reads = from-length (record { led = λ i. go i ((passes.pulls s).gave i) }); told = told_none }
    where
      go : Inside s l.c → Pulled s l.c l.v (record { v = uint (bit_of s) l.c.at l.v; c = d }) → Led (string_of f s l.v) l.c e []
      go i (stuck g q) = absurd (g (rw q at h))
      go i (short g y q) = absurd (let u = rw q at h in omega arith)
      go i (got g y v q) = absurd (omega (arith, i.1))
