-- One or two clearances in a row, and the constrained data from its head and them.
use mathlib.Core.Path.{◌≡◌, refl, sym, ap, ◌∙◌}
use mathlib.Core.Bool.{Bool, true, false}
use mathlib.Core.List.{List, [], ◌∷◌, ◌++◌}
use Prim.Native.Nat.{ℕ, ◌+◌, ◌-◌, ◌%◌, ◌≤◌}
use native.Mathlib.Omega.{arith}
use lib.Dec.{leb}
use borrow.Author.Tests.{leb-true, leb-false}
use Rattle.x691.specs.Bits.{bit_of}
use Rattle.atn.specs.Reading.{Rec, rec, Ans, past, late, then, times, laxly, read}
use Rattle.atn.specs.Messages.{route_clearance, constrained_data}
use Rattle.atn.proofs.Marks.{or_nil}
use Rattle.atn.proofs.Then.{then-end, then_same}
use Rattle.cursor.specs.declared.place.Cursor.{Cursor}
use Rattle.cursor.specs.declared.place.Got.{Got}
use Rattle.cursor.specs.Place.{Inside}
use Rattle.records.specs.Told.{Told}
use Rattle.records.proofs.Telling.{told_none, told-then}
use Rattle.runs.specs.declared.At.{At}
use Rattle.runs.specs.Runs.{given, Ran, stayed, went, passed, gave_up, failed, Runs}
use Rattle.runs.proofs.RunLaws.{ran_inside, runs_same, runs_stayed, runs_within}
use Rattle.clearance_attempts.specs.Excused.{Excused}
use Rattle.clearance_count.specs.Counts.{count_then, Counts}
use Rattle.clearances.specs.Attempts.{attempt, attempts}
use Rattle.constrained_data.specs.Clears.{Clears}
use Rattle.optional_parts.proofs.PartLaws.{part_none, part_runs}
use Rattle.clearances.proofs.ClearanceLaws.{clearance_beyond, attempt-end}
use Rattle.runs.proofs.AttemptLaws.{lax_kept, lax_dropped, lax_ends}
use Rattle.clearance_count.proofs.CountLaws.{seven, ran_next}
use Rattle.constrained_data.proofs.FrameLaws.{frame, frame-count}

---------------------------------------------------------------- clearances in a row

one-attempt : (b : ℕ → ℕ) (e at : ℕ) → attempt b 1 e at ≡ attempts b 1 e at
unfolding times
one-attempt b e at = sym (then-end (attempt b 1 e at))

two_attempts : (b : ℕ → ℕ) (e at : ℕ) → then (attempt b 1 e at) (λ q. attempt b 2 e q) ≡ attempts b 2 e at
unfolding times
two_attempts b e at = then_same (attempt b 1 e at) _ _ (λ q. sym (then-end (attempt b 2 e q)))

-- a second clearance behind one that has passed the window's end
second_beyond : (b : ℕ → ℕ) (e at l : ℕ) (R : List Rec) (m : ℕ) → attempt b 1 e at ≡ past l e R m → then (attempt b 1 e at) (λ q. attempt b 2 e q) ≡ past l e (R ++ (rec 80 0 2 0 e ∷ [])) m
unfolding then late laxly
second_beyond b e at l R m h = rw (h, clearance_beyond 2 b e, or_nil m)

given_seven : (j : Bool) → given j ≡ 7 → ⊥
given_seven true h = omega arith
given_seven false h = omega arith

module _ {s : List ℕ} {c : Cursor} {n : ℕ} where
  pub attempts-none : {w : List ℕ} → Runs 0 (λ e p. attempts (bit_of s) 0 e p) s c n w w (record { n = n; c = c })
  unfolding times
  attempts-none = part_runs part_none

  module _ {a : ℕ} {w w₁ : List ℕ} {x : At} (f : Runs a (λ e p. attempt (bit_of s) 1 e p) s c n w w₁ x) where
    pub attempts-one : Runs a (λ e p. attempts (bit_of s) 1 e p) s c n w w₁ x
    attempts-one = runs_same (λ e p. attempt (bit_of s) 1 e p) _ (λ i z. one-attempt (bit_of s) c.end c.at) f

    -- the first has not passed the window's end
    next : {b : ℕ} {w₂ : List ℕ} {y : At} → (x.c.why ≡ 7 → ⊥) → Runs b (λ e p. attempt (bit_of s) 2 e p) s x.c x.n w₁ w₂ y → Runs (a + b) (λ e p. attempts (bit_of s) 2 e p) s c n w w₂ y
    next h g =
        let k : ℕ → ℕ → Ans = (λ e p. attempt (bit_of s) 1 e p) in
        let l : ℕ → ℕ → Ans = (λ e p. attempt (bit_of s) 2 e p) in
        runs_same (λ e p. then (k e p) (λ q. l e q)) _ (λ i _. two_attempts (bit_of s) c.end c.at)
        (record { recs = f.recs ++ g.recs; ran = λ i. ran_next k l (f.ran i) h (g.ran (ran_inside k s c x.c (f.ran i) i)); told = told-then f.told g.told })

    pub attempts_both : {b : ℕ} {w₂ : List ℕ} {y : At} → x.c.why ≡ 0 → Runs b (λ e p. attempt (bit_of s) 2 e p) s x.c x.n w₁ w₂ y → Runs (a + b) (λ e p. attempts (bit_of s) 2 e p) s c n w w₂ y
    attempts_both z g = next (λ h. omega arith) g

    -- behind a stop there is no second
    pub attempts-stopped : (x.c.why ≡ 0 → ⊥) → (x.c.why ≡ 7 → ⊥) → Runs (a + 0) (λ e p. attempts (bit_of s) 2 e p) s c n w w₁ x
    attempts-stopped z h = next h (runs_stayed _ z)

    -- the first has passed the window's end: the second is there, with nothing in it
    pub attempts_passed : {m : ℕ} {w₂ : List ℕ} → c.why ≡ 0 → x.c.why ≡ 7 → Told 1 w₁ w₂ x.n m (rec 80 0 2 0 x.c.at ∷ []) → Runs (a + 1) (λ e p. attempts (bit_of s) 2 e p) s c n w w₂ (record { n = m; c = x.c })
    attempts_passed z h t = record { recs = f.recs ++ (rec 80 0 2 0 x.c.at ∷ []); ran = λ i. go i (f.ran i); told = told-then f.told t }
      where
        go : Inside s c → Ran (λ e p. attempt (bit_of s) 1 e p) c x.c f.recs → Ran (λ e p. attempts (bit_of s) 2 e p) c x.c (f.recs ++ (rec 80 0 2 0 x.c.at ∷ []))
        go i (stayed g q r) = absurd (g z)
        go i (went p m y e l q) = absurd (let u : 0 ≡ 7 = rw q at h in omega arith)
        go i (passed lacked p m y e l q) =
            let o : p ≡ c.end = attempt-end 1 (bit_of s) c.end c.at i.0 e in
            let a : x.c.at ≡ c.end = ap (λ (d : Cursor). d.at) q ∙ o in
            passed lacked p m y (sym (two_attempts (bit_of s) c.end c.at) ∙ second_beyond (bit_of s) c.end c.at lacked f.recs m (rw o at e) ∙ rw (a, o)) l q
        go i (gave_up o j v p m y e l q) = absurd (given_seven j (rw q at h))
        go i (failed v p m S g y e l q) = absurd (seven v (rw q at h))

---------------------------------------------------------------- by their number

attempt_ends : {a : ℕ} (k : ℕ) {s : List ℕ} {c : Cursor} {n : ℕ} {w w₁ : List ℕ} {x : At} → c.why ≡ 0 → Runs a (λ e p. attempt (bit_of s) k e p) s c n w w₁ x → Inside s c → (x.c.why % 16 ≡ 4 → ⊥) × (x.c.why ≡ 5 → ⊥)
attempt_ends k {s} z f i = lax_ends (λ e p. read route_clearance (0, k) (bit_of s) e p) 7 true z (f.ran i)

module _ {b m : ℕ} {s : List ℕ} {c : Cursor} {n : ℕ} (z : c.why ≡ 0) where
  pub clears_none : {w : List ℕ} → m ≡ 0 → Clears b m s c n w w (record { n = n; c = c })
  clears_none q = record { runs = rw q (runs_within b _ (omega arith) attempts-none); ends = λ i. (λ h. omega arith, λ h. omega arith) }

  module _ {a : ℕ} {w w₁ : List ℕ} {x : At} (f : Runs a (λ e p. attempt (bit_of s) 1 e p) s c n w w₁ x) where
    pub clears_one : a ≤ b → m ≡ 1 → Clears b m s c n w w₁ x
    clears_one l q = record { runs = rw q (runs_within b _ l (attempts-one f)); ends = attempt_ends 1 z f }

    pub clears_both : {w₂ : List ℕ} {y : At} → a + a ≤ b → m ≡ 2 → x.c.why ≡ 0 → Runs a (λ e p. attempt (bit_of s) 2 e p) s x.c x.n w₁ w₂ y → Clears b m s c n w w₂ y
    clears_both l q h g =
        record {
          runs = rw q (runs_within b _ l (attempts_both f h g));
          ends = λ i. attempt_ends 2 h g (ran_inside _ s c x.c (f.ran i) i);
        }

    pub clears_passed : {w₂ : List ℕ} {k : ℕ} → a + 1 ≤ b → m ≡ 2 → x.c.why ≡ 7 → Told 1 w₁ w₂ x.n k (rec 80 0 2 0 x.c.at ∷ []) → Clears b m s c n w w₂ (record { n = k; c = x.c })
    clears_passed l q h t = record { runs = rw q (runs_within b _ l (attempts_passed f z h t)); ends = attempt_ends 1 z f }

    pub clears_stopped : a + 0 ≤ b → m ≡ 2 → (x.c.why ≡ 0 → ⊥) → (x.c.why ≡ 7 → ⊥) → Clears b m s c n w w₁ x
    clears_stopped l q h g = record { runs = rw q (runs_within b _ l (attempts-stopped f h g)); ends = attempt_ends 1 z f }

---------------------------------------------------------------- what is given up

module _ {k : ℕ → ℕ → Ans} {c d f : Cursor} where
  -- nothing was told
  pub lax_excused : c.why ≡ 0 → Ran k c d [] → Excused d f → Ran (λ e p. laxly 7 true (k e p)) c f []
  lax_excused z r x = by_why (leb 4 (d.why % 16)) (leb (d.why % 16) 5) refl refl
    where
      by_why : (t u : Bool) → leb 4 (d.why % 16) ≡ t → leb (d.why % 16) 5 ≡ u → Ran (λ e p. laxly 7 true (k e p)) c f []
      by_why true true q y = let l = leb-true 4 (d.why % 16) q in let h = leb-true (d.why % 16) 5 y in rw (x.given l h) (lax_dropped 7 true z r l h)
      by_why true false q y = let h = leb-false (d.why % 16) 5 y in rw (x.kept (λ l o. omega arith)) (lax_kept 7 true r (λ e. omega arith) (λ e. omega arith))
      by_why false u q y = let h = leb-false 4 (d.why % 16) q in rw (x.kept (λ l o. omega arith)) (lax_kept 7 true r (λ e. omega arith) (λ e. omega arith))

told-nothing : {w w' : List ℕ} {n m : ℕ} (R : List Rec) → Told 0 w w' n m R → R ≡ []
told-nothing [] t = refl
told-nothing (r ∷ R) t = absurd (omega (arith, t.count, t.few))

---------------------------------------------------------------- the constrained data

module _ {s : List ℕ} {c : Cursor} {g : Got ℕ} (z : c.why ≡ 0) (x : Counts s c g) where
  framed : {b n : ℕ} {w w' : List ℕ} {r : At} → Runs b (λ e p. attempts (bit_of s) g.v e p) s g.c n w w' r → Runs b (λ e p. read frame (0, 0) (bit_of s) e p) s c n w w' r
  framed y = runs_same (λ e p. count_then (bit_of s) e p (λ m q. attempts (bit_of s) m e q)) _ (λ i _. sym (frame-count (bit_of s) c.end c.at)) (x.then (λ m e p. attempts (bit_of s) m e p) y)

  -- its head cannot be read
  pub constrained_short : {f : Cursor} {n : ℕ} {w : List ℕ} → (g.c.why ≡ 0 → ⊥) → Excused g.c f → Runs 0 (λ e p. read constrained_data (0, 0) (bit_of s) e p) s c n w w (record { n = n; c = f })
  unfolding read
  constrained_short {f} {n} {w} h y =
      let r : Runs 0 (λ e p. read frame (0, 0) (bit_of s) e p) s c n w w (record { n = n; c = g.c }) = framed (runs_stayed _ h) in
      let o : r.recs ≡ [] = told-nothing r.recs r.told in
      record { recs = []; ran = λ i. lax_excused z (rw o at (r.ran i)) y; told = told_none }

  pub constrained_run : {b n : ℕ} {w w' : List ℕ} {r : At} → Clears b g.v s g.c n w w' r → Runs b (λ e p. read constrained_data (0, 0) (bit_of s) e p) s c n w w' r
  unfolding read
  constrained_run {r = r} y =
      let f = framed y.runs in
      record { recs = f.recs; ran = λ i. (let h = y.ends (x.inside i) in lax_kept 7 true (f.ran i) h.0 h.1); told = f.told }
