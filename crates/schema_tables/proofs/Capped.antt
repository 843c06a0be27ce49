-- From the entry back to the reading: the tests of the table, and the need that is capped.
use mathlib.Core.Path.{◌≡◌, refl, sym, ap}
use mathlib.Core.Bool.{Bool, true, false, ◌&&◌}
use mathlib.Core.List.{List, [], ◌∷◌}
use Prim.Native.Nat.{ℕ, min}
use native.Mathlib.Omega.{arith}
use Rattle.atn.specs.Entries.{Reply, accepted, refused, Outcome, test, decide, enter, read_frame, frame_fits}
use Rattle.atn.specs.Demands.{passes}
use Rattle.schema_tables.specs.Nodes.{meaning}
use Rattle.schema_tables.specs.Tests.{kinds_fit, links_fit, depth_fits}
use Rattle.schema_tables.specs.Entry.{Kept, top, capped_answer, capped, parse_by_table}

-- a table that is not refused: its frames are read by its meaning, and nothing else is asked
pub kept_reads : (N : List ℕ) → Kept N → (s w : List ℕ) → parse_by_table s N w ≡ capped (enter [] (λ f. read_frame (meaning N) f) s w)
unfolding parse_by_table enter decide passes
kept_reads N h s w = ap capped (go (frame_fits s) (kinds_fit N) (links_fit N) (depth_fits N) (read_frame (meaning N) s) h)
  where
    go : (a b c d : Bool) (r : Reply) → b && (c && (d && true)) ≡ true → decide (test a 1 ∷ test b 17 ∷ test c 15 ∷ test d 16 ∷ []) r w ≡ decide (test a 1 ∷ []) r w
    go false b c d r e = refl
    go true true true true r e = refl
    go true false c d r e = let z : ◌≡◌ {A = ℕ} 0 1 = cc in absurd (omega arith)
    go true true false d r e = let z : ◌≡◌ {A = ℕ} 0 1 = cc in absurd (omega arith)
    go true true true false r e = let z : ◌≡◌ {A = ℕ} 0 1 = cc in absurd (omega arith)

-- a table that is refused, for every frame within the limit: 17 first, then 15, then 16
module _ (N s w : List ℕ) (f : frame_fits s ≡ true) where
  pub kinds-refused : kinds_fit N ≡ false → parse_by_table s N w ≡ (refused 17 0 0 0, w)
  unfolding parse_by_table enter decide capped capped_answer
  kinds-refused h = rw (f, h)

  pub links_refused : kinds_fit N ≡ true → links_fit N ≡ false → parse_by_table s N w ≡ (refused 15 0 0 0, w)
  unfolding parse_by_table enter decide capped capped_answer
  links_refused k h = rw (f, k, h)

  pub depth-refused : kinds_fit N ≡ true → links_fit N ≡ true → depth_fits N ≡ false → parse_by_table s N w ≡ (refused 16 0 0 0, w)
  unfolding parse_by_table enter decide capped capped_answer
  depth-refused k l h = rw (f, k, l, h)

---------------------------------------------------------------- the cap

pub cap_accepted : (o : Outcome) {c : Bool} {p m k : ℕ} {w : List ℕ} → capped o ≡ (accepted c p m k, w) → o ≡ (accepted c p m k, w)
unfolding capped capped_answer
cap_accepted (accepted c p m k, v) h = h
cap_accepted (refused n p k l, v) h = let x = ap (λ (o : Outcome). o.0) h in let z : ◌≡◌ {A = ℕ} 0 1 = cc in absurd (omega arith)

pub cap_refused : (o : Outcome) {n p k l : ℕ} {w : List ℕ} → capped o ≡ (refused n p k l, w) → (j : ℕ) × (o ≡ (refused n p j l, w)) × (k ≡ min j top)
unfolding capped capped_answer
cap_refused (accepted c p m k, v) h = let x = ap (λ (o : Outcome). o.0) h in let z : ◌≡◌ {A = ℕ} 0 1 = cc in absurd (omega arith)
cap_refused (refused n' p' j l', v) {n} {p} {k} {l} {w} h =
    let x = ap (λ (o : Outcome). o.0) h in
    let y : v ≡ w = ap (λ (o : Outcome). o.1) h in
    let a : n' ≡ n = cc in
    let b : p' ≡ p = cc in
    let d : min j top ≡ k = cc in
    let e : l' ≡ l = cc in
    (j, rw (a, b, e, y), sym d)

pub cap_words : (o : Outcome) → (capped o).1 ≡ o.1
unfolding capped
cap_words o = refl

pub cap_same : (c : Bool) (p m k : ℕ) (w : List ℕ) → capped (accepted c p m k, w) ≡ (accepted c p m k, w)
unfolding capped capped_answer
cap_same c p m k w = refl

pub cap_need : (n p k l : ℕ) (w : List ℕ) → capped (refused n p k l, w) ≡ (refused n p (min k top) l, w)
unfolding capped capped_answer
cap_need n p k l w = refl
