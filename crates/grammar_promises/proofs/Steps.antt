-- One record of a walk: the row that takes it, and where the walk stands behind it.
use mathlib.Core.Path.{◌≡◌, refl, sym, ap, ◌∙◌}
use mathlib.Core.Bool.{Bool, true, false, cond}
use mathlib.Core.List.{List, [], ◌∷◌}
use Prim.Native.Nat.{ℕ, zero, suc, ◌+◌, ◌-◌, ◌*◌, ◌/◌, ◌%◌, ◌≤◌}
use native.Mathlib.Omega.{arith}
use lib.Dec.{eqb}
use lib.ListN.{length, length-drop, get_or, take, drop}
use lib.Seq.{get_or-drop, get_or-take, drop-drop}
use Rattle.atn.specs.Reading.{Ctx}
use Rattle.atn.proofs.Reach.{split}
use Rattle.record_views.specs.declared.Record.{Record}
use Rattle.record_grammar.specs.declared.Row.{Row}
use Rattle.record_grammar.specs.declared.Walk.{Walk}
use Rattle.record_grammar.specs.Kinds.{text, index, clearance, place}
use Rattle.record_grammar.specs.Rows.{row_word, row_at, fits, resolved, asked, found, left_behind, or_kept, row_behind, element_behind, clearance_behind, place_behind, onward, stepped}
use Rattle.record_grammar.specs.Table.{table}
use Rattle.grammar_promises.proofs.States.{Val, any, nil, Means, means_cond, State, lost, stands, Covers}
use Rattle.grammar_promises.proofs.Verdicts.{Sort, value, placed, stretch, letters, Of, Scope, Known, Verdict, yes, no, unsure, Judges, kept_val, verdict, kept_means, judges_row}

---------------------------------------------------------------- the row

-- the row that begins a list of numbers
unfoldable pub row_from : List ℕ → Row
row_from N = record { tag = get_or N 0 0; kind = get_or N 1 0; low = get_or N 2 0; size = get_or N 3 0; next = get_or N 4 0; otherwise = get_or N 5 0; back = get_or N 6 0; last = get_or N 7 0 }

-- the first g rows
unfoldable pub rows_of : ℕ → List ℕ → List Row
rows_of zero N = []
rows_of (suc g) N = row_from N ∷ rows_of g (drop 8 N)

-- all rows
unfoldable pub rows : List Row
rows = rows_of 200 table

-- sixteen to a block, so that a row is found at once
unfoldable pub blocks_of : ℕ → List Row → List (List Row)
blocks_of zero R = []
blocks_of (suc g) R = take 16 R ∷ blocks_of g (drop 16 R)

unfoldable pub blocks : List (List Row)
blocks = blocks_of 13 rows

-- row k, as `row_at` has it
unfoldable pub row : ℕ → Row
row k = get_or (get_or blocks (k / 16) []) (k % 16) (row_from [])

none_from : (k : ℕ) → row_from (drop k []) ≡ row_from []
none_from zero = refl
none_from (suc k) = refl

rows_from : (g : ℕ) (N : List ℕ) (k : ℕ) → length N ≤ g * 8 → get_or (rows_of g N) k (row_from []) ≡ row_from (drop (k * 8) N)
unfolding rows_of
rows_from zero [] k h = sym (none_from (k * 8))
rows_from zero (n ∷ N) k h = absurd (omega arith)
rows_from (suc g) N zero h = refl
rows_from (suc g) N (suc k) h = rows_from g (drop 8 N) k (rw length-drop (omega arith)) ∙ ap row_from (rw drop-drop (ap (λ i. drop i N) next))
  where
    next : 8 + k * 8 ≡ suc k * 8
    next = omega arith

blocks_from : (g : ℕ) (R : List Row) (k : ℕ) → length R ≤ g * 16 → get_or (get_or (blocks_of g R) (k / 16) []) (k % 16) (row_from []) ≡ get_or R k (row_from [])
unfolding blocks_of
blocks_from zero [] k h = refl
blocks_from zero (r ∷ R) k h = absurd (omega arith)
blocks_from (suc g) R k h = split (suc k) 16 below (λ l. above (k - 16) (omega arith) (blocks_from g (drop 16 R) (k - 16) (rw length-drop (omega arith))))
  where
    below : suc k ≤ 16 → get_or (get_or (take 16 R ∷ blocks_of g (drop 16 R)) (k / 16) []) (k % 16) (row_from []) ≡ get_or R k (row_from [])
    below l = let e : k / 16 ≡ 0 = omega arith in let f : k % 16 ≡ k = omega arith in rw (e, f) (get_or-take 16 R k (row_from []) l)

    above : (j : ℕ) → k ≡ 16 + j → get_or (get_or (blocks_of g (drop 16 R)) (j / 16) []) (j % 16) (row_from []) ≡ get_or (drop 16 R) j (row_from []) → get_or (get_or (take 16 R ∷ blocks_of g (drop 16 R)) (k / 16) []) (k % 16) (row_from []) ≡ get_or R k (row_from [])
    above j e f =
        let a : k / 16 ≡ suc (j / 16) = omega arith in
        let c : k % 16 ≡ j % 16 = omega arith in
        rw (a, c) (f ∙ get_or-drop 16 R j (row_from []) ∙ ap (λ i. get_or R i (row_from [])) (sym e))

from_is : (N : List ℕ) (k : ℕ) → row_at N k ≡ row_from (drop (k * 8) N)
unfolding row_from row_at row_word
from_is N k = rw (get_or-drop (k * 8) N 0 0, get_or-drop (k * 8) N 1 0, get_or-drop (k * 8) N 2 0, get_or-drop (k * 8) N 3 0, get_or-drop (k * 8) N 4 0, get_or-drop (k * 8) N 5 0, get_or-drop (k * 8) N 6 0, get_or-drop (k * 8) N 7 0) refl

table-short : length table ≤ 200 * 8
unfolding table
table-short = omega arith

rows_many : (g : ℕ) (N : List ℕ) → length (rows_of g N) ≡ g
unfolding rows_of
rows_many zero N = refl
rows_many (suc g) N = ap suc (rows_many g (drop 8 N))

pub row_is : (k : ℕ) → row_at table k ≡ row k
unfolding row rows blocks
row_is k = from_is table k ∙ sym (rows_from 200 table k table-short) ∙ sym (blocks_from 13 (rows_of 200 table) k (omega (arith, rows_many 200 table)))

-- the row that surely takes the record, if it is known
pub data Taken : Type 0 where
  nowhere : Taken
  by : ℕ → Taken

-- the row found is this one, if it is known
abbrev pub Finds : Taken → ℕ → Type 0
Finds nowhere n = Unit {0}
Finds (by j) n = n ≡ j

-- by the verdict on a row: it, or what is found later
unfoldable pub choose : Verdict → Taken → Taken → Taken
choose yes a b = a
choose no a b = b
choose unsure a b = nowhere

-- rows 1 and 2 stand for the two rows kept
unfoldable pub meant : ℕ → ℕ → ℕ → ℕ
meant b l k = cond (eqb k 1) b (cond (eqb k 2) l k)

-- as `found` asks the rows; the verdict decides whether more are asked
unfoldable pub seek : ℕ → ℕ → ℕ → (Row → Verdict) → ℕ → Taken
seek zero b l v k = nowhere
seek (suc g) b l v k = let j : ℕ = meant b l k in let r : Row = row j in let later : Taken = seek g b l v r.otherwise in choose (v r) (by j) later

module _ (s : Walk) (y : Record) (l : s.left ≡ 0) (v : Row → Verdict) (right : (r : Row) → Judges (v r) (fits r s y)) where
  finds_choose : (u : Verdict) (t : Bool) (j n : ℕ) (q : Taken) → Judges u t → Finds q n → Finds (choose u (by j) q) (cond t j n)
  unfolding choose
  finds_choose yes t j n q h g = rw h refl
  finds_choose no t j n q h g = rw h g
  finds_choose unsure t j n q h g = tt

  asked-next : (r : Row) → asked r s ≡ r.otherwise
  unfolding asked
  asked-next r = ap (λ n. cond (eqb n 0) r.otherwise 0) l

  pub finds : (g k : ℕ) → Finds (seek g s.back s.last v k) (found table g s k y)
  unfolding seek found resolved meant
  finds zero k = tt
  finds (suc g) k = let r : Row = row (resolved s k) in rw (row_is (resolved s k)) (finds_choose (v r) (fits r s y) (resolved s k) _ _ (right r) (rw (asked-next r) (finds g r.otherwise)))

---------------------------------------------------------------- behind the record

-- the place in the list, where the record tells it
unfoldable pub told_val : Scope → Sort → Val
told_val Γ (value a n m) = any
told_val Γ placed = Γ.here
told_val Γ (stretch a n) = any
told_val Γ (letters a n) = any

-- behind a record of no text
unfoldable pub behind : Scope → Sort → ℕ → ℕ → Val → Val → Val → Row → State
behind Γ z b l e c p r =
    stands r.next (or_kept r.back b) (or_kept r.last l) (cond (eqb r.kind index) Γ.own (kept_val r.kind e)) (cond (eqb r.kind clearance) (told_val Γ z) c)
    (cond (eqb r.kind place) (told_val Γ z) (cond (eqb r.kind clearance) nil p))

-- behind the record that this row took
unfoldable pub land : Scope → Sort → ℕ → ℕ → Val → Val → Val → Taken → State
land Γ z b l e c p nowhere = lost
land Γ z b l e c p (by j) = let r : Row = row j in cond (eqb r.kind text) lost (behind Γ z b l e c p r)

-- behind one record with this tag, of this sort
unfoldable pub step : Scope → ℕ → Sort → State → State
step Γ t z lost = lost
step Γ t z (stands a b l e c p) = land Γ z b l e c p (seek 64 b l (λ r. verdict e c p Γ t z r) a)

module _ (ρ : ℕ → ℕ) (Γ : Scope) (x : Ctx) (k : Known ρ Γ x) (y : Record) (z : Sort) (f : y.element ≡ x.0) (h : Of z x y) where
  told_means : (z : Sort) → Of z x y → Means ρ (told_val Γ z) y.value
  unfolding told_val
  told_means (value a n m) g = tt
  told_means placed g = rw g.0 k.2
  told_means (stretch a n) g = tt
  told_means (letters a n) g = tt

  behind_covers : (s : Walk) (a b l : ℕ) (e c p : Val) → Covers ρ (stands a b l e c p) s → (j : ℕ) → eqb (row j).kind text ≡ false → Covers ρ (behind Γ z b l e c p (row j)) (onward j (row j) s y)
  unfolding behind onward left_behind row_behind element_behind clearance_behind place_behind
  behind_covers s a b l e c p g j q = (
    rw q refl,
    rw g.1 refl,
    rw g.2 refl,
    means_cond ρ (eqb (row j).kind index) _ _ _ _ (rw f k.1) (kept_means ρ Γ x k (row j) y (row j).kind e _ g.3),
    means_cond ρ (eqb (row j).kind clearance) _ _ _ _ (told_means z h) g.4,
    means_cond ρ (eqb (row j).kind place) _ _ _ _ (told_means z h) (means_cond ρ (eqb (row j).kind clearance) nil _ 0 _ (omega (arith, k.0)) g.5),
    rw q refl,
  )

  pub step_covers : (t : ℕ) → y.tag ≡ t → (s : Walk) (σ : State) → Covers ρ σ s → Covers ρ (step Γ t z σ) (stepped table s y)
  unfolding step stepped land
  step_covers t i s lost g = tt
  step_covers t i s (stands a b l e c p) g = go (seek 64 b l _ a) (rw (← g.0, ← g.1, ← g.2) (finds s y g.6 (λ r. verdict e c p Γ t z r) (λ r. judges_row ρ Γ x k r y s e c p g.3 g.4 g.5 g.6 t z i f h) 64 s.at))
    where
      go : (w : Taken) → Finds w (found table 64 s s.at y) → Covers ρ (land Γ z b l e c p w) (onward (found table 64 s s.at y) (row_at table (found table 64 s s.at y)) s y)
      go nowhere q = tt
      go (by j) q = rw (q, row_is j) (there (eqb (row j).kind text) refl)
        where
          there : (u : Bool) → eqb (row j).kind text ≡ u → Covers ρ (cond u lost (behind Γ z b l e c p (row j))) (onward j (row j) s y)
          there true d = tt
          there false d = behind_covers s a b l e c p g j d
