-- One row, and one record, of a walk.
use mathlib.Core.Bool.{Bool, true, false, cond}
use mathlib.Core.List.{List}
use mathlib.Core.Path.{◌≡◌, ap, ◌∙◌}
use Prim.Native.Nat.{ℕ, zero, suc, ◌+◌, ◌-◌, ◌≤◌, ◌<◌}
use native.Mathlib.Numerals.{add-one}
use native.Mathlib.Omega.{arith}
use Rattle.atn.specs.Reading.{rec}
use Rattle.record_views.specs.View.{count, record_at, records_from, fetched}
use Rattle.record_views.specs.declared.Record.{Record}
use Rattle.record_views.proofs.ViewLaws.{from_here, from_end, record_past}
use Rattle.record_grammar.specs.declared.Row.{Row}
use Rattle.record_grammar.specs.declared.Walk.{Walk}
use Rattle.record_grammar.specs.Rows.{row_at, fits, resolved, asked, found, stepped}
use Rattle.record_grammar.specs.Heard.{start, walked}

-- the row is found, or the next is asked
module _ (N : List ℕ) (s : Walk) (x : Record) {j : ℕ} {r : Row} {b : Bool} where
  one-row : (g k : ℕ) → 0 < g → j ≡ resolved s k → r ≡ row_at N j → b ≡ fits r s x → found N g s k x ≡ cond b j (found N (g - 1) s (asked r s) x)
  unfolding found
  one-row zero k h ej er eb = elim h [ ]
  one-row (suc g) k h ej er eb = let e : suc g - 1 ≡ g = omega arith in rw (e, eb, er, ej)

  pub found_here : (g k : ℕ) → 0 < g → j ≡ resolved s k → r ≡ row_at N j → b ≡ fits r s x → b ≡ true → found N g s k x ≡ j
  found_here g k h ej er eb t = one-row g k h ej er eb ∙ ap (λ (y : Bool). cond y j (found N (g - 1) s (asked r s) x)) t

  pub found-later : (g k : ℕ) {k' : ℕ} → 0 < g → j ≡ resolved s k → r ≡ row_at N j → b ≡ fits r s x → b ≡ false → k' ≡ asked r s → found N g s k x ≡ found N (g - 1) s k' x
  found-later g k h ej er eb t ek = rw ek (one-row g k h ej er eb ∙ ap (λ (y : Bool). cond y j (found N (g - 1) s (asked r s) x)) t)

pub found_none : (N : List ℕ) (s : Walk) (x : Record) (g k : ℕ) → g ≡ 0 → found N g s k x ≡ 0
unfolding found
found_none N s x g k h = rw h

module _ (N w : List ℕ) (s : Walk) {s' : Walk} {x : Record} where
  -- a record
  pub walked_on : (i : ℕ) → i < count w → x ≡ fetched (record_at w i) → s' ≡ stepped N s x → walked N s (records_from i w) ≡ walked N s' (records_from (i + 1) w)
  unfolding walked
  walked_on i h ex es = rw (from_here w i h, es, ex, add-one)

  -- the end
  pub walked_all : (n : ℕ) → n ≡ count w → walked N start (records_from 0 w) ≡ walked N s (records_from n w) → x ≡ fetched (record_at w n) → s' ≡ stepped N s x → stepped N (walked N start (records_from 0 w)) (fetched (rec 0 0 0 0 0)) ≡ s'
  unfolding walked
  walked_all n e q ex es = let l : count w ≤ n = omega arith in rw (q, from_end w n l, es, ex, record_past w n l)
