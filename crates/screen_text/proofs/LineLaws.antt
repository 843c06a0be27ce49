-- What a record adds.
use mathlib.Core.Bool.{Bool, true, false, cond}
use mathlib.Core.List.{List, [], ◌∷◌}
use mathlib.Core.Path.{◌≡◌}
use Prim.Native.Nat.{ℕ, ◌+◌, ◌-◌, ◌*◌, ◌^◌, ◌≤◌, ◌<◌}
use native.Mathlib.Omega.{arith}
use borrow.Author.Tests.{eq-eqb, ne_eqb}
use lib.Dec.{eqb}
use lib.ListN.{length}
use Rattle.atn.specs.Reading.{Rec}
use Rattle.record_views.specs.declared.Record.{Record}
use Rattle.phrases.specs.Phrases.{line_of}
use Rattle.screen_bytes.specs.Put.{Put}
use Rattle.screen_bytes.proofs.Putting.{put-none, put_then, put-within}
use Rattle.element_kinds.specs.Kinds.{kind_of}
use Rattle.screen_elements.specs.Lines.{element_line}
use Rattle.screen_text.specs.Text.{index_line, left_after, record_line, most, cost}

-- the line and its line feed
pub put-line : {w w₁ w₂ : List ℕ} {at m n kind : ℕ} (phrase table : List ℕ) (index : ℕ) (R : List Rec) → length phrase < 2 ^ 44 → line_of table index ≡ phrase → kind ≡ kind_of R → Put (length phrase + 1024) w w₁ at m (element_line phrase kind R) → Put 1 w₁ w₂ m n (10 ∷ []) → Put most w w₂ at n (index_line table index R)
unfolding index_line
put-line phrase table index R h el ek p q = rw (el, ← ek) (put-within most (omega arith) (put_then p q))

pub left_less : (n : ℕ) (x : Record) → left_after n x ≤ n
unfolding left_after
left_less n x = go (eqb x.tag 22)
  where
    go : (b : Bool) → cond b (n - 1) n ≤ n
    go true = omega arith
    go false = omega arith

module _ (w : List ℕ) (at n : ℕ) (table : List ℕ) (x : Record) (R : List Rec) where
  -- no element begins
  pub puts-nothing : (x.tag ≡ 22 → ⊥) → Put (cost n x) w w at at (record_line n table x R)
  unfolding record_line
  puts-nothing h = rw (ne_eqb x.tag 22 h) (put-within (cost n x) (omega arith) put-none)

  -- none may come any more
  pub puts_no_more : n ≡ 0 → Put (cost n x) w w at at (record_line n table x R)
  unfolding record_line
  puts_no_more h = go (eqb x.tag 22)
    where
      go : (b : Bool) → Put (cost n x) w w at at (cond b (cond (eqb n 0) [] (index_line table x.value R)) [])
      go true = rw (eq-eqb n 0 h) (put-within (cost n x) (omega arith) put-none)
      go false = put-within (cost n x) (omega arith) put-none

  -- one begins
  pub puts-index : {w' : List ℕ} {m : ℕ} → x.tag ≡ 22 → (n ≡ 0 → ⊥) → Put most w w' at m (index_line table x.value R) → Put (cost n x) w w' at m (record_line n table x R)
  unfolding record_line cost left_after
  puts-index h g p = rw (eq-eqb x.tag 22 h, ne_eqb n 0 g) (put-within ((n - (n - 1)) * most) (omega (arith, g)) p)
