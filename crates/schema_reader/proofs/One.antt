-- The contract of `parse_by_table` determines answer and lent words.
use mathlib.Core.Path.{◌≡◌, sym}
use mathlib.Core.List.{List}
use Prim.Native.Nat.{ℕ}
use Rattle.answers.specs.declared.Answer.{Answer}
use Rattle.answers.specs.Says.{Says}
use Rattle.schema_tables.specs.Entry.{parse_by_table}
use Rattle.demands.proofs.Kept.{says_is}

-- any two answers that the contract allows are equal, and so are the words
pub table-one : (s N w : List ℕ) {r q : Answer} {w₁ w₂ : List ℕ} → Says r w₁ (parse_by_table s N w) → Says q w₂ (parse_by_table s N w) → (r ≡ q) × (w₁ ≡ w₂)
table-one s N w {r} {q} x y = says_is {r = r} {q = q} x (sym y.is)
