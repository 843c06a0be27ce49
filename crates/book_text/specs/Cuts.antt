-- A text cut at its line feeds.
use Rattle.std.specs.Prelude.{cond, List, [], ◌∷◌, ◌++◌, ℕ, eqb, length}
use Rattle.std.proofs.Math.Option.{Option, none, some}
use Rattle.book_entries.specs.declared.Entry.{Entry}
use Rattle.book_lines.specs.Lines.{entry, also}
use Rattle.book_text.specs.declared.Lines.{Lines}

-- the lines of a text whose first line has begun with l, each as its entry; every line ends with a line feed
unfoldable pub cut : List ℕ → List ℕ → List (Option Entry)
cut l [] = cond (eqb (length l) 0) [] (none ∷ [])
cut l (c ∷ t) = cond (eqb c 10) (entry l ∷ cut [] t) (cut (l ++ c ∷ []) t)

-- the entries, if all lines are good
unfoldable pub collected : List (Option Entry) → Option (List Entry)
collected [] = some []
collected (o ∷ L) = also o (collected L)

-- what an iterator over the lines has left
abbrev pub left : Lines → List (Option Entry)
left s = cut [] s.text.now
