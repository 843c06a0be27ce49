-- A number with its point left out.
use Rattle.std.specs.Prelude.{cond, List, [], ◌∷◌, ℕ, eqb}

abbrev pub point : ℕ
point = 46

unfoldable pub unpointed : List ℕ → List ℕ
unpointed [] = []
unpointed (c ∷ t) = cond (eqb c point) (unpointed t) (c ∷ unpointed t)
