-- A list held to the records of a reading: "the first record that differs, is missing, too many or incomplete".
use Rattle.std.specs.Prelude.{Bool, cond, ◌&&◌, List, [], ◌∷◌, ℕ, suc, ◌+◌, eqb, get_or}
use Rattle.atn.specs.Reading.{Rec, rec}
use Rattle.list_comparison.specs.declared.Checked.{Checked}
use Rattle.list_comparison.specs.declared.Checked.TheVariants.{Yes, Differs, Missing, TooMany, Incomplete}

-- the next record has the place i; what follows the reading's last record is too many, be it a whole record or not
unfoldable pub compared : ℕ → List Rec → List ℕ → Checked
compared i [] [] = Yes
compared i [] (a ∷ l) = TooMany i
compared i (r ∷ R) [] = Missing i
compared i (r ∷ R) (a ∷ []) = Incomplete i
compared i (r ∷ R) (a ∷ b ∷ []) = Incomplete i
compared i (r ∷ R) (a ∷ b ∷ c ∷ []) = Incomplete i
compared i (r ∷ R) (a ∷ b ∷ c ∷ d ∷ []) = Incomplete i
compared i (rec t e v n q ∷ R) (a ∷ b ∷ c ∷ d ∷ p ∷ l) = cond (eqb t a && (eqb e b && (eqb v c && (eqb n d && eqb q p)))) (compared (suc i) R l) (Differs i)

-- the five words from a place on are the same in both
unfoldable pub alike : List ℕ → List ℕ → ℕ → Bool
alike a b at =
    eqb (get_or a at 0) (get_or b at 0) && (eqb (get_or a (at + 1) 0) (get_or b (at + 1) 0) && (eqb (get_or a (at + 2) 0) (get_or b (at + 2) 0) && (eqb (get_or a (at + 3) 0) (get_or b (at + 3) 0) && eqb (get_or a (at + 4) 0) (get_or b (at + 4) 0))))
