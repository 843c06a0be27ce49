-- What the places of a book hold: entries by rising frame number, each name once, and zeros behind them. The number of free places, which stands in front of them, is in crates/counted_books.
use Rattle.std.specs.Prelude.{Bool, true, false, cond, not, ◌&&◌, ◌||◌, List, [], ◌∷◌, ◌++◌, ℕ, suc, ◌*◌, ◌-◌, ltb, eqb, length, drop, replicate}
use Rattle.std.proofs.Math.Option.{Option, none, some}
use Rattle.book_entries.specs.declared.Entry.{Entry}
use Rattle.book_entries.specs.Entries.{text, size, good}

-- how many entries stand before the first that fits; all of them where none does
unfoldable pub place : (Entry → Bool) → List Entry → ℕ
place fits [] = 0
place fits (e ∷ E) = cond (fits e) 0 (suc (place fits E))

-- one of them fits
unfoldable pub holds : (Entry → Bool) → List Entry → Bool
holds fits [] = false
holds fits (e ∷ E) = fits e || holds fits E

abbrev pub named : ℕ → ℕ → Entry → Bool
named t s e = eqb (text e) t && eqb (size e) s

abbrev pub numbered : ℕ → Entry → Bool
numbered k e = eqb e.number k

-- the next entry, if there is one, has a higher number
abbrev pub before : Entry → List Entry → Bool
before e [] = true
before e (f ∷ E) = ltb e.number f.number

-- the entry is good, and those behind it have higher numbers and other names
unfoldable pub fair : Entry → List Entry → Bool
unfolding holds good
fair e E = good e && (before e E && not (holds (named (text e) (size e)) E))

unfoldable pub orderly : List Entry → Bool
unfolding fair
orderly [] = true
orderly (e ∷ E) = fair e E && orderly E

-- the entries as words
unfoldable pub picture : List Entry → List ℕ
picture [] = []
picture (e ∷ E) = e.high ∷ e.low ∷ e.number ∷ e.shape ∷ picture E

-- n words of places that hold the entries
unfoldable pub laid : ℕ → List Entry → List ℕ
unfolding picture
laid n E = picture E ++ replicate (n - length E * 4) 0

-- the places up to the first whose last word is 0
unfoldable pub entries : List ℕ → List Entry
entries [] = []
entries (a ∷ []) = []
entries (a ∷ b ∷ []) = []
entries (a ∷ b ∷ k ∷ []) = []
entries (a ∷ b ∷ k ∷ s ∷ w) = cond (eqb s 0) [] (record { high = a; low = b; number = k; shape = s } ∷ entries w)

unfoldable pub clear : List ℕ → Bool
clear [] = true
clear (a ∷ w) = eqb a 0 && clear w

-- the entries of places that the calls can leave
unfoldable pub listed : List ℕ → Option (List Entry)
unfolding entries orderly clear
listed w = cond (orderly (entries w) && clear (drop (length (entries w) * 4) w)) (some (entries w)) none
