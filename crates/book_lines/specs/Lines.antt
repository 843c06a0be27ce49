-- "lines of upper-case hexadecimal, nothing between: name, frame number in eight digits, frame length in" five; "four-digit lines still load as the same names and are written back with five"
use Rattle.std.specs.Prelude.{cond, ◌&&◌, List, [], ◌∷◌, ◌++◌, ℕ, zero, suc, ◌+◌, ◌*◌, ◌/◌, ◌%◌, ◌-◌, ◌^◌, ◌<◌, leb, ltb, eqb, length, take, drop}
use Rattle.std.proofs.Math.Option.{Option, none, some}
use Rattle.book_entries.specs.declared.Entry.{Entry}
use Rattle.book_entries.specs.Entries.{text, size, bytes, good}

-- the character of a digit, `A` to `F` for 10 to 15
abbrev pub digit : ℕ → ℕ
digit d = cond (ltb d 10) (d + 48) (d + 55)

-- the last n digits of x
unfoldable pub digits : ℕ → ℕ → List ℕ
digits zero x = []
digits (suc n) x = digits n (x / 16) ++ digit (x % 16) ∷ []

-- the bytes v with l from byte `at` on
unfoldable pub put : ℕ → List ℕ → List ℕ → List ℕ
put at l v = take at v ++ l ++ drop (at + length l) v

-- two digits to a character
unfoldable pub line : Entry → List ℕ
line e = digits (size e * 2) (text e / 256 ^ (8 - size e)) ++ digits 8 e.number ++ digits 5 (bytes e) ++ 10 ∷ []

-- "saved by rising number": the entries are held so
unfoldable pub saved : List Entry → List ℕ
saved [] = []
saved (e ∷ E) = line e ++ saved E

-- what 32-bit words hold: each frame number has its eight digits
abbrev pub InWords : List Entry → Type 0
InWords [] = Unit {0}
InWords (e ∷ E) = (e.number < 4294967296) × InWords E

-- a digit's value; 16 for any other character
abbrev pub value : ℕ → ℕ
value c = cond (ltb c 48) 16 (cond (ltb c 58) (c - 48) (cond (ltb c 65) 16 (cond (ltb c 71) (c - 55) 16)))

-- the number that starts as x and goes on with the digits of a text
unfoldable pub onward : ℕ → List ℕ → Option ℕ
onward x [] = some x
onward x (c ∷ t) = cond (ltb (value c) 16) (onward (x * 16 + value c) t) none

-- the entry of a name of so many characters, a number and a length
abbrev pub entry_of : ℕ → ℕ → ℕ → ℕ → Entry
entry_of s x k b = record { high = x * 256 ^ (8 - s) / 4294967296; low = x * 256 ^ (8 - s) % 4294967296; number = k; shape = s * 1048576 + b }

unfoldable pub checked : Entry → Option Entry
checked e = cond (good e) (some e) none

-- a name in s characters, eight digits, and those of the length
unfoldable pub parts : ℕ → List ℕ → Option Entry
parts s l =
    elim (onward 0 (take (s * 2) l)) [
      | none ↦ none
      | some x ↦
          elim (onward 0 (take 8 (drop (s * 2) l))) [
            | none ↦ none
            | some k ↦
                elim (onward 0 (drop (s * 2 + 8) l)) [ none ↦ none | some b ↦ checked (entry_of s x k b) ]
          ]
    ]

-- the entry of a line, its line feed left out: 2 to 8 characters, and four digits of the length or five, of which the number of digits in all tells
unfoldable pub entry : List ℕ → Option Entry
entry l = cond (leb 16 (length l) && leb (length l) 29) (parts ((length l - 12) / 2) l) none

-- one entry and those behind it
unfoldable pub also : Option Entry → Option (List Entry) → Option (List Entry)
also none E = none
also (some e) none = none
also (some e) (some E) = some (e ∷ E)

-- the entries of a text whose first line has begun with l; every line ends with a line feed
unfoldable pub lines : List ℕ → List ℕ → Option (List Entry)
lines l [] = cond (eqb (length l) 0) (some []) none
lines l (c ∷ t) = cond (eqb c 10) (also (entry l) (lines [] t)) (lines (l ++ c ∷ []) t)
