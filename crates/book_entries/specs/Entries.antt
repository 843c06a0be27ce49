-- An entry of the book, in its four words.
use Rattle.std.specs.Prelude.{Bool, ◌&&◌, List, [], ◌∷◌, ℕ, ◌+◌, ◌*◌, ◌/◌, ◌%◌, ◌^◌, ◌-◌, leb, ltb, eqb, get_or}
use Rattle.book_entries.specs.declared.Entry.{Entry}

-- the name's characters, the first one highest and zeros behind the last, and how many there are
abbrev pub text : Entry → ℕ
text e = e.high * 4294967296 + e.low

abbrev pub size : Entry → ℕ
size e = e.shape / 1048576

-- the frame's byte length: "The name book's stored length grows from four digits to five"
abbrev pub bytes : Entry → ℕ
bytes e = e.shape % 1048576

-- each of four characters is below 128
unfoldable pub plain : ℕ → Bool
plain x = ltb (x % 256) 128 && (ltb (x / 256 % 256) 128 && (ltb (x / 65536 % 256) 128 && ltb (x / 16777216) 128))

-- "its aircraft identifier": 2 to 8 characters below 128, and zeros behind them
unfoldable pub good : Entry → Bool
good e = leb 2 (size e) && (leb (size e) 8 && (plain e.high && (plain e.low && eqb (text e % 256 ^ (8 - size e)) 0)))

abbrev pub words : Entry → List ℕ
words e = e.high ∷ e.low ∷ e.number ∷ e.shape ∷ []

-- the entry at place i
abbrev pub entry_at : List ℕ → ℕ → Entry
entry_at w i = record { high = get_or w (i * 4) 0; low = get_or w (i * 4 + 1) 0; number = get_or w (i * 4 + 2) 0; shape = get_or w (i * 4 + 3) 0 }
