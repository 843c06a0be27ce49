-- A shift: what a station has counted, and the calls of the stations that share one book.
use Rattle.std.specs.Prelude.{◌≡◌, ℕ, ◌+◌, ◌%◌, ◌^◌, Bool, true, false, cond, List, [], ◌∷◌, length, ◌==◌}
use Rattle.station.specs.declared.Offered.{Offered}
use Rattle.station.specs.declared.Offered.TheVariants.{Bound, Repeated, Refused}
use Rattle.station.specs.declared.Shift.{Shift}
use Rattle.station.specs.declared.Outcome.{Outcome}
use Rattle.station.specs.Offers.{Call, offer}

abbrev pub none_yet : Shift
none_yet = record { offered = 0; bound = 0; repeated = 0; refused = 0 }

-- one more, in 64 bits
abbrev pub next : ℕ → ℕ
next n = (n + 1) % 2 ^ 64

abbrev pub is_bound : Offered → Bool
is_bound Bound = true
is_bound (Repeated k) = false
is_bound (Refused n p k) = false

abbrev pub is_repeated : Offered → Bool
is_repeated Bound = false
is_repeated (Repeated k) = true
is_repeated (Refused n p k) = false

-- "the turned away"
abbrev pub is_refused : Offered → Bool
is_refused Bound = false
is_refused (Repeated k) = false
is_refused (Refused n p k) = true

-- an answer is counted with those offered, and with those of its kind
abbrev pub counted : Shift → Offered → Shift
counted s a = record { offered = next s.offered; bound = cond (is_bound a) (next s.bound) s.bound; repeated = cond (is_repeated a) (next s.repeated) s.repeated; refused = cond (is_refused a) (next s.refused) s.refused }

-- a call in a shift: its answer, the shift that has counted it, and what the book holds afterwards
unfoldable pub offer_counted : Shift → Call → List ℕ → Outcome × List ℕ
unfolding offer
offer_counted s c w = (record { answer = (offer c w).0; shift = counted s (offer c w).0 }, (offer c w).1)

-- a call, and the station that makes it
pub record Turn : Type 0 where
  pub station : ℕ
  pub made : Call

-- the shifts of the stations, and their book
pub record Day : Type 0 where
  pub shift : ℕ → Shift
  pub book : List ℕ

-- the stations begin their shifts, with any book
abbrev pub begun : List ℕ → Day
begun w = record { shift = λ p. none_yet; book = w }

-- a station makes a call in its shift, and goes on with the shift that it is given
unfoldable pub after : Day → Turn → Day
unfolding offer_counted
after d t =
    let o = offer_counted (d.shift t.station) t.made d.book in
    record { shift = λ p. cond (t.station == p) o.0.shift (d.shift p); book = o.1 }

-- "Two stations share one book": after their calls, in the order in which they are made
unfoldable pub worked : Day → List Turn → Day
worked d [] = d
worked d (t ∷ ts) = worked (after d t) ts

-- the book alone
unfoldable pub run : List ℕ → List Turn → List ℕ
run w [] = w
run w (t ∷ ts) = run (offer t.made w).1 ts

-- the calls of one station
unfoldable pub calls_of : ℕ → List Turn → List Call
calls_of p [] = []
calls_of p (t ∷ ts) = cond (t.station == p) (t.made ∷ calls_of p ts) (calls_of p ts)

-- the answers to them
unfoldable pub answers_of : ℕ → List ℕ → List Turn → List Offered
answers_of p w [] = []
answers_of p w (t ∷ ts) = cond (t.station == p) ((offer t.made w).0 ∷ answers_of p (offer t.made w).1 ts) (answers_of p (offer t.made w).1 ts)

-- "each counted from the calls made": the answers are counted one behind the other
unfoldable pub counting : Shift → List Offered → Shift
counting s [] = s
counting s (a ∷ A) = counting (counted s a) A

-- how many answers are of a kind
unfoldable pub times : (Offered → Bool) → List Offered → ℕ
times fits [] = 0
times fits (a ∷ A) = cond (fits a) 1 0 + times fits A

-- "At shift's end the captures offered equal the bound, the repeated and the turned away, each counted from the calls made": the shift of one station, its calls and the answers to them
pub record Balanced (s : Shift) (calls : List Call) (A : List Offered) : Type 0 where
  pub offered : s.offered ≡ length calls
  pub bound : s.bound ≡ times is_bound A
  pub repeated : s.repeated ≡ times is_repeated A
  pub refused : s.refused ≡ times is_refused A
  pub sum : s.offered ≡ s.bound + s.repeated + s.refused
