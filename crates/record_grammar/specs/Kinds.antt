-- The kinds of rows: what the value and the second number of a record may be. Two numbers say of which range, or how much.
use Rattle.std.specs.Prelude.{◌≡◌, ◌≤◌, ℕ, Option, MatchOption}
use Rattle.record_grammar.specs.declared.Kind.{Kind}
use Rattle.record_grammar.specs.declared.Kind.TheVariants.{Number, Reason, Release, Text, Span, Index, Clearance, Place, Channel, Digits, Spaced, Note}

-- a number of a range; second number 0
abbrev pub number : ℕ
number = 0

-- the same, or "(extended)": value 0 and second number 1
abbrev pub reason : ℕ
reason = 1

-- the same, or "absent": value 0 and second number 2
abbrev pub release : ℕ
release = 2

-- a text whose length is of a range: a record for each eight characters
abbrev pub text : ℕ
text = 3

-- a span whose bits are of a range: it ends within the longest frame
abbrev pub span : ℕ
span = 4

-- a number of a range, and the next element begins: at most 8
abbrev pub index : ℕ
index = 5

-- the next clearance, at most so many
abbrev pub clearance : ℕ
clearance = 6

-- the next place in a list, at most so many
abbrev pub place : ℕ
place = 7

-- characters of a satellite channel as the source has them, so many in this record
abbrev pub channel : ℕ
channel = 8

-- the same where none of it, nor of the record before, is above 10
abbrev pub digits : ℕ
digits = 9

-- the same as X.680 has them, of the record before the last
abbrev pub spaced : ℕ
spaced = 10

-- these two numbers
abbrev pub note : ℕ
note = 11

---------------------------------------------------------------- the same as variants

abbrev pub number_of : Kind → ℕ
number_of Number = number
number_of Reason = reason
number_of Release = release
number_of Text = text
number_of Span = span
number_of Index = index
number_of Clearance = clearance
number_of Place = place
number_of Channel = channel
number_of Digits = digits
number_of Spaced = spaced
number_of Note = note

-- a number of the table and its kind; from 12 on there is none
abbrev pub Numbered : ℕ → Option Kind → Type 0
Numbered n o = MatchOption o (12 ≤ n) (λ k. n ≡ number_of k)
