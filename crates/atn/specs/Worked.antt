-- The worked frames that document 01 marks P, in one table: what is asked, and what it writes.
use Rattle.std.specs.Prelude.{true, false, cond, List, [], ◌∷◌, ◌++◌, ℕ, ◌-◌, ◌/◌, ◌%◌, length, take, replicate, eqb}
use Rattle.atn.specs.Schema.{minus}
use Rattle.atn.specs.Entries.{Answer, accepted, refused, Outcome, parse_pdus, parse_apdu, parse_cm, parse_acse_apdu}
use Rattle.atn.specs.Tags as tag

pub data Entry : Type 0 where
  downlink uplink apdu cm-ground cm-logon acse-apdu : Entry

-- what is asked of the definitions, and of the code
pub data Question : Type 0 where
  -- how many bits a number within lo..hi has
  range : ℕ → ℕ → Question
  -- the number within lo..hi that is read from a raw one, and the marks
  field : ℕ → ℕ → ℕ → Question
  -- the count within lo..hi that is read from a raw one, and the marks
  count_of : ℕ → ℕ → ℕ → Question
  -- the length that these bytes spell, and the marks
  length_of : List ℕ → Question
  -- the normally small number in so many octets behind a set choice extension, which is mark 2, and the marks
  small_octets : List ℕ → Question
  -- what an entry says of a frame
  frame : Entry → List ℕ → Question
  -- the numbers with a tag in the words that an entry filled, and the marks
  told : Entry → ℕ → List ℕ → Question
  -- how many records an entry says that there are
  records_of : Entry → List ℕ → Question
  -- what an entry says of a frame where it is lent no words
  without_words : Entry → List ℕ → Question
  -- what `parse_pdus` says of so many bytes 00, with so many entries in the tables, and a direction
  zeros : ℕ → ℕ → ℕ → ℕ → Question

-- what document 01 writes; a set of marks is the sum of 2^(mark - 1), so mark 1 is 1, mark 2 is 2, mark 3 is 4, mark 4 is 8 and mark 5 is 16
pub data Written : Type 0 where
  bits records : ℕ → Written
  -- number or amount, and marks
  is : ℕ → ℕ → Written
  bad : Written
  -- reach and marks
  whole cut : ℕ → ℕ → Written
  -- number and reach
  refuses : ℕ → ℕ → Written
  -- none of these
  other : Written

infix 70 ◌gives◌
pub data Row : Type 0 where
  ◌gives◌ : Question → Written → Row

abbrev pub asked : Row → Question
asked (q gives a) = q

abbrev pub written : Row → Written
written (q gives a) = a

abbrev pub wilco : List ℕ
wilco = 0x64 ∷ 0xD0 ∷ 0x30 ∷ 0xF2 ∷ 0xA8 ∷ 0x2B ∷ 0x42 ∷ 0x00 ∷ 0x00 ∷ 0x00 ∷ []

-- twelve, each under its words in document 01
unfoldable pub worked : List Row
worked =
    -- year 1996..2095 has 7 bits; raw 99 is 2095; raw 127 is 2123, mark 1
    range 1996 2095 gives bits 7
    ∷ field 1996 2095 99 gives is 2095 0
    ∷ field 1996 2095 127 gives is 2123 1
    -- 4..4 has none
    ∷ range 4 4 gives bits 0
    -- -60..7000 has 13; raw 7060 is 7000; raw 7061 marks
    ∷ range (minus 60) 7000 gives bits 13
    ∷ field (minus 60) 7000 7060 gives is 7000 0
    ∷ field (minus 60) 7000 7061 gives is 7001 1
    -- element count raw 4 is 5; raw 7 is 8, mark 1
    ∷ count_of 1 5 4 gives is 5 0
    ∷ count_of 1 5 7 gives is 8 1
    -- lengths 7F is 127; 80 80 is 128; 80 7F is 127, mark 5
    ∷ length_of (0x7F ∷ []) gives is 127 0
    ∷ length_of (0x80 ∷ 0x80 ∷ []) gives is 128 0
    ∷ length_of (0x80 ∷ 0x7F ∷ []) gives is 127 16
    -- C0 and C5 are bad; C1 00 is 16,384, mark 5
    ∷ length_of (0xC0 ∷ []) gives bad
    ∷ length_of (0xC5 ∷ []) gives bad
    ∷ length_of (0xC1 ∷ 0x00 ∷ []) gives is 16384 16
    -- nine normally small octets 01, seven of 00, 07 give 7
    ∷ small_octets (0x01 ∷ replicate 7 0x00 ++ 0x07 ∷ []) gives is 7 2
    -- empty frame, every entry: 4, reach 0
    ∷ frame downlink [] gives refuses 4 0
    ∷ frame uplink [] gives refuses 4 0
    ∷ frame apdu [] gives refuses 4 0
    ∷ frame cm-ground [] gives refuses 4 0
    ∷ frame cm-logon [] gives refuses 4 0
    ∷ frame acse-apdu [] gives refuses 4 0
    -- ACSE 80: whole, reach 1, mark 2; 00: reach 4, mark 3; 50: refused 5, reach 4
    ∷ frame acse-apdu (0x80 ∷ []) gives whole 1 2
    ∷ frame acse-apdu (0x00 ∷ []) gives whole 4 4
    ∷ frame acse-apdu (0x50 ∷ []) gives refuses 5 4
    -- CM logon 40: abort reason 0, reach 8, clean; 4A: reason 10, mark 1
    ∷ frame cm-logon (0x40 ∷ []) gives whole 8 0
    ∷ told cm-logon tag.cm_abort_reason (0x40 ∷ []) gives is 0 0
    ∷ told cm-logon tag.cm_abort_reason (0x4A ∷ []) gives is 10 1
    -- 52 read uplink: whole, reach 7; by `parse_apdu`: cut, reach 8
    ∷ frame uplink (0x52 ∷ []) gives whole 7 0
    ∷ frame apdu (0x52 ∷ []) gives cut 8 0
    -- the WILCO frame: reach 74, clean; its first nine bytes: cut, reach 67
    ∷ frame apdu wilco gives whole 74 0
    ∷ records_of apdu wilco gives records 11
    ∷ frame apdu (take 9 wilco) gives cut 67 0
    ∷ records_of apdu (take 9 wilco) gives records 11
    ∷ []

---------------------------------------------------------------- how a question is put

-- a raw number at the end of two bytes, and the place of its n bits
abbrev pub raw_bytes : ℕ → List ℕ
raw_bytes r = r / 256 ∷ r % 256 ∷ []

abbrev pub raw_place : ℕ → ℕ
raw_place n = 16 - n

-- the last bit of a byte, a length of one byte, and so many octets
abbrev pub small_bytes : List ℕ → List ℕ
small_bytes cs = 1 ∷ length cs ∷ cs

-- `apdu-lines` lends 128 downlink and 256 uplink entries, all 0
unfoldable pub down : List ℕ
down = replicate 128 0

unfoldable pub up : List ℕ
up = replicate 256 0

unfoldable pub lent : List ℕ
lent = replicate 64 0

unfoldable pub enters : Entry → List ℕ → List ℕ → Outcome
enters downlink s w = parse_pdus s 0 down up w
enters uplink s w = parse_pdus s 1 down up w
enters apdu s w = parse_apdu s down up w
enters cm-logon s w = parse_cm s 0 w
enters cm-ground s w = parse_cm s 1 w
enters acse-apdu s w = parse_acse_apdu s w

---------------------------------------------------------------- how an answer is written

-- the only one of a list
unfoldable pub only : List ℕ → ℕ → Written
only [] m = other
only (v ∷ []) m = is v m
only (v ∷ u ∷ vs) m = other

-- the values with a tag, of the records in words
unfoldable pub values_in : ℕ → List ℕ → List ℕ
values_in t [] = []
values_in t (u ∷ []) = []
values_in t (u ∷ n ∷ []) = []
values_in t (u ∷ n ∷ v ∷ []) = []
values_in t (u ∷ n ∷ v ∷ s ∷ []) = []
values_in t (u ∷ n ∷ v ∷ s ∷ q ∷ w) = cond (eqb t u) (v ∷ values_in t w) (values_in t w)

unfoldable pub of_answer : Answer → Written
of_answer (accepted false p m k) = whole p m
of_answer (accepted true p m k) = cut p m
of_answer (refused n p k l) = refuses n p

unfoldable pub told_in : ℕ → Answer → List ℕ → Written
told_in t (accepted c p m k) w = only (values_in t w) m
told_in t (refused n p k l) w = other

unfoldable pub counted : Answer → Written
counted (accepted c p m k) = records k
counted (refused n p k l) = other
