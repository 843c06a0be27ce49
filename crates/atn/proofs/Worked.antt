-- The worked frames that document 01 marks P: the definitions give what it writes (specs/Worked.antt has the table). Behind them, frames for its rules that no theorem about all frames states. That the code's contracts allow nothing else is shown in crates/demands.
use mathlib.Core.Path.{◌≡◌, refl}
use mathlib.Core.Bool.{cond}
use mathlib.Core.List.{List, [], ◌∷◌, ◌++◌, map}
use Prim.Native.Nat.{ℕ, ◌-◌, ◌*◌}
use lib.ListN.{length, get_or, replicate}
use lib.Dec.{eqb}
use Rattle.x691.specs.Bits.{bit_of, uint, bits_of}
use Rattle.x691.specs.Types.{extent}
use Rattle.x691.specs.Encoding.{width_in, width, count, highest}
use Rattle.x691.specs.Range.{member}
use Rattle.atn.specs.Format.{Fmt, num, small, out, lack}
use Rattle.atn.specs.Format as format
use Rattle.atn.specs.Reading.{Rec, rec, Ans, ok, stop, mark, or, unless, over, word, octets, packs, pack, coded, spaced, none_above, spanned, glue, tardy, late, then, times, fork, guard, fetch, pull, sized, letters, units, short, long, fragment, lengths, length_then, flags, unread_mark, unread_marks, within, shut, close, kept, pass_over, softly, give_up, laxly, read}
use Rattle.atn.specs.Messages.{argument_of, elements, date_time_group, level_type, message_data}
use Rattle.atn.specs.Entries.{Reply, accept, ran_out, badly, unsupplied, stopped, reply, read_frame, after_out, after_bad, or_else, Answer, accepted, refused, flat, need, settle, decide, enter, frame_fits, table_fits, direction_fits, pdus, cm_of, parse_pdus, parse_apdu, parse_cm, parse_acse_apdu}
use Rattle.atn.specs.Worked.{Entry, downlink, apdu, cm-logon, acse-apdu, Question, range, field, count_of, length_of, small_octets, frame, told, records_of, without_words, zeros, Written, bits, is, bad, whole, cut, refuses, other, Row, ◌gives◌, written, worked, raw_bytes, raw_place, small_bytes, down, up, lent, enters, only, values_in, of_answer, told_in, counted}
use Rattle.atn.specs.Tags as tag

---------------------------------------------------------------- what the definitions say

values_of : ℕ → List Rec → List ℕ
values_of t [] = []
values_of t (rec u n v s q ∷ R) = cond (eqb t u) (v ∷ values_of t R) (values_of t R)

of_reply : (List Rec → ℕ → Written) → Reply → Written
of_reply h (accept c p m R) = h R m
of_reply h (ran_out p k) = other
of_reply h (badly p) = bad
of_reply h (unsupplied p) = other

-- what a reading told, where it is one number
pub one : Ans → Written
unfolding only values_of of_reply reply stopped
one a = of_reply (λ R m. only (values_of 0 R) m) (reply a)

-- wherever it started
pub one_told : (p v q m : ℕ) → one (ok p (rec 0 0 v 0 q ∷ []) m) ≡ is v m
unfolding one only values_of of_reply reply
one_told p v q m = refl

pub one_out : (k p m : ℕ) (R : List Rec) → one (stop (out k) p R m) ≡ other
unfolding one of_reply reply stopped
one_out k p m R = refl

pub one-bad : (p m : ℕ) (R : List Rec) → one (stop format.bad p R m) ≡ bad
unfolding one of_reply reply stopped
one-bad p m R = refl

pub one_lack : (p m : ℕ) (R : List Rec) → one (stop lack p R m) ≡ other
unfolding one of_reply reply stopped
one_lack p m R = refl

-- a number is told
abbrev pub alone : ℕ → ℕ → ℕ → Ans
alone n e p = ok p (rec 0 0 n 0 0 ∷ []) 0

-- a format reads a string of bits
read_bits : Fmt → List ℕ → Reply
unfolding reply stopped read then late glue tardy times fork guard fetch pull sized letters units short long fragment lengths length_then flags unread_mark unread_marks within close shut softly kept pass_over laxly give_up mark or unless over word octets packs pack coded spaced none_above spanned uint member width width_in extent highest count argument_of elements
read_bits f l = reply (read f (0, 0) (λ i. get_or l i 0) (length l) 0)

unfoldable pub given : Question → Written
unfolding width extent bit_of only values_in of_answer told_in counted read_bits lent one enters parse_pdus parse_apdu parse_cm parse_acse_apdu pdus cm_of enter decide frame_fits table_fits direction_fits settle need flat or_else after_bad after_out read_frame down up
given (range lo hi) = bits (width (extent lo hi))
given (field lo hi r) = one (read (num 0 lo hi) (0, 0) (bit_of (raw_bytes r)) 16 (raw_place (width (extent lo hi))))
given (count_of lo hi r) = one (sized (bit_of (raw_bytes r)) 16 (raw_place (width (hi - lo))) lo hi λ n p. alone n 16 p)
given (length_of s) = one (length_then (bit_of s) (length s * 8) 0 λ n p. alone n (length s * 8) p)
given (small_octets cs) = one (read (small 2 0) (0, 0) (bit_of (small_bytes cs)) (length (small_bytes cs) * 8) 7)
given (frame e s) = of_answer (enters e s lent).0
given (told e t s) = let o = enters e s lent in told_in t o.0 o.1
given (records_of e s) = counted (enters e s lent).0
given (without_words e s) = of_answer (enters e s []).0
given (zeros n a b d) = of_answer (parse_pdus (replicate n 0) d (replicate a 0) (replicate b 0) lent).0

abbrev pub defined : Row → Written
defined (q gives a) = given q

---------------------------------------------------------------- the tables

pub all-worked : map defined worked ≡ map written worked
unfolding worked given
all-worked = refl

---------------------------------------------------------------- rules of document 01 that no theorem about all frames states

-- an inner string of no bits, which ends before its message: presence bits, and the length 0
shut_in : List ℕ
shut_in = 0x64 ∷ 0x00 ∷ []

pub told-apart : List Row
told-apart =
    -- of the four errors that look right: calling the end of a window "ran out"
    frame downlink shut_in gives refuses 5 14
    -- refusing 7 before a later refusal 5 is known
    ∷ without_words downlink shut_in gives refuses 5 14
    -- `parse_apdu`: after a downlink 4 or 5 the marks are the uplink's alone; 5A is an extended response, and downlink has unread octets; 56 is response 3, and downlink has an extension bit
    ∷ frame apdu (0x5A ∷ []) gives cut 8 2
    ∷ frame apdu (0x56 ∷ []) gives whole 7 1
    ∷ []

pub all-told-apart : map defined told-apart ≡ map written told-apart
unfolding told-apart given shut_in
all-told-apart = refl

-- the numbers with a tag, and the marks, where a format reads these bits; and how many there are
number : Fmt → ℕ → List ℕ → Written
unfolding only values_of of_reply read_bits
number f t l = of_reply (λ R m. only (values_of t R) m) (read_bits f l)

amount : Fmt → ℕ → List ℕ → Written
unfolding values_of of_reply read_bits
amount f t l = of_reply (λ R m. is (length (values_of t R)) m) (read_bits f l)

-- fields where messages have them: what the formats give, and what document 01 writes
pub in_messages : List (Written × Written)
unfolding number amount bits_of
in_messages =
    -- a year, before month, day and time; clamping it is one of the four errors that look right
    (number date_time_group tag.year (bits_of 7 127 ++ replicate 26 0), is 2123 1)
    -- the first alternative of a level
    ∷ (number level_type tag.level_number (0 ∷ 0 ∷ bits_of 13 7061), is 7001 1)
    -- no clearances, then the count of elements, of a table with one entry: an index has no bits
    ∷ (amount (message_data (0 ∷ [])) tag.element_index (0 ∷ bits_of 3 7), is 8 1)
    -- another of the four, stopping after a departure clearance with unread parts: the walk goes on, mark 4. Two elements of a table: the clearance with both parts there and an airport for its position; and NULL
    ∷ (amount (message_data (16 ∷ 0 ∷ [])) tag.element_index (0 ∷ 0 ∷ 0 ∷ 1 ∷ 0 ∷ 1 ∷ 1 ∷ 0 ∷ 0 ∷ 0 ∷ replicate 14 0 ++ 0 ∷ 1 ∷ 0 ∷ replicate 28 0 ++ 1 ∷ []), is 2 8)
    ∷ []

pub all_in_messages : map (λ (r : Written × Written). r.0) in_messages ≡ map (λ (r : Written × Written). r.1) in_messages
unfolding in_messages
all_in_messages = refl

-- request b) of 02: the reach and the bits lacked, where a frame ran out
lacked_in : Answer → Written
lacked_in (accepted c p m k) = other
lacked_in (refused n p k l) = is p l

short-by : Entry → List ℕ → Written
unfolding width bit_of read_bits lent enters parse_pdus parse_apdu parse_cm parse_acse_apdu pdus cm_of enter decide frame_fits table_fits direction_fits settle need flat or_else after_bad after_out read_frame down up lacked_in
short-by e s = lacked_in (enters e s lent).0

pub ran_out_lem : List (Written × Written)
unfolding short-by
ran_out_lem =
    -- the first bit of a message
    (short-by acse-apdu [], is 0 1)
    ∷ (short-by apdu [], is 0 1)
    -- a length of one octet, of which its first bit and one more are there
    ∷ (short-by downlink (0x64 ∷ []), is 7 6)
    -- an inner string of 52 bits, of which two are there; by `parse_apdu` the downlink's number, since the uplink is badly formed
    ∷ (short-by downlink (0x64 ∷ 0xD0 ∷ []), is 14 50)
    ∷ (short-by apdu (0x64 ∷ 0xD0 ∷ []), is 14 50)
    -- six presence bits, one after another, of which five are there
    ∷ (short-by cm-logon (0x00 ∷ []), is 8 1)
    -- a character of seven bits, of which four are there
    ∷ (short-by cm-logon (0x00 ∷ 0x00 ∷ []), is 12 3)
    ∷ []

pub all_ran_out : map (λ (r : Written × Written). r.0) ran_out_lem ≡ map (λ (r : Written × Written). r.1) ran_out_lem
unfolding ran_out_lem
all_ran_out = refl

pub tested_first : List Row
tested_first =
    -- 1, 2, 3 are tested in that order
    zeros 65537 0 257 2 gives refuses 1 0
    ∷ zeros 1 0 256 2 gives refuses 2 0
    ∷ zeros 1 1 257 2 gives refuses 2 0
    ∷ zeros 1 1 256 2 gives refuses 3 0
    -- and at the limits the reading decides: abort reason 0
    ∷ zeros 65536 1 256 0 gives whole 8 0
    ∷ zeros 2 256 1 1 gives whole 9 0
    ∷ []

pub all_tested_first : map defined tested_first ≡ map written tested_first
unfolding tested_first given
all_tested_first = refl
