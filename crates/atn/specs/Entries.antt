-- The four entries: the complete answer, and what the lent words hold afterwards, as functions of frame, tables, direction and words.
use Rattle.std.specs.Prelude.{Bool, true, false, cond, ◌&&◌, List, [], ◌∷◌, ◌++◌, ℕ, zero, suc, ◌+◌, ◌*◌, max, min, length, drop, leb}
use Rattle.x691.specs.Bits.{bit_of}
use Rattle.atn.specs.Format.{Fmt, Why, out, bad, lack, quit}
use Rattle.atn.specs.Reading.{Rec, rec, Ans, ok, past, stop, or, mark, read}
use Rattle.atn.specs.Messages.{aircraft_pdus, ground_pdus, cm_ground, cm_aircraft, acse}

---------------------------------------------------------------- what a reading says

-- accepted: whether cut, reach, marks, records; or refused: 4 ran out, with the bits taken and the bits lacked; 5 badly formed, 6 unsupplied, with the bits taken
pub data Reply : Type 0 where
  accept : Bool → ℕ → ℕ → List Rec → Reply
  ran_out : ℕ → ℕ → Reply
  badly unsupplied : ℕ → Reply

unfoldable pub stopped : Why → ℕ → List Rec → ℕ → Reply
stopped (out k) p R m = ran_out p k
stopped bad p R m = badly p
stopped lack p R m = unsupplied p
stopped (quit o j k) p R m = accept o p (or (mark k) m) R

unfoldable pub reply : Ans → Reply
reply (ok p R m) = accept false p m R
reply (past k p R m) = accept true p m R
reply (stop w p R m) = stopped w p R m

-- a frame by a format
unfoldable pub read_frame : Fmt → List ℕ → Reply
read_frame f s = reply (read f (0, 0) (bit_of s) (length s * 8) 0)

-- `parse_apdu`: the downlink reading, then the uplink one; after a downlink 4 or 5 the reach is the larger, the marks the uplink's alone;
-- the bits lacked are "the number from the reading that ran out, the smaller one if both did"
unfoldable pub after_out : ℕ → ℕ → Reply → Reply
after_out p k (accept c q m R) = accept true (max p q) m R
after_out p k (ran_out q l) = ran_out (max p q) (min k l)
after_out p k (badly q) = ran_out (max p q) k
after_out p k (unsupplied q) = ran_out (max p q) k

unfoldable pub after_bad : ℕ → Reply → Reply
after_bad p (accept c q m R) = accept c (max p q) m R
after_bad p (ran_out q l) = ran_out (max p q) l
after_bad p (badly q) = badly (max p q)
after_bad p (unsupplied q) = unsupplied (max p q)

unfoldable pub or_else : Reply → Reply → Reply
or_else (accept c p m R) u = accept c p m R
or_else (unsupplied p) u = unsupplied p
or_else (badly p) u = after_bad p u
or_else (ran_out p k) u = after_out p k u

---------------------------------------------------------------- what an entry returns

-- accepted: whether cut, reach, marks, number of records; refused: document 01's number, reach, words needed, bits lacked
pub data Answer : Type 0 where
  accepted : Bool → ℕ → ℕ → ℕ → Answer
  refused : ℕ → ℕ → ℕ → ℕ → Answer

-- the answer, and the lent words afterwards
abbrev pub Outcome : Type 0
Outcome = Answer × List ℕ

unfoldable pub flat : List Rec → List ℕ
flat [] = []
flat (rec t m v s q ∷ R) = t ∷ m ∷ v ∷ s ∷ q ∷ flat R

-- the words needed, five to a record
unfoldable pub need : List Rec → ℕ
need R = length R * 5

-- 7 where the records do not fit; records fill the front, words after them stay; a refusal leaves all
unfoldable pub settle : Reply → List ℕ → Outcome
settle (accept c p m R) w = cond (leb (need R) (length w)) (accepted c p m (length R), flat R ++ drop (need R) w) (refused 7 p (need R) 0, w)
settle (ran_out p k) w = (refused 4 p 0 k, w)
settle (badly p) w = (refused 5 p 0 0, w)
settle (unsupplied p) w = (refused 6 p 0 0, w)

---------------------------------------------------------------- what is tested before anything is read

unfoldable pub frame_fits : List ℕ → Bool
frame_fits s = leb (length s) 65536

unfoldable pub table_fits : List ℕ → Bool
table_fits t = leb 1 (length t) && leb (length t) 256

unfoldable pub direction_fits : ℕ → Bool
direction_fits d = leb d 1

-- a test, and the refusal where it fails
pub data Test : Type 0 where
  test : Bool → ℕ → Test

-- the tests are made in their order; the reading decides only where all hold
unfoldable pub decide : List Test → Reply → List ℕ → Outcome
decide [] r w = settle r w
decide (test true n ∷ ts) r w = decide ts r w
decide (test false n ∷ ts) r w = (refused n 0 0 0, w)

-- every entry first asks for the frame's length, then for what else it is given
unfoldable pub enter : List Test → (List ℕ → Reply) → List ℕ → List ℕ → Outcome
enter ts read s w = decide (test (frame_fits s) 1 ∷ ts) (read s) w

---------------------------------------------------------------- the entries: frame, direction, down table, up table, words

-- direction 0 is the downlink, 1 the uplink
unfoldable pub pdus : ℕ → List ℕ → List ℕ → Fmt
pdus zero down up = aircraft_pdus down
pdus (suc d) down up = ground_pdus down up

-- what the two CPDLC entries test, behind the frame's length
abbrev pub pdus_tests : ℕ → List ℕ → List ℕ → List Test
pdus_tests d down up = test (table_fits down && table_fits up) 2 ∷ test (direction_fits d) 3 ∷ []

abbrev pub apdu_tests : List ℕ → List ℕ → List Test
apdu_tests down up = test (table_fits down && table_fits up) 2 ∷ []

unfoldable pub parse_pdus : List ℕ → ℕ → List ℕ → List ℕ → List ℕ → Outcome
parse_pdus s d down up w = enter (pdus_tests d down up) (λ f. read_frame (pdus d down up) f) s w

unfoldable pub parse_apdu : List ℕ → List ℕ → List ℕ → List ℕ → Outcome
parse_apdu s down up w = enter (apdu_tests down up) (λ f. or_else (read_frame (aircraft_pdus down) f) (read_frame (ground_pdus down up) f)) s w

-- Context Management: direction 0 is the aircraft's message, 1 the ground's
unfoldable pub cm_of : ℕ → Fmt
cm_of zero = cm_aircraft
cm_of (suc d) = cm_ground

abbrev pub cm_tests : ℕ → List Test
cm_tests d = test (direction_fits d) 3 ∷ []

unfoldable pub parse_cm : List ℕ → ℕ → List ℕ → Outcome
parse_cm s d w = enter (cm_tests d) (λ f. read_frame (cm_of d) f) s w

unfoldable pub parse_acse_apdu : List ℕ → List ℕ → Outcome
parse_acse_apdu s w = enter [] (λ f. read_frame acse f) s w
