-- The entries by name: what each gives, what it tests behind the frame's length, and its reading.
use Rattle.std.specs.Prelude.{List, [], ℕ}
use Rattle.atn.specs.Messages.{aircraft_pdus, ground_pdus, acse}
use Rattle.atn.specs.Entries.{Reply, or_else, read_frame, Outcome, Test, pdus, pdus_tests, apdu_tests, cm_of, cm_tests, parse_pdus, parse_apdu, parse_cm, parse_acse_apdu}
use Rattle.list_checker.specs.declared.entries.Entry.{Entry}
use Rattle.list_checker.specs.declared.entries.Entry.TheVariants.{Apdu, Pdus, Cm, Acse}

-- entry, tables, frame, lent words
unfoldable pub entered : Entry → List ℕ → List ℕ → List ℕ → List ℕ → Outcome
entered Apdu down up s w = parse_apdu s down up w
entered (Pdus d) down up s w = parse_pdus s d down up w
entered (Cm d) down up s w = parse_cm s d w
entered Acse down up s w = parse_acse_apdu s w

unfoldable pub tests_of : Entry → List ℕ → List ℕ → List Test
tests_of Apdu down up = apdu_tests down up
tests_of (Pdus d) down up = pdus_tests d down up
tests_of (Cm d) down up = cm_tests d
tests_of Acse down up = []

unfoldable pub reading_of : Entry → List ℕ → List ℕ → List ℕ → Reply
reading_of Apdu down up s = or_else (read_frame (aircraft_pdus down) s) (read_frame (ground_pdus down up) s)
reading_of (Pdus d) down up s = read_frame (pdus d down up) s
reading_of (Cm d) down up s = read_frame (cm_of d) s
reading_of Acse down up s = read_frame acse s
