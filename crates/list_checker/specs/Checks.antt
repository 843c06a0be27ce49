-- The checker: "yes exactly if the list is the clean reading of that frame"; "refusals 1, 2 and 3 apply first; a frame that is not clean gets refusal 19".
use Rattle.std.specs.Prelude.{true, false, List, [], ◌∷◌, ℕ, zero, suc}
use Rattle.atn.specs.Entries.{Reply, accept, ran_out, badly, unsupplied, Test, test, frame_fits}
use Rattle.list_comparison.specs.declared.Checked.{Checked}
use Rattle.list_comparison.specs.declared.Checked.TheVariants.{Refused}
use Rattle.list_comparison.specs.Compared.{compared}
use Rattle.list_checker.specs.declared.entries.Entry.{Entry}
use Rattle.list_checker.specs.Entered.{tests_of, reading_of}

-- the list where the reading replied so
unfoldable pub held : Reply → List ℕ → Checked
held (accept false p zero R) l = compared 1 R l
held (accept false p (suc m) R) l = Refused 19
held (accept true p m R) l = Refused 19
held (ran_out p lacked) l = Refused 19
held (badly p) l = Refused 19
held (unsupplied p) l = Refused 19

-- the tests are made in their order
unfoldable pub checked : List Test → Reply → List ℕ → Checked
checked [] r l = held r l
checked (test true n ∷ ts) r l = checked ts r l
checked (test false n ∷ ts) r l = Refused n

-- frame, entry, tables: the frame's length is tested first
abbrev pub all_tests : List ℕ → Entry → List ℕ → List ℕ → List Test
all_tests s e down up = test (frame_fits s) 1 ∷ tests_of e down up

-- and list
unfoldable pub check_list : List ℕ → Entry → List ℕ → List ℕ → List ℕ → Checked
check_list s e down up l = checked (all_tests s e down up) (reading_of e down up s) l
