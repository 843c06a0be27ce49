-- The tests before the reading.
use mathlib.Core.Path.{◌≡◌, ◌∙◌}
use mathlib.Core.List.{List}
use Prim.Native.Nat.{ℕ, ◌≤◌, ◌<◌}
use lib.ListN.{length}
use lib.Dec.{eqb}
use borrow.Author.Tests.{le-leb, lt-leb}
use Rattle.atn.specs.Entries.{read_frame, Outcome, refused, settle, direction_fits, decide, cm_tests, parse_cm}
use Rattle.answers.proofs.Entering.{enter-long, enter_tests}
use Rattle.cm_pdus.specs.Pdus.{pdu_of}
use Rattle.cm_pdus.proofs.Sides.{by-direction}

module _ (s : List ℕ) (d : ℕ) (w : List ℕ) where
  pub cm-long : 65536 < length s → ◌≡◌ {A = Outcome} (refused 1 0 0 0, w) (parse_cm s d w)
  unfolding parse_cm
  cm-long h = enter-long (cm_tests d) _ s w h

  pub cm-direction : length s ≤ 65536 → 1 < d → ◌≡◌ {A = Outcome} (refused 3 0 0 0, w) (parse_cm s d w)
  unfolding parse_cm decide direction_fits
  cm-direction h l = enter_tests (cm_tests d) _ s w h (rw (lt-leb d 1 l))

  pub cm_reads : {o : Outcome} → length s ≤ 65536 → d ≤ 1 → o ≡ settle (read_frame (pdu_of (eqb d 1)) s) w → o ≡ parse_cm s d w
  unfolding parse_cm decide direction_fits
  cm_reads h l e = enter_tests (cm_tests d) _ s w h (e ∙ rw (by-direction d l, le-leb d 1 l))
