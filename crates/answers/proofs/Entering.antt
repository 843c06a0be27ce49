-- The test that every entry makes first, and what is decided behind it.
use mathlib.Core.Path.{◌≡◌, ◌∙◌}
use mathlib.Core.List.{List, []}
use Prim.Native.Nat.{ℕ, ◌≤◌, ◌<◌}
use lib.ListN.{length}
use borrow.Author.Tests.{le-leb, lt-leb}
use Rattle.atn.specs.Entries.{Reply, Outcome, refused, Test, frame_fits, decide, enter, settle}

pub enter-long : (ts : List Test) (f : List ℕ → Reply) (s w : List ℕ) → 65536 < length s → ◌≡◌ {A = Outcome} (refused 1 0 0 0, w) (enter ts f s w)
unfolding enter decide frame_fits
enter-long ts f s w h = rw (lt-leb (length s) 65536 h)

pub enter_tests : (ts : List Test) (f : List ℕ → Reply) (s w : List ℕ) {o : Outcome} → length s ≤ 65536 → o ≡ decide ts (f s) w → o ≡ enter ts f s w
unfolding enter decide frame_fits
enter_tests ts f s w h e = e ∙ rw (le-leb (length s) 65536 h)

-- an entry that asks for nothing else
pub enter_reads : (f : List ℕ → Reply) (s w : List ℕ) {r : Reply} {o : Outcome} → length s ≤ 65536 → f s ≡ r → o ≡ settle r w → o ≡ enter [] f s w
unfolding decide
enter_reads f s w h q e = enter_tests [] f s w h (rw q e)
