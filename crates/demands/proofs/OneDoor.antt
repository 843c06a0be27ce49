-- Context Management by one entry: its answers are those of the two messages, each read by itself, and another direction is refused in its place.
use mathlib.Core.Path.{◌≡◌, refl}
use mathlib.Core.Bool.{Bool, true, false}
use mathlib.Core.List.{List, [], ◌∷◌}
use Prim.Native.Nat.{ℕ}
use Rattle.atn.specs.Entries.{Reply, read_frame, Outcome, refused, frame_fits, direction_fits, test, decide, enter, cm_of, parse_cm}

-- a test that holds, behind another
behind : (b : Bool) (n m : ℕ) (r : Reply) (w : List ℕ) → decide (test b n ∷ test true m ∷ []) r w ≡ decide (test b n ∷ []) r w
unfolding decide
behind true n m r w = refl
behind false n m r w = refl

module _ (s : List ℕ) (d : ℕ) (w : List ℕ) where
  pub as_before : direction_fits d ≡ true → parse_cm s d w ≡ enter [] (λ f. read_frame (cm_of d) f) s w
  unfolding parse_cm enter
  as_before h = rw h (behind (frame_fits s) 1 3 (read_frame (cm_of d) s) w)

  pub another_direction : frame_fits s ≡ true → direction_fits d ≡ false → ◌≡◌ {A = Outcome} (parse_cm s d w) (refused 3 0 0 0, w)
  unfolding parse_cm enter decide
  another_direction l h = rw (l, h)

  pub length-first : frame_fits s ≡ false → ◌≡◌ {A = Outcome} (parse_cm s d w) (refused 1 0 0 0, w)
  unfolding parse_cm enter decide
  length-first l = rw l
