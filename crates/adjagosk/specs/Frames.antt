-- What the writer's function for other languages owes: the numbers of its answer, and the lent bytes of the definition.
use Rattle.std.specs.Prelude.{◌≡◌, List, ℕ}
use Rattle.record_lists.specs.Message.{Written, written, refused}
use Rattle.adjagosk.specs.declared.writing.Frame.{Frame}

unfoldable pub frame_of : Written → Frame
frame_of (written n) = record { refused = 0; bits = n; need = 0 }
frame_of (refused n k) = record { refused = n; bits = 0; need = k }

-- the numbers r and the bytes b are those of the outcome
pub record FillsFrame (r : Frame) (b : List ℕ) (o : Written × List ℕ) : Type 0 where
  pub is : r ≡ frame_of o.0
  pub bytes : b ≡ o.1
