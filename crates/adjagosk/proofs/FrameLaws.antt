-- An answer of the writer put into numbers.
use mathlib.Core.Path.{◌≡◌, ap, ◌∙◌}
use mathlib.Core.List.{List}
use Prim.Native.Nat.{ℕ}
use Rattle.record_lists.specs.Message as message
use Rattle.std.specs.Prelude.{Result}
use Rattle.fixture_writer.specs.declared.Refusal.{Refusal}
use Rattle.fixture_writer.specs.Says.{Says, answer_of}
use Rattle.adjagosk.specs.declared.writing.Frame.{Frame}
use Rattle.adjagosk.specs.Frames.{frame_of, FillsFrame}

pub fills : (a : Result ℕ Refusal) {b : List ℕ} {o : message.Written × List ℕ} {r : Frame} → Says a b o → r ≡ frame_of (answer_of a) → FillsFrame r b o
fills a h e = record { is = e ∙ ap (λ (x : message.Written × List ℕ). frame_of x.0) h; bytes = ap (λ (x : message.Written × List ℕ). x.1) h }
