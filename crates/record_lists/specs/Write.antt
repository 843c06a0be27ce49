-- The writer, over a format: from a list of records, and the bits that its spans point into, to the bits of a message.
use Rattle.std.specs.Prelude.{Bool, cond, List, [], ◌∷◌, ℕ}
use Rattle.std.proofs.Math.Option.{Option, none, some}
use Rattle.x691.specs.Types.{Value}
use Rattle.x691.specs.Encoding.{encode}
use Rattle.atn.specs.Format.{Fmt, type_of}
use Rattle.atn.specs.Reading.{Rec}
use Rattle.record_lists.specs.Items.{look, inside}
use Rattle.record_lists.specs.Parse.{Got, no, got, parse}

-- the whole list shows the value
unfoldable pub encoded : (f : Fmt) → Got (Value (type_of f)) → Option (List ℕ)
encoded f no = none
encoded f (got v []) = some (encode (type_of f) v)
encoded f (got v (i ∷ R)) = none

-- sp says which tags are those of spans; b are the bits that these point into, e of them
unfoldable pub write : (ℕ → Bool) → (f : Fmt) → (ℕ → ℕ) → ℕ → List Rec → Option (List ℕ)
write sp f b e R = cond (inside sp e R) (encoded f (parse f (0, 0) (look sp b R))) none
