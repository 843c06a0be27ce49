-- A number and a line, as they were read.
use Rattle.std.specs.Prelude.{◌≡◌, List, ℕ, ◌^◌, ◌<◌, length, Option, Some, None, IfSome}
use Rattle.std.proofs.Math.Option as maybe
use Rattle.book_lines.specs.Lines.{onward}

-- an answer of the code as one of the definitions
abbrev pub found : {A : Type 0} → Option A → maybe.Option A
found (Some x) = maybe.some x
found None = maybe.none

pub record Number (text : List ℕ) (r : Option ℕ) : Type 0 where
  pub is : onward 0 text ≡ found r
  pub small : IfSome r (λ x. x < 16 ^ length text)
