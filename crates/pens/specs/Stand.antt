-- Where the writer stands, in the list and in the bits, and whether the list is refused. Behind a refusal the places say nothing.
use Rattle.std.specs.Prelude.{Bool, true, false, ℕ, Result, Ok, Err}
use Rattle.pens.specs.declared.Pen.{Pen}
use Rattle.pens.specs.declared.Refused.{Refused}

pub record Stand : Type 0 where
  pub next : ℕ
  pub at : ℕ
  pub off : Bool

-- with a pen
abbrev pub before : Pen → Stand
before p = record { next = p.next; at = p.at; off = false }

-- behind a refusal
abbrev pub refused : Stand
refused = record { next = 0; at = 0; off = true }

-- behind a step
abbrev pub after : Result Pen Refused → Stand
after (Ok p) = before p
after (Err _) = refused
