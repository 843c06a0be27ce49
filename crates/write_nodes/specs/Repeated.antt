-- The members of a list that were written: how many, and where the writer stands behind them.
use Rattle.std.specs.Prelude.{ℕ, Result, Ok, Err}
use Rattle.pens.specs.declared.Refused.{Refused}
use Rattle.pens.specs.declared.Wrote.{Wrote}
use Rattle.pens.specs.Stand.{Stand, before, refused}

pub record Repeated : Type 0 where
  pub p : Stand
  pub count : ℕ

abbrev pub lost : Repeated
lost = record { p = refused; count = 0 }

abbrev pub repeated : Result (Wrote ℕ) Refused → Repeated
repeated (Ok w) = record { p = before w.pen; count = w.value }
repeated (Err _) = lost
