-- What stands before a table is read by: its kinds and its node numbers are in order.
use Rattle.std.specs.Prelude.{◌≡◌, true, List, ℕ}
use Rattle.schema_tables.specs.Tests.{kinds_fit, links_fit}

pub record Ready (N : List ℕ) : Type 0 where
  pub kinds : kinds_fit N ≡ true
  pub links : links_fit N ≡ true
