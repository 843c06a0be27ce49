use mathlib.Core.Path.{sym, ◌∙◌}
use Rattle.lent_tables.proofs.TableLaws.{both_down, both_up}
use Rattle.lent_tables.proofs.tables_fit.Goals as goal

pub returns-then-table_fits : goal.returns-then-table_fits
returns-then-table_fits c = both_down (sym c.table_fits.ensures ∙ c.if-table_fits.true) c.table_fits-then-table_fits.ensures

pub returns : goal.returns
returns c = both_up _ (sym c.table_fits.ensures ∙ c.if-table_fits.false)
