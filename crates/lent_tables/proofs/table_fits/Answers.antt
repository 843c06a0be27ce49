use Rattle.lent_tables.proofs.TableLaws.{table_none, table-rest}
use Rattle.lent_tables.proofs.table_fits.Goals as goal

pub returns-then-table-lt1 : goal.returns-then-table-lt1
returns-then-table-lt1 c = table_none _ c.if-table-lt1.true

pub returns : goal.returns
returns c = table-rest _ c.if-table-lt1.false
