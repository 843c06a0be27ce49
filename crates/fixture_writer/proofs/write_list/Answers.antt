use Rattle.std.proofs.Common.{arith}
use Rattle.message_nodes.specs.Table.{table}
use Rattle.fixture_writer.proofs.WriterLaws.{root_sure, root-part}
use Rattle.fixture_writer.proofs.write_list.Goals as goal

pub write_node-requires : goal.write_node-requires
unfolding table
write_node-requires c = (omega arith, root_sure c.args.kind c.args.direction _ _ _ c.root-k.ensures c.args.tables.down_few c.args.tables.up_few)

pub returns : goal.returns
unfolding table
returns c = λ f h. root-part c.args.kind c.args.direction _ _ _ f _ _ _ _ _ _ _ c.root-k.ensures h c.write_node.ensures
