use Rattle.std.proofs.Common.{refl, sym, ◌∙◌}
use Rattle.atn.specs.Entries.{read_frame}
use Rattle.schema_tables.specs.Nodes.{meaning}
use Rattle.schema_reader.proofs.ReaderLaws.{frame-long, some_number, table-refused, table_ready, table_reads, said-length}
use Rattle.schema_reader.proofs.parse_by_table.Goals as goal

pub returns-then-frame-gt-LONGEST_FRAME : goal.returns-then-frame-gt-LONGEST_FRAME
returns-then-frame-gt-LONGEST_FRAME c = record { is = rw c.refused.ensures (frame-long c.args.frame.now c.args.nodes.now c.args.words.now c.if-frame-gt-LONGEST_FRAME.true) }

pub returns-in-Err : goal.returns-in-Err
returns-in-Err c = record { is = rw c.refused-in-Err.ensures (table-refused c.args.frame.now c.args.nodes.now c.args.words.now c.if-frame-gt-LONGEST_FRAME.false (c.number.ensures ∙ c.in-Err.ensures) (λ z. some_number c.in-Err.refusal (sym c.number.ensures ∙ z))) }

pub answer-requires : goal.answer-requires
answer-requires c = (c.if-frame-gt-LONGEST_FRAME.false, table_ready c.args.frame.now c.args.nodes.now c.args.words.now c.in_default.ensures refl)

pub shape_of-words : goal.shape_of-words
shape_of-words c = said-length (read_frame (meaning c.args.nodes.now) c.args.frame.now) c.args.words.now c.answer.ensures

pub returns : goal.returns
returns c = record { is = table_reads c.args.frame.now c.args.nodes.now c.args.words.now c.if-frame-gt-LONGEST_FRAME.false c.in_default.ensures refl c.answer.ensures.is }
