use mathlib.Core.Path.{sym}
use native.Mathlib.Omega.{arith}
use Rattle.phrases.proofs.PhraseLaws.{line-within}
use Rattle.screen_text.proofs.LineLaws.{put-line}
use Rattle.screen_text.proofs.put_line.Goals as goal

pub put_element_line-m-requires : goal.put_element_line-m-requires
put_element_line-m-requires c = rw c.line_of-phrase.ensures (omega arith, omega arith, omega (arith, line-within c.args.index c.args.table.now, c.requires.2))

pub put_byte-requires : goal.put_byte-requires
put_byte-requires c = omega (arith, rw c.line_of-phrase.ensures at c.put_element_line-m.ensures.few, line-within c.args.index c.args.table.now, c.requires.2, c.requires.1)

pub returns : goal.returns
returns c = put-line c.line_of-phrase.result.now c.args.table.now c.args.index _ (rw c.line_of-phrase.ensures (omega (arith, line-within c.args.index c.args.table.now, c.requires.2))) (sym c.line_of-phrase.ensures) c.kind_at-kind.ensures c.put_element_line-m.ensures c.put_byte.ensures
