use Rattle.std.proofs.Common.{arith, length}
use Rattle.screen_bytes.proofs.Putting.{put-none, put-within}
use Rattle.phrases.proofs.PhraseLaws.{line-of, line-none}
use Rattle.phrases.proofs.put_line.Goals as goal

pub put_text-requires : goal.put_text-requires
put_text-requires c = let h = line-of c.args.table.now c.args.index c.in-Some.phrase.now c.in-Some.ensures in (omega arith, omega (arith, h.1))

pub returns-in-Some : goal.returns-in-Some
returns-in-Some c = let h = line-of c.args.table.now c.args.index c.in-Some.phrase.now c.in-Some.ensures in rw h.0 at (put-within (length c.args.table.now) h.1 c.put_text.ensures)

pub returns-in-None : goal.returns-in-None
returns-in-None c = rw (line-none _ _ c.in-None.ensures) (put-within _ (omega arith) put-none)
