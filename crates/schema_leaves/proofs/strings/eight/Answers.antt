use Rattle.std.proofs.Common.{refl, arith}
use Rattle.schema_leaves.proofs.LetterLaws.{spare_frame, spare_eight}
use Rattle.schema_leaves.proofs.strings.eight.Goals as goal

pub tell_text-requires : goal.tell_text-requires
tell_text-requires c = (omega arith, omega arith, spare_frame c.args.s.now c.args.at c.args.k c.requires.2 c.requires.3)

pub returns : goal.returns
returns c = spare_eight c.args.s.now c.args.at c.args.k c.requires.0 c.requires.1 refl c.tell_text.ensures
