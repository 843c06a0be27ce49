use Rattle.std.proofs.Common.{arith, rules}
use Rattle.capped_records.proofs.PlaceLaws.{counted-top}
use Rattle.schema_leaves.proofs.LetterLaws.{upto_none, upto_more, upto_all}
use Rattle.schema_leaves.proofs.strings.tell_letters.Goals as goal

pub loop-i-init : goal.loop-i-init
loop-i-init c = (search rules, upto_none c.args.s.now c.args.tag c.args.start c.args.at c.args.len)

pub loop-i-preserved : goal.loop-i-preserved
loop-i-preserved c = (rw c.emit-m.ensures.count (counted-top _ 1), upto_more c.args.s.now c.args.tag c.args.start c.args.at c.args.len (search rules) c.loop-i-test.true (omega (arith, c.min.ensures)) (omega (arith, c.min.ensures)) (λ h. omega (arith, c.min.ensures, h)) c.loop-i.invariant.1 c.eight-v.ensures c.emit-m.ensures)

pub returns : goal.returns
returns c = upto_all c.args.s.now c.args.tag c.args.start c.args.at c.args.len c.loop-i.invariant.0 c.loop-i-test.false c.loop-i.invariant.1

-- no step of eight is left
pub returns-2 : goal.returns-2
returns-2 c = upto_all c.args.s.now c.args.tag c.args.start c.args.at c.args.len (rw c.emit-m.ensures.count (counted-top _ 1)) (search rules) (upto_more c.args.s.now c.args.tag c.args.start c.args.at c.args.len (search rules) c.loop-i-test.true (omega (arith, c.min.ensures)) (omega (arith, c.min.ensures)) (λ h. omega (arith, c.min.ensures, h)) c.loop-i.invariant.1 c.eight-v.ensures c.emit-m.ensures)
