use Rattle.std.proofs.Common.{rules, arith, sym, ◌∙◌, ◌+◌, ◌-◌, length, drop}
use lib.ListN.{length-take, length-drop}
use Rattle.phrases.proofs.PhraseLaws.{is_here, is_past, was_last, onward}
use Rattle.phrases.proofs.phrase_of.Goals as goal

pub returns-then-rest-end : goal.returns-then-rest-end
returns-then-rest-end c = was_last c.loop.rest.now (c.args.index - c.loop.counter) c.place-end.result (omega arith) c.place-end.ensures c.if-rest-end.true ∙ sym c.loop.invariant.1

pub loop-preserved : goal.loop-preserved
loop-preserved c = (omega (arith, c.loop.invariant.0, length-drop (c.place-end.result + 1) c.loop.rest.now, length-take (length c.loop.rest.now - (c.place-end.result + 1)) (drop (c.place-end.result + 1) c.loop.rest.now)), c.loop.invariant.1 ∙ onward c.loop.rest.now (c.args.index - c.loop.counter) (c.args.index - (c.loop.counter + 1)) c.place-end.result (omega arith) (omega arith) c.place-end.ensures)

pub returns-then-is_empty : goal.returns-then-is_empty
returns-then-is_empty c = is_past _ _ (search rules) ∙ sym c.loop.invariant.1

pub returns : goal.returns
returns c = is_here c.loop.rest.now (c.args.index - c.loop.counter) c.place-end-2.result (omega arith) c.is_empty.ensures c.if-is_empty.false c.place-end-2.ensures ∙ sym c.loop.invariant.1
