use Rattle.std.proofs.Common.{◌∙◌, ne_eqb}
use Rattle.atn.specs.Reading.{word}
use Rattle.cursor.specs.Place.{marked, stopped}
use Rattle.cursor.proofs.Laws.{marked-nil}
use Rattle.ranged_numbers.proofs.NumberLaws.{in_extent, above-extent}
use Rattle.ranged_numbers.proofs.from_lowest.Goals as goal

pub returns-then-c-ne0 : goal.returns-then-c-ne0
unfolding word marked stopped
returns-then-c-ne0 c = record { number = c.wrapping_add_u64-v.ensures.value; marks = rw (ne_eqb c.args.c.why 0 c.if-c-ne0.true) }

pub returns-then-above-extent : goal.returns-then-above-extent
unfolding word
returns-then-above-extent c =
    let a = c.args in
    record { number = c.wrapping_add_u64-v.ensures.value; marks = marked-nil a.c ∙ rw (in_extent {v = a.above} c.extent.ensures c.if-above-extent.true) }

pub returns : goal.returns
unfolding word
returns c =
    let a = c.args in
    record { number = c.wrapping_add_u64-v.ensures.value; marks = c.mark-m.ensures ∙ rw (above-extent {v = a.above} c.extent.ensures c.if-above-extent.false) }
