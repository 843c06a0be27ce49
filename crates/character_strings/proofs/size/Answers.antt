use mathlib.Core.Path.{refl}
use native.Mathlib.Omega.{arith}
use Rattle.character_strings.proofs.TextLaws.{size-lowest, size_in, size-over}
use Rattle.character_strings.proofs.size.Goals as goal

pub overflow_add-v : goal.overflow_add-v
overflow_add-v c = omega (arith, size-lowest c.requires)

pub returns-then-v-range : goal.returns-then-v-range
returns-then-v-range c =
    let g = c.bits-g in
    let w = c.width in
    size_in c.requires g.result (rw w.ensures.0 at g.ensures) refl c.if-v-range.true

pub returns : goal.returns
returns c =
    let g = c.bits-g in
    let w = c.width in
    size-over c.requires g.result (rw w.ensures.0 at g.ensures) refl c.if-v-range.false c.mark-m.ensures
