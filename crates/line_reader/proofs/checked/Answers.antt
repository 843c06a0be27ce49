-- The name, moved up, has 64 bits.
use mathlib.Core.Path.{sym, ◌∙◌}
use Prim.Native.Nat.{ℕ, ◌+◌, ◌*◌, ◌/◌, ◌%◌, ◌^◌, ◌<◌}
use native.Mathlib.Omega.{arith}
use Rattle.book_entries.specs.declared.Entry.{Entry}
use Rattle.book_lines.specs.Lines.{entry_of}
use Rattle.line_reader.proofs.ReadLaws.{moved_up, checked-bad, checked-good}
use Rattle.line_reader.proofs.checked.Goals as goal
use Rattle.line_reader.proofs.checked.Goals.{After-unit}

fits : (c : After-unit) → c.args.name * c.unit.result < 2 ^ 64
fits c = rw c.unit.ensures (moved_up c.args.size c.args.name (omega arith) c.requires.2)

-- the entry, with the number that the name was multiplied by
abbrev made : (s x u k b : ℕ) → Entry
made s x u k b = record { high = x * u / 4294967296; low = x * u % 4294967296; number = k; shape = s * 1048576 + b }

pub overflow_mul-text : goal.overflow_mul-text
overflow_mul-text c = omega (arith, fits (goal.at.overflow_mul-text c).After-unit)

pub overflow_cast-e : goal.overflow_cast-e
overflow_cast-e c = omega (arith, fits (goal.at.overflow_cast-e c).After-unit)

pub returns-then-not-is_good : goal.returns-then-not-is_good
returns-then-not-is_good c =
    let a = c.args in
    let u = c.unit in
    checked-bad (entry_of a.size a.name a.number a.bytes) (rw (← u.ensures) (sym c.is_good.ensures ∙ c.if-not-is_good.true))

pub returns : goal.returns
returns c =
    let a = c.args in
    let u = c.unit in
    rw (← u.ensures) (checked-good (made a.size a.name u.result a.number a.bytes) (sym c.is_good.ensures ∙ c.if-not-is_good.false))
