use mathlib.Core.Path.{◌≡◌, ap}
use mathlib.Core.List.{[], ◌∷◌}
use mathlib.Core.Option.{none}
use Prim.Native.Nat.{◌+◌, ◌-◌, ◌<◌}
use native.Mathlib.Omega.{arith}
use lib.ListN.{length, take, drop}
use Rattle.std.proofs.Common.{rules}
use Rattle.line_reader.specs.Reads.{found}
use Rattle.book_text.specs.Cuts.{cut, left}
use Rattle.book_text.proofs.CutLaws.{no_line, open_line, first_line}
use Rattle.book_text.proofs.LinesIterator.next.Goals.{In_default, After-read_line-entry}
use Rattle.book_text.proofs.LinesIterator.next.Goals as goal

pub returns-then-is_empty-clause-steps : goal.returns-then-is_empty-clause-steps
returns-then-is_empty-clause-steps c = let e = no_line c.args.self.now.text.now (search rules) in (e, e)

not-empty : (c : In_default) → 0 < length c.args.self.now.text.now
not-empty c = search rules

unended : (c : In_default) → left c.args.self.now ≡ none ∷ []
unended c = open_line c.args.self.now.text.now (not-empty c) c.in_default.ensures

pub returns-in_default-clause-steps : goal.returns-in_default-clause-steps
unfolding cut
returns-in_default-clause-steps c = unended (goal.at.returns-in_default-clause-steps c).In_default

pub returns-in_default-clause-goes : goal.returns-in_default-clause-goes
unfolding cut
returns-in_default-clause-goes c = record { on = λ f. (tt, tt, omega (arith, ap length (unended (goal.at.returns-in_default-clause-goes c).In_default))); keeps = tt; rests = λ f. tt }

cut-off : (c : After-read_line-entry) → left c.args.self.now ≡ found c.read_line-entry.result ∷ cut [] (take (length c.args.self.now.text.now - (c.in-Some.end + 1)) (drop (c.in-Some.end + 1) c.args.self.now.text.now))
cut-off c = first_line c.args.self.now.text.now c.in-Some.ensures c.read_line-entry.ensures

pub returns-clause-steps : goal.returns-clause-steps
returns-clause-steps c = cut-off (goal.at.returns-clause-steps c).After-read_line-entry

pub returns-clause-goes : goal.returns-clause-goes
returns-clause-goes c = record { on = λ f. (tt, tt, omega (arith, ap length (cut-off (goal.at.returns-clause-goes c).After-read_line-entry))); keeps = tt; rests = λ f. tt }
