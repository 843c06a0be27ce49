-- `write_texts::record::write_records` meets its contract. The loop's invariant: what writes the characters that are left, from here on, writes them all.
use mathlib.Core.List.{List}
use Prim.Native.Nat.{ℕ, ◌+◌, ◌-◌, ◌*◌, ◌/◌}
use Rattle.x691.specs.Encoding.{unit_bits}
use Rattle.pens.specs.Stand.{Stand, before}
use Rattle.pens.specs.Rest.{items}
use Rattle.pens.specs.Writes.{Writes}
use Rattle.write_texts.specs.Letters.{in_records}
use Rattle.write_texts.proofs.record.write_records.Given as goal

abbrev pub invariant-loop-i : goal.invariant-loop-i
invariant-loop-i l =
    (b : ℕ → ℕ) (r : Stand) (Z : List ℕ) → Writes (λ us. unit_bits l.n us) (λ R. in_records l.tag l.element l.n l.c l.size ((l.size - l.i * 8 + 7) / 8) (l.size - l.i * 8) R) (λ i. items b l.records.words.now l.records.len i) l.records.len (before l.q) l.out r Z → Writes (λ us. unit_bits l.n us) (λ R. in_records l.tag l.element l.n l.c l.size ((l.size + 7) / 8) l.size R) (λ i. items b l.records.words.now l.records.len i) l.records.len (before l.initial.q) l.initial.out r Z
