-- `write_texts::word::write_word` meets its contract. The loop's invariant: what writes the characters that are left, from here on, writes them all.
use mathlib.Core.List.{List}
use Prim.Native.Nat.{ℕ, ◌-◌}
use Rattle.x691.specs.Encoding.{unit_bits}
use Rattle.record_lists.specs.Items.{Item}
use Rattle.pens.specs.Stand.{Stand, before}
use Rattle.pens.specs.Writes.{Writes}
use Rattle.write_texts.specs.Letters.{in_word}
use Rattle.write_texts.proofs.word.write_word.Given as goal

abbrev pub invariant-loop-i : goal.invariant-loop-i
invariant-loop-i l =
    (T : ℕ → List Item) (m : ℕ) (r : Stand) (Z : List ℕ) → Writes (λ us. unit_bits l.n us) (λ R. in_word l.n l.c (l.k - l.i) (8 - l.i) l.rest R) T m (before l.q) l.out r Z → Writes (λ us. unit_bits l.n us) (λ R. in_word l.n l.c l.k 8 l.w R) T m (before l.initial.q) l.initial.out r Z
