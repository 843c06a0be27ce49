-- `write_spans::inside::spans_inside` meets its contract. The loop's invariant: whether all lie inside is whether those from record i on do.
use mathlib.Core.Path.{◌≡◌}
use Prim.Native.Nat.{◌*◌}
use lib.ListN.{length}
use Rattle.record_lists.specs.Items.{inside}
use Rattle.record_lists.specs.Kinds.{span_tag}
use Rattle.pens.specs.Rest.{rest}
use Rattle.write_spans.proofs.inside.spans_inside.Given as goal

abbrev pub invariant-loop-i : goal.invariant-loop-i
invariant-loop-i l = inside span_tag (length l.src * 8) (rest l.records.words.now l.records.len 0) ≡ inside span_tag (length l.src * 8) (rest l.records.words.now l.records.len l.i)
