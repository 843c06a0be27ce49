use mathlib.Core.Path.{refl}
use native.Mathlib.Omega.{arith}
use lib.Pow.{pow_pos}
use Rattle.fixture_writer.proofs.WriterLaws.{says_2, says_3, says_8_kind, says_8_fives, says_8_many, says_8_bytes, says_8_span, says_8_off, says_8_left, says_9, says_wrote, kind-of, table_sizes, small-run}
use Rattle.std.proofs.lemmas.Result.{err_from_is_err_and}
use Rattle.pens.specs.Stand.{before, after, refused}
use Rattle.fixture_writer.proofs.write_message.Goals as goal
use Rattle.fixture_writer.proofs.write_message.Goals.{Else-p-m}

pub put_at-requires : goal.put_at-requires
put_at-requires c = (omega arith, pow_pos _)

pub returns-then-not-tables_fit : goal.returns-then-not-tables_fit
returns-then-not-tables_fit c =
    says_2 c.args.kind c.args.direction c.args.down.now c.args.up.now c.args.words.now c.args.src.now c.args.out.now _ c.tables_fit.result c.tables_fit.ensures c.if-not-tables_fit.true refl

pub returns-then-direction-gt1 : goal.returns-then-direction-gt1
returns-then-direction-gt1 c =
    says_3 c.args.kind c.args.direction c.args.down.now c.args.up.now c.args.words.now c.args.src.now c.args.out.now _ c.tables_fit.result c.tables_fit.ensures c.if-not-tables_fit.false c.if-direction-gt1.true refl

pub returns-then-kind-gt2 : goal.returns-then-kind-gt2
returns-then-kind-gt2 c =
    says_8_kind c.args.kind c.args.direction c.args.down.now c.args.up.now c.args.words.now c.args.src.now c.args.out.now c.tables_fit.result c.tables_fit.ensures c.if-not-tables_fit.false c.if-direction-gt1.false _ c.if-kind-gt2.true refl

pub returns-then-words-ne0 : goal.returns-then-words-ne0
returns-then-words-ne0 c =
    says_8_fives c.args.kind c.args.direction c.args.down.now c.args.up.now c.args.words.now c.args.src.now c.args.out.now c.tables_fit.result c.tables_fit.ensures c.if-not-tables_fit.false c.if-direction-gt1.false _ c.if-kind-gt2.false c.if-words-ne0.true refl

pub returns-then-m-ge-RECORDS : goal.returns-then-m-ge-RECORDS
returns-then-m-ge-RECORDS c =
    says_8_many c.args.kind c.args.direction c.args.down.now c.args.up.now c.args.words.now c.args.src.now c.args.out.now c.tables_fit.result c.tables_fit.ensures c.if-not-tables_fit.false c.if-direction-gt1.false _ c.if-kind-gt2.false c.if-m-ge-RECORDS.true refl

pub returns-then-src-ge-BYTES : goal.returns-then-src-ge-BYTES
returns-then-src-ge-BYTES c =
    says_8_bytes c.args.kind c.args.direction c.args.down.now c.args.up.now c.args.words.now c.args.src.now c.args.out.now c.tables_fit.result c.tables_fit.ensures c.if-not-tables_fit.false c.if-direction-gt1.false _ c.if-kind-gt2.false c.if-src-ge-BYTES.true refl

pub returns-then-not-spans_inside : goal.returns-then-not-spans_inside
returns-then-not-spans_inside c =
    says_8_span c.args.kind c.args.direction c.args.down.now c.args.up.now c.args.words.now c.args.src.now c.args.out.now c.tables_fit.result c.tables_fit.ensures c.if-not-tables_fit.false c.if-direction-gt1.false c.if-kind-gt2.false _ refl c.if-words-ne0.false c.if-m-ge-RECORDS.false c.if-src-ge-BYTES.false _ c.spans_inside.result c.spans_inside.ensures c.if-not-spans_inside.true refl

pub returns-then-p-m : goal.returns-then-p-m
returns-then-p-m c =
    says_8_left c.args.kind c.args.direction c.args.down.now c.args.up.now c.args.words.now c.args.src.now c.args.out.now c.tables_fit.result c.tables_fit.ensures c.if-not-tables_fit.false c.if-direction-gt1.false c.if-kind-gt2.false _ refl c.if-words-ne0.false c.if-m-ge-RECORDS.false c.if-src-ge-BYTES.false c.spans_inside.result c.spans_inside.ensures c.if-not-spans_inside.false (before c.in_ok-p.p) _ _ (c.in_ok-p.ensures _ (kind-of c.args.kind c.args.direction c.args.down.now c.args.up.now c.args.words.now c.args.src.now c.args.out.now c.tables_fit.result c.tables_fit.ensures c.if-not-tables_fit.false c.if-direction-gt1.false c.if-kind-gt2.false _ refl c.if-words-ne0.false c.if-m-ge-RECORDS.false c.if-src-ge-BYTES.false)) _ refl c.if-p-m.true refl

pub returns-then-out-need : goal.returns-then-out-need
returns-then-out-need c =
    says_9 c.args.kind c.args.direction c.args.down.now c.args.up.now c.args.words.now c.args.src.now c.args.out.now c.tables_fit.result c.tables_fit.ensures c.if-not-tables_fit.false c.if-direction-gt1.false c.if-kind-gt2.false _ refl c.if-words-ne0.false c.if-m-ge-RECORDS.false c.if-src-ge-BYTES.false c.spans_inside.result c.spans_inside.ensures c.if-not-spans_inside.false (before c.in_ok-p.p) _ _ (c.in_ok-p.ensures _ (kind-of c.args.kind c.args.direction c.args.down.now c.args.up.now c.args.words.now c.args.src.now c.args.out.now c.tables_fit.result c.tables_fit.ensures c.if-not-tables_fit.false c.if-direction-gt1.false c.if-kind-gt2.false _ refl c.if-words-ne0.false c.if-m-ge-RECORDS.false c.if-src-ge-BYTES.false)) _ _ refl c.if-p-m.false refl c.if-out-need.true refl

pub overflow_mul-need : goal.overflow_mul-need
overflow_mul-need c =
    omega (arith, small-run c.args.kind c.args.direction c.args.down.now c.args.up.now c.args.words.now c.args.src.now c.args.out.now c.tables_fit.result c.tables_fit.ensures c.if-not-tables_fit.false c.if-direction-gt1.false c.if-kind-gt2.false _ refl c.if-words-ne0.false c.if-m-ge-RECORDS.false c.if-src-ge-BYTES.false c.spans_inside.result c.spans_inside.ensures c.if-not-spans_inside.false (before c.in_ok-p.p) _ _ (c.in_ok-p.ensures _ (kind-of c.args.kind c.args.direction c.args.down.now c.args.up.now c.args.words.now c.args.src.now c.args.out.now c.tables_fit.result c.tables_fit.ensures c.if-not-tables_fit.false c.if-direction-gt1.false c.if-kind-gt2.false _ refl c.if-words-ne0.false c.if-m-ge-RECORDS.false c.if-src-ge-BYTES.false)) refl c.if-p-m.false)

pub returns : goal.returns
returns c =
    says_wrote c.args.kind c.args.direction c.args.down.now c.args.up.now c.args.words.now c.args.src.now c.args.out.now c.tables_fit.result c.tables_fit.ensures c.if-not-tables_fit.false c.if-direction-gt1.false c.if-kind-gt2.false _ refl c.if-words-ne0.false c.if-m-ge-RECORDS.false c.if-src-ge-BYTES.false c.spans_inside.result c.spans_inside.ensures c.if-not-spans_inside.false (before c.in_ok-p.p) _ _ (c.in_ok-p.ensures _ (kind-of c.args.kind c.args.direction c.args.down.now c.args.up.now c.args.words.now c.args.src.now c.args.out.now c.tables_fit.result c.tables_fit.ensures c.if-not-tables_fit.false c.if-direction-gt1.false c.if-kind-gt2.false _ refl c.if-words-ne0.false c.if-m-ge-RECORDS.false c.if-src-ge-BYTES.false)) _ _ (after c.write_list-written.result) _ _ refl c.if-p-m.false refl c.if-out-need.false (λ i. omega (arith, (goal.at.returns c).Else-p-m.type_inv.out i)) (c.write_list-written.ensures _ (kind-of c.args.kind c.args.direction c.args.down.now c.args.up.now c.args.words.now c.args.src.now c.args.out.now c.tables_fit.result c.tables_fit.ensures c.if-not-tables_fit.false c.if-direction-gt1.false c.if-kind-gt2.false _ refl c.if-words-ne0.false c.if-m-ge-RECORDS.false c.if-src-ge-BYTES.false)) c.put_at.ensures refl

pub returns-in_err-p : goal.returns-in_err-p
returns-in_err-p c =
    let e = err_from_is_err_and c.from_residual.result c.from_residual.ensures.1 in
    rw (e.1, e.2)
    (says_8_off c.args.kind c.args.direction c.args.down.now c.args.up.now c.args.words.now c.args.src.now c.args.out.now c.tables_fit.result c.tables_fit.ensures c.if-not-tables_fit.false c.if-direction-gt1.false c.if-kind-gt2.false _ refl c.if-words-ne0.false c.if-m-ge-RECORDS.false c.if-src-ge-BYTES.false c.spans_inside.result c.spans_inside.ensures c.if-not-spans_inside.false refused _ _ (c.in_err-p.ensures _ (kind-of c.args.kind c.args.direction c.args.down.now c.args.up.now c.args.words.now c.args.src.now c.args.out.now c.tables_fit.result c.tables_fit.ensures c.if-not-tables_fit.false c.if-direction-gt1.false c.if-kind-gt2.false _ refl c.if-words-ne0.false c.if-m-ge-RECORDS.false c.if-src-ge-BYTES.false)) _ refl refl)

pub invariant_of-tables : goal.invariant_of-tables
invariant_of-tables c =
    let z = table_sizes c.tables_fit.result c.args.down.now c.args.up.now c.tables_fit.ensures c.if-not-tables_fit.false in record { down_some = z.0; down_few = z.1; up_some = z.2; up_few = z.3 }
