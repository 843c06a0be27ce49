use mathlib.Core.Path.{refl}
use Rattle.pens.specs.Stand.{before}
use Rattle.x691.specs.Bits.{bit_of}
use Rattle.write_leaves.proofs.LeafLaws.{sure_number, sure_name, sure_reason, sure-text, sure_span, sure_any, part_as, number_leaf, name_leaf, reason_leaf, text_leaf, span_leaf, any_leaf, null_leaf, no_leaf, null_part, no_part, below-eight}
use Rattle.write_leaves.proofs.leaf.write_leaf.Goals as goal

pub write_number-requires : goal.write_number-requires
write_number-requires c =
    ((sure_number c.args.a c.args.b c.args.c c.args.d c.args.e c.if-kind-eq1.true c.requires.1))

pub returns-then-kind-eq1 : goal.returns-then-kind-eq1
returns-then-kind-eq1 c =
    λ F N D U y. part_as _ _ _ _ _ _ _ _ _ _ (number_leaf F N D U c.args.a c.args.b c.args.c c.args.d c.args.e c.if-kind-eq1.true) (c.write_number.ensures (bit_of c.args.lent.src.now) y)

pub write_name-requires : goal.write_name-requires
write_name-requires c =
    ((sure_name c.args.a c.args.b c.args.c c.args.d c.args.e c.if-kind-eq2.true c.requires.1))

pub returns-then-kind-eq2 : goal.returns-then-kind-eq2
returns-then-kind-eq2 c =
    λ F N D U y. part_as _ _ _ _ _ _ _ _ _ _ (name_leaf F N D U c.args.a c.args.b c.args.c c.args.d c.args.e c.if-kind-eq2.true) (c.write_name.ensures (bit_of c.args.lent.src.now) y)

pub write_reason-requires : goal.write_reason-requires
write_reason-requires c =
    ((sure_reason c.args.a c.args.b c.args.c c.args.d c.args.e c.if-kind-eq3.true c.requires.1))

pub returns-then-kind-eq3 : goal.returns-then-kind-eq3
returns-then-kind-eq3 c =
    λ F N D U y. part_as _ _ _ _ _ _ _ _ _ _ (reason_leaf F N D U c.args.a c.args.b c.args.c c.args.d c.args.e c.if-kind-eq3.true) (c.write_reason.ensures (bit_of c.args.lent.src.now) y)

pub write_letters-requires : goal.write_letters-requires
write_letters-requires c =
    let s = (sure-text c.args.a c.args.b c.args.c c.args.d c.args.e c.if-kind-eq4.true c.requires.1) in (s.0, s.1)

pub returns-then-kind-eq4 : goal.returns-then-kind-eq4
returns-then-kind-eq4 c =
    λ F N D U y. part_as _ _ _ _ _ _ _ _ _ _ (text_leaf F N D U c.args.a c.args.b c.args.c c.args.d c.args.e c.if-kind-eq4.true) (c.write_letters.ensures (bit_of c.args.lent.src.now) y)

pub write_span-requires : goal.write_span-requires
write_span-requires c =
    let s = (sure_span c.args.a c.args.b c.args.c c.args.d c.args.e c.if-kind-eq5.true c.requires.1) in (s.0, s.1, s.3, s.4)

pub returns-then-kind-eq5 : goal.returns-then-kind-eq5
returns-then-kind-eq5 c =
    λ F N D U y. part_as _ _ _ _ _ _ _ _ _ _ (span_leaf F N D U c.args.a c.args.b c.args.c c.args.d c.args.e c.if-kind-eq5.true) (c.write_span.ensures y)

pub write_any_span-requires : goal.write_any_span-requires
write_any_span-requires c =
    let s = (sure_any c.args.a c.args.b c.args.c c.args.d c.args.e c.if-kind-eq6.true c.requires.1) in (s.0, s.1)

pub returns-then-kind-eq6 : goal.returns-then-kind-eq6
returns-then-kind-eq6 c =
    λ F N D U y. part_as _ _ _ _ _ _ _ _ _ _ (any_leaf F N D U c.args.a c.args.b c.args.c c.args.d c.args.e c.if-kind-eq6.true) (c.write_any_span.ensures y)

pub returns-then-kind-eq7 : goal.returns-then-kind-eq7
returns-then-kind-eq7 c =
    λ F N D U y. part_as _ _ _ _ _ _ _ _ _ _ (null_leaf F N D U c.args.a c.args.b c.args.c c.args.d c.args.e c.if-kind-eq7.true) (null_part _ _ _ _ _ _ (before c.args.p) c.args.out.now)

pub returns : goal.returns
returns c =
    λ F N D U y. part_as _ _ _ _ _ _ _ _ _ _ (no_leaf F N D U c.args.a c.args.b c.args.c c.args.d c.args.e (below-eight c.requires.0 c.if-kind-eq1.false c.if-kind-eq2.false c.if-kind-eq3.false c.if-kind-eq4.false c.if-kind-eq5.false c.if-kind-eq6.false c.if-kind-eq7.false)) (no_part _ _ _ _ _ _ _ _ refl)
