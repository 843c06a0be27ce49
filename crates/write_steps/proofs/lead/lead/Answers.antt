use mathlib.Core.Path.{refl}
use Prim.Native.Nat.{◌+◌}
use native.Mathlib.Omega.{arith}
use Rattle.pens.specs.Stand.{before, refused}
use Rattle.write_steps.proofs.LeadLaws.{last_two, keeps-noted, keeps_placed, keeps_choice, keeps-lent, leads_noted, leads_placed, leads_element, leads_ext, leads_choice, leads_through, leads_off, lent_leads, led_off, lent-down, lent-up}
use Rattle.write_steps.proofs.lead.lead.Goals as goal

pub take-requires : goal.take-requires
take-requires c =
    keeps-noted c.args.node.a c.args.node.b c.args.node.c c.args.node.d c.args.node.e c.if-kind-eq8.true c.requires.1

pub returns-in_err-q : goal.returns-in_err-q
returns-in_err-q c =
    λ F S N s h. led_off F S N c.args.tables.down.now c.args.tables.up.now c.args.node c.args.x c.args.y s _ _ _ _ _ _ c.from_residual.result c.from_residual.ensures.1 (leads_off F S N c.args.tables.down.now c.args.tables.up.now c.args.node c.args.x c.args.y s _ _ _ _ (record { k = c.args.node.d; x = c.args.x; p = refused }) _ (leads_noted F S N c.args.tables.down.now c.args.tables.up.now c.args.node c.args.x c.args.y s _ _ _ _ _ _ c.if-kind-eq8.true h refl refl refl (c.in_err-q.ensures s _)) refl)

pub returns-then-kind-eq8 : goal.returns-then-kind-eq8
returns-then-kind-eq8 c =
    λ F S N s h. rw c.to_part.ensures (leads_noted F S N c.args.tables.down.now c.args.tables.up.now c.args.node c.args.x c.args.y s _ _ _ _ _ _ c.if-kind-eq8.true h refl refl refl (c.in_ok-q.ensures s _))

pub take-requires-then-kind-eq9 : goal.take-requires-then-kind-eq9
take-requires-then-kind-eq9 c =
    keeps_placed c.args.node.a c.args.node.b c.args.node.c c.args.node.d c.args.node.e c.if-kind-eq9.true c.requires.1

pub returns-in_err-q-2 : goal.returns-in_err-q-2
returns-in_err-q-2 c =
    λ F S N s h. led_off F S N c.args.tables.down.now c.args.tables.up.now c.args.node c.args.x c.args.y s _ _ _ _ _ _ c.from_residual-in_err-q-2.result c.from_residual-in_err-q-2.ensures.1 (leads_off F S N c.args.tables.down.now c.args.tables.up.now c.args.node c.args.x c.args.y s _ _ _ _ (record { k = c.args.node.b; x = c.args.x; p = refused }) _ (leads_placed F S N c.args.tables.down.now c.args.tables.up.now c.args.node c.args.x c.args.y s _ _ _ _ _ _ c.if-kind-eq9.true h refl refl refl (c.in_err-q-2.ensures s _)) refl)

pub returns-then-kind-eq9 : goal.returns-then-kind-eq9
returns-then-kind-eq9 c =
    λ F S N s h. rw c.to_part-then-kind-eq9.ensures (leads_placed F S N c.args.tables.down.now c.args.tables.up.now c.args.node c.args.x c.args.y s _ _ _ _ _ _ c.if-kind-eq9.true h refl refl refl (c.in_ok-q-2.ensures s _))

pub returns-then-kind-eq10 : goal.returns-then-kind-eq10
returns-then-kind-eq10 c =
    λ F S N s h. rw c.to_part-then-kind-eq10.ensures (leads_element F S N c.args.tables.down.now c.args.tables.up.now c.args.node c.args.x c.args.y s _ _ _ _ _ _ c.if-kind-eq10.true h refl refl refl refl)

pub returns-then-kind-eq11 : goal.returns-then-kind-eq11
returns-then-kind-eq11 c =
    λ F S N s h. rw c.to_part-then-kind-eq11.ensures (leads_ext F S N c.args.tables.down.now c.args.tables.up.now c.args.node c.args.x c.args.y s _ _ _ _ _ _ c.if-kind-eq11.true h refl refl c.ink-q.ensures)

pub write_index-requires : goal.write_index-requires
write_index-requires c =
    let k = keeps_choice c.args.node.a c.args.node.b c.args.node.c c.args.node.d c.args.node.e c.if-kind-eq14.true c.requires.1 in (k.0, k.2)

pub returns-in_err-i : goal.returns-in_err-i
returns-in_err-i c =
    λ F S N s h. led_off F S N c.args.tables.down.now c.args.tables.up.now c.args.node c.args.x c.args.y s _ _ _ _ _ _ c.from_residual-in_err-i.result c.from_residual-in_err-i.ensures.1 (leads_off F S N c.args.tables.down.now c.args.tables.up.now c.args.node c.args.x c.args.y s _ _ _ _ (record { k = c.args.node.b + 0; x = c.args.x; p = refused }) _ (leads_choice F S N c.args.tables.down.now c.args.tables.up.now c.args.node c.args.x c.args.y s _ _ _ _ _ _ c.if-kind-eq14.true h (record { v = 0; p = refused }) refl refl refl (c.in_err-i.ensures s)) refl)

pub overflow_add-b : goal.overflow_add-b
overflow_add-b c =
    let k = keeps_choice c.args.node.a c.args.node.b c.args.node.c c.args.node.d c.args.node.e c.if-kind-eq14.true c.requires.1 in omega (arith, k.1, k.3, (c.in_ok-i.ensures (λ _. 0)).below)

pub returns-then-kind-eq14 : goal.returns-then-kind-eq14
returns-then-kind-eq14 c =
    λ F S N s h. rw c.to_part-then-kind-eq14.ensures (leads_choice F S N c.args.tables.down.now c.args.tables.up.now c.args.node c.args.x c.args.y s _ _ _ _ _ _ c.if-kind-eq14.true h (record { v = c.in_ok-i.i.value; p = before c.in_ok-i.i.pen }) refl refl refl (c.in_ok-i.ensures s))

pub lent-requires : goal.lent-requires
lent-requires c =
    let k = keeps-lent c.args.node.a c.args.node.b c.args.node.c c.args.node.d c.args.node.e c.if-kind-eq15.true c.requires.1 in (c.args.tables.down_some, c.args.tables.down_few, k.0, k.1)

pub returns-then-c-eq0 : goal.returns-then-c-eq0
returns-then-c-eq0 c =
    λ F S N s h. lent_leads F S N c.args.tables.down.now c.args.tables.up.now c.args.node c.args.x c.args.y s _ _ _ _ _ c.if-kind-eq15.true h _ (lent-down _ _ _ c.if-c-eq0.true) _ (c.lent.ensures F _ s)

pub lent-requires-then-kind-eq15 : goal.lent-requires-then-kind-eq15
lent-requires-then-kind-eq15 c =
    let k = keeps-lent c.args.node.a c.args.node.b c.args.node.c c.args.node.d c.args.node.e c.if-kind-eq15.true c.requires.1 in (c.args.tables.up_some, c.args.tables.up_few, k.0, k.1)

pub returns-then-kind-eq15 : goal.returns-then-kind-eq15
returns-then-kind-eq15 c =
    λ F S N s h. lent_leads F S N c.args.tables.down.now c.args.tables.up.now c.args.node c.args.x c.args.y s _ _ _ _ _ c.if-kind-eq15.true h _ (lent-up _ _ _ c.if-c-eq0.false) _ (c.lent-then-kind-eq15.ensures F _ s)

pub returns : goal.returns
returns c =
    λ F S N s h. rw c.to_part-2.ensures (leads_through F S N c.args.tables.down.now c.args.tables.up.now c.args.node c.args.x c.args.y s _ _ _ _ _ _ (last_two c.requires.0 c.if-kind-eq8.false c.if-kind-eq9.false c.if-kind-eq10.false c.if-kind-eq11.false c.if-kind-eq14.false c.if-kind-eq15.false) h refl refl refl refl)
