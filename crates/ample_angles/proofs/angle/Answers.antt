-- `angle` meets its contract: each form by the function that reads what stands behind it.
use native.Mathlib.Omega.{arith}
use Rattle.atn.specs.Reading.{read_choice}
use Rattle.records.proofs.Telling.{room_next, room-behind}
use Rattle.ample_bits.proofs.AheadLaws.{behind-ahead}
use Rattle.ample_readings.proofs.AmpleLaws.{ample_none, room_of, room_fewer}
use Rattle.ample_angles.proofs.AngleLaws.{angle-formed}
use Rattle.ample_angles.proofs.angle.Goals as goal

pub store-m-requires : goal.store-m-requires
store-m-requires c = room_next _ (room_of 5 c.args.n c.args.words.now (omega (arith, c.requires.0)) (omega arith) c.requires.1)

pub thousandths-requires : goal.thousandths-requires
thousandths-requires c =
    let r = room-behind (room_of 5 c.args.n c.args.words.now (omega (arith, c.requires.0)) (omega arith) c.requires.1) c.store-m.ensures in
    (omega (arith, c.store-m.ensures.few, c.requires.0), room_fewer 2 r (omega arith), omega (arith, c.requires.2), c.requires.3, c.requires.4, c.requires.5, c.requires.6, c.requires.7)

pub returns-then-form-eq0 : goal.returns-then-form-eq0
unfolding read_choice
returns-then-form-eq0 c = λ s h.
    angle-formed c.args.tag c.args.most c.args.degrees h c.first-form.ensures c.store-m.ensures (λ x e p. rw c.if-form-eq0.true) (omega arith) (omega arith) (c.thousandths.ensures s (rw (← c.behind-a.ensures) at (behind-ahead h 2 (omega arith))))

pub hundredths-requires : goal.hundredths-requires
hundredths-requires c =
    let r = room-behind (room_of 5 c.args.n c.args.words.now (omega (arith, c.requires.0)) (omega arith) c.requires.1) c.store-m.ensures in
    (omega (arith, c.store-m.ensures.few, c.requires.0), room_fewer 3 r (omega arith), omega (arith, c.requires.2), c.requires.3, c.requires.8, c.requires.9, c.requires.10, c.requires.11)

pub returns-then-form-eq1 : goal.returns-then-form-eq1
unfolding read_choice
returns-then-form-eq1 c = λ s h.
    angle-formed c.args.tag c.args.most c.args.degrees h c.first-form.ensures c.store-m.ensures (λ x e p. rw c.if-form-eq1.true) (omega arith) (omega arith) (c.hundredths.ensures s (rw (← c.behind-a.ensures) at (behind-ahead h 2 (omega arith))))

pub seconds-requires : goal.seconds-requires
seconds-requires c =
    let r = room-behind (room_of 5 c.args.n c.args.words.now (omega (arith, c.requires.0)) (omega arith) c.requires.1) c.store-m.ensures in
    (omega (arith, c.store-m.ensures.few, c.requires.0), room_fewer 4 r (omega arith), omega (arith, c.requires.2), c.requires.3, c.requires.8, c.requires.9, c.requires.10, c.requires.11)

pub returns-then-form-eq2 : goal.returns-then-form-eq2
unfolding read_choice
returns-then-form-eq2 c = λ s h.
    angle-formed c.args.tag c.args.most c.args.degrees h c.first-form.ensures c.store-m.ensures (λ x e p. rw c.if-form-eq2.true) (omega arith) (omega arith) (c.seconds.ensures s (rw (← c.behind-a.ensures) at (behind-ahead h 2 (omega arith))))

pub returns : goal.returns
returns c = λ s h. ample_none c.store-m.ensures c.given_up.ensures
