use mathlib.Core.Path.{refl}
use native.Mathlib.Omega.{arith}
use Rattle.x691.specs.Types.{extent}
use Rattle.x691.specs.Encoding.{width, width_in}
use Rattle.atn.specs.Reading.{or, flags}
use Rattle.cursor.proofs.FormatLaws.{all_read}
use Rattle.records.proofs.Telling.{room_next}
use Rattle.ample_bits.proofs.AheadLaws.{ahead-next}
use Rattle.ample_readings.proofs.AmpleLaws.{ample_done, room_of, number-room, fixed_room, fixed_last, done_must, done_plain, done-within}
use Rattle.ample_angles.proofs.AngleLaws.{from_zero}
use Rattle.ample_angles.proofs.hundredths.Goals as goal

pub behind-b-requires : goal.behind-b-requires
unfolding extent width width_in
behind-b-requires c = omega (arith, c.width.ensures.0)

pub read_number-x-requires : goal.read_number-x-requires
read_number-x-requires c =
    let o = room_next _ (room_of 3 c.args.n c.args.words.now c.requires.0 (omega arith) c.requires.1) in
    (o.0, o.1, omega (arith, c.requires.2), c.requires.6, omega (arith, c.requires.7))

pub read_ranged-y-requires : goal.read_ranged-y-requires
unfolding extent width width_in
read_ranged-y-requires c =
    let x = c.read_number-x.ensures c.args.most (from_zero c.args.most (omega (arith, c.requires.4))) c.requires.5 in
    number-room _ _ (fixed_room x 2 c.read_number-x.auto.words (room_of 3 c.args.n c.args.words.now c.requires.0 (omega arith) c.requires.1) (omega arith)) (omega (arith, c.requires.2, c.requires.7, x.to)) (omega arith)

pub read_ranged-side-requires : goal.read_ranged-side-requires
unfolding extent width width_in
read_ranged-side-requires c =
    let x = c.read_number-x.ensures c.args.most (from_zero c.args.most (omega (arith, c.requires.4))) c.requires.5 in
    let y = c.read_ranged-y.ensures in
    number-room _ _ (fixed_room y 1 c.read_ranged-y.auto.words (fixed_room x 2 c.read_number-x.auto.words (room_of 3 c.args.n c.args.words.now c.requires.0 (omega arith) c.requires.1) (omega arith)) (omega arith)) (omega (arith, c.requires.2, c.requires.7, x.to, y.to)) (omega arith)

pub returns : goal.returns
unfolding extent width width_in flags all_read or
returns c = λ s h.
    let l = c.requires.7 in
    let x = c.read_number-x.ensures c.args.most (from_zero c.args.most (omega (arith, c.requires.4))) c.requires.5 in
    let y = c.read_ranged-y.ensures in
    let h₁ = ahead-next c.args.narrow h x.to c.behind-a.ensures (omega (arith, l)) in
    let h₂ = ahead-next 13 h₁ y.to (rw c.width.ensures.0 at c.behind-b.ensures) (omega (arith, l)) in
    ample_done (done-within (done_plain refl refl
    (done_must (done_plain refl refl (done_must (x.done s 22 h (omega (arith, l))) (fixed_last y h₁ (omega (arith, l)))))
    (fixed_last c.read_ranged-side.ensures h₂ (omega (arith, l))))) (omega arith) (omega (arith, l)))
