use mathlib.Core.Path.{refl}
use native.Mathlib.Omega.{arith}
use Rattle.x691.specs.Types.{extent}
use Rattle.x691.specs.Encoding.{width, width_in}
use Rattle.atn.specs.Reading.{or, flags}
use Rattle.cursor.proofs.FormatLaws.{all_read}
use Rattle.records.proofs.Telling.{room_next}
use Rattle.ample_readings.proofs.AmpleLaws.{ample_done, room_of, number-room, fixed_room, fixed_then, fixed_last, done_plain, done-within}
use Rattle.ample_angles.proofs.AngleLaws.{from_zero}
use Rattle.ample_angles.proofs.thousandths.Goals as goal

pub read_number-x-requires : goal.read_number-x-requires
read_number-x-requires c =
    let o = room_next _ (room_of 2 c.args.n c.args.words.now c.requires.0 (omega arith) c.requires.1) in
    (o.0, o.1, omega (arith, c.requires.2), c.requires.6, omega (arith, c.requires.7))

pub read_ranged-side-requires : goal.read_ranged-side-requires
unfolding extent width width_in
read_ranged-side-requires c =
    let x = c.read_number-x.ensures c.args.most (from_zero c.args.most (omega (arith, c.requires.4))) c.requires.5 in
    number-room _ _ (fixed_room x 1 c.read_number-x.auto.words (room_of 2 c.args.n c.args.words.now c.requires.0 (omega arith) c.requires.1) (omega arith)) (omega (arith, c.requires.2, c.requires.7, x.to)) (omega arith)

pub returns : goal.returns
unfolding extent width width_in flags all_read or
returns c = λ s h.
    let x = c.read_number-x.ensures c.args.most (from_zero c.args.most (omega (arith, c.requires.4))) c.requires.5 in
    ample_done (done-within (done_plain refl refl
    (fixed_then x h (omega (arith, c.requires.7)) refl c.behind-a.ensures
    (λ h₁. fixed_last c.read_ranged-side.ensures h₁ (omega (arith, c.requires.7))))) (omega arith) (omega (arith, c.requires.7)))
