use mathlib.Core.Path.{refl}
use native.Mathlib.Omega.{arith}
use Rattle.atn.specs.Reading.{or, flags}
use Rattle.cursor.proofs.FormatLaws.{all_read}
use Rattle.ample_readings.proofs.AmpleLaws.{room_of, number-room, fixed_room, fixed_then, fixed_last, done_plain}
use Rattle.ample_headers.proofs.read_three.Goals as goal

pub behind-a-requires : goal.behind-a-requires
behind-a-requires c = omega (arith, c.width.ensures.0, c.requires.7)

pub behind-b-requires : goal.behind-b-requires
behind-b-requires c = omega (arith, c.width-2.ensures.0, c.requires.7)

pub read_ranged-x-requires : goal.read_ranged-x-requires
read_ranged-x-requires c =
    number-room _ _ (room_of 3 c.args.n c.args.words.now c.requires.0 (omega arith) c.requires.1) (omega (arith, c.requires.2)) c.requires.4

pub returns : goal.returns
unfolding flags all_read or
returns c =
    record {
      done = λ s j h l.
          done_plain refl refl
          (fixed_then c.read_ranged-x.ensures h (omega (arith, l)) c.width.ensures.0 c.behind-a.ensures
          (λ h₁. fixed_then c.read_ranged-y.ensures h₁ (omega (arith, l)) c.width-2.ensures.0 c.behind-b.ensures
          (λ h₂. fixed_last c.read_ranged-z.ensures h₂ (omega (arith, l)))));
      to = omega (arith, c.read_ranged-x.ensures.to, c.read_ranged-y.ensures.to, c.read_ranged-z.ensures.to);
      count = omega (arith, c.read_ranged-x.ensures.count, c.read_ranged-y.ensures.count, c.read_ranged-z.ensures.count);
    }

pub read_ranged-y-requires : goal.read_ranged-y-requires
read_ranged-y-requires c =
    number-room _ _ (fixed_room c.read_ranged-x.ensures 2 c.read_ranged-x.auto.words (room_of 3 c.args.n c.args.words.now c.requires.0 (omega arith) c.requires.1) (omega arith)) (omega (arith, c.requires.2, c.requires.7, c.read_ranged-x.ensures.to)) c.requires.5

pub read_ranged-z-requires : goal.read_ranged-z-requires
read_ranged-z-requires c =
    let room = fixed_room c.read_ranged-x.ensures 2 c.read_ranged-x.auto.words (room_of 3 c.args.n c.args.words.now c.requires.0 (omega arith) c.requires.1) (omega arith) in
    number-room _ _ (fixed_room c.read_ranged-y.ensures 1 c.read_ranged-y.auto.words room (omega arith)) (omega (arith, c.requires.2, c.requires.7, c.read_ranged-x.ensures.to, c.read_ranged-y.ensures.to)) c.requires.6
