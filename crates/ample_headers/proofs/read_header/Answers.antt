-- `read_header` meets its contract, with and without a reference.
use mathlib.Core.Path.{refl, ◌∙◌}
use Prim.Native.Nat.{◌-◌, ◌<◌}
use native.Mathlib.Omega.{arith}
use Rattle.x691.specs.Types.{extent}
use Rattle.x691.specs.Encoding.{width, width_in}
use Rattle.per.proofs.Laws.{uint-below}
use Rattle.atn.specs.Reading.{or, flags}
use Rattle.cursor.proofs.FormatLaws.{all_read}
use Rattle.ample_bits.proofs.AheadLaws.{first-spelt, ahead-next, ahead_fewer}
use Rattle.ample_readings.proofs.AmpleLaws.{room_of, number-room, fixed_room, fixed_then, done_plain, done-within}
use Rattle.ample_headers.proofs.HeaderLaws.{header_bare, header_referring}
use Rattle.ample_headers.proofs.read_header.Goals as goal

pub read_ranged-x-requires : goal.read_ranged-x-requires
unfolding extent width width_in
read_ranged-x-requires c = number-room _ _ (room_of 9 c.args.n c.args.words.now (omega (arith, c.requires.0)) (omega arith) c.requires.1) (omega (arith, c.requires.2)) (omega arith)

pub behind-b-requires : goal.behind-b-requires
unfolding extent width width_in
behind-b-requires c = omega (arith, c.width-wide.ensures.0)

pub returns-then-has-lt2 : goal.returns-then-has-lt2
unfolding extent width width_in flags all_read or
returns-then-has-lt2 c =
    let s = c.args.s.now in
    let h = c.ahead-v.ensures in
    let u = c.first-has.ensures ∙ first-spelt h 2 (omega arith) in
    rw (← u, header_bare _ c.if-has-lt2.true)
    (done-within (done_plain refl refl
    (fixed_then c.read_ranged-x.ensures (ahead-next 2 h refl c.behind-a.ensures (omega arith)) (omega arith) c.width-wide.ensures.0 c.behind-b.ensures
    (λ h₁. c.read_timed-y.ensures s (ahead_fewer 34 h₁ (omega arith))))) (omega arith) (omega arith))

pub behind-requires : goal.behind-requires
unfolding extent width width_in
behind-requires c = omega (arith, c.width-wide.ensures.0)

pub returns : goal.returns
unfolding extent width width_in flags all_read or
returns c =
    let a = c.args in
    let s = a.s.now in
    let h = c.ahead-v.ensures in
    let u = c.first-has.ensures ∙ first-spelt h 2 (omega arith) in
    let l : c.first-has.result < 4 = omega (arith, u, uint-below s a.at 2) in
    rw (← u, header_referring c.first-has.result (c.first-has.result - 2) (omega (arith, c.if-has-lt2.false)) l)
    (done-within (done_plain refl refl
    (fixed_then c.read_ranged-x.ensures (ahead-next 2 h refl c.behind-a.ensures (omega arith)) (omega arith) c.width-wide.ensures.0 c.behind-b.ensures
    (λ h₁. fixed_then c.read_ranged-y.ensures h₁ (omega arith) c.width-wide.ensures.0 c.behind.ensures
    (λ h₂. c.read_timed-z.ensures s (ahead_fewer 34 h₂ (omega arith)))))) (omega arith) (omega arith))

pub read_timed-y-requires : goal.read_timed-y-requires
unfolding extent width width_in
read_timed-y-requires c =
    let room = fixed_room c.read_ranged-x.ensures 7 c.read_ranged-x.auto.words (room_of 9 c.args.n c.args.words.now (omega (arith, c.requires.0)) (omega arith) c.requires.1) (omega arith) in
    (omega (arith, c.requires.0, c.read_ranged-x.ensures.count), room.enough, omega (arith, c.requires.2, c.read_ranged-x.ensures.to))

pub read_ranged-y-requires : goal.read_ranged-y-requires
unfolding extent width width_in
read_ranged-y-requires c =
    let room = fixed_room c.read_ranged-x.ensures 8 c.read_ranged-x.auto.words (room_of 9 c.args.n c.args.words.now (omega (arith, c.requires.0)) (omega arith) c.requires.1) (omega arith) in
    number-room _ _ room (omega (arith, c.requires.2, c.read_ranged-x.ensures.to)) (omega arith)

pub read_timed-z-requires : goal.read_timed-z-requires
unfolding extent width width_in
read_timed-z-requires c =
    let room = fixed_room c.read_ranged-x.ensures 8 c.read_ranged-x.auto.words (room_of 9 c.args.n c.args.words.now (omega (arith, c.requires.0)) (omega arith) c.requires.1) (omega arith) in
    (omega (arith, c.requires.0, c.read_ranged-x.ensures.count, c.read_ranged-y.ensures.count), (fixed_room c.read_ranged-y.ensures 7 c.read_ranged-y.auto.words room (omega arith)).enough, omega (arith, c.requires.2, c.read_ranged-x.ensures.to, c.read_ranged-y.ensures.to))
