use mathlib.Core.Path.{◌≡◌, refl}
use Rattle.std.specs.Prelude.{Result, Ok}
use Rattle.pens.specs.declared.Pen.{Pen}
use Rattle.pens.specs.declared.Refused.{Refused}
use Rattle.pens.specs.Stand.{before, after, refused}
use Rattle.pens.proofs.GotLaws.{went_off}
use Rattle.pens.proofs.PenLaws.{writes_still}
use Rattle.write_texts.proofs.ChannelWrites.{channel-written}
use Rattle.write_texts.proofs.channel.write_channel.Goals as goal

-- behind a step that gave a pen
went_on : (r : Result Pen Refused) (p : Pen) → r ≡ Ok p → after r ≡ before p
went_on r p e = rw e refl

pub returns-in_err-digits : goal.returns-in_err-digits
returns-in_err-digits c =
    λ b y.
    rw (went_on c.args.p _ c.in_ok-p.was, went_off _ c.from_residual-in_err-digits.result c.from_residual-in_err-digits.ensures.1)
    (channel-written _ _ _ y b _ _ _ refused refused refused _ _ _ _ c.spaced_eight-front.ensures c.spaced_eight-back.ensures
    c.value_behind.ensures c.value_behind-2.ensures (c.in_err-digits.ensures b y) (writes_still _ _ _ _ _ _ _ _ refl refl) (writes_still _ _ _ _ _ _ _ _ refl refl))

pub returns-in_err-half : goal.returns-in_err-half
returns-in_err-half c =
    λ b y.
    rw (went_on c.args.p _ c.in_ok-p.was, went_off _ c.from_residual-in_err-half.result c.from_residual-in_err-half.ensures.1)
    (channel-written _ _ _ y b _ _ _ _ refused refused _ _ _ _ c.spaced_eight-front.ensures c.spaced_eight-back.ensures
    c.value_behind.ensures c.value_behind-2.ensures (c.in_ok-digits.ensures b y) (c.in_err-half.ensures b _) (writes_still _ _ _ _ _ _ _ _ refl refl))

pub returns : goal.returns
returns c =
    λ b y.
    rw (went_on c.args.p _ c.in_ok-p.was)
    (channel-written _ _ _ y b _ _ _ _ _ _ _ _ _ _ c.spaced_eight-front.ensures c.spaced_eight-back.ensures
    c.value_behind.ensures c.value_behind-2.ensures (c.in_ok-digits.ensures b y) (c.in_ok-half.ensures b _) (c.take-2.ensures b _))
