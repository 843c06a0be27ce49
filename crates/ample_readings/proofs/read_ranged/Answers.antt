use Rattle.std.proofs.Common.{sym, ap, ◌∙◌}
use Rattle.x691.specs.Encoding.{width}
use Rattle.ample_readings.proofs.AmpleLaws.{fixed_by}
use Rattle.ample_readings.proofs.read_ranged.Goals as goal

pub returns : goal.returns
returns c =
    let most = c.extent-most.ensures in
    let wide = c.width-wide.ensures.0 in
    let range = c.args.range in
    fixed_by wide (c.read_number.ensures range.hi (sym most) (ap width most ∙ sym wide))
