use mathlib.Core.Path.{refl}
use native.Mathlib.Omega.{arith}
use Rattle.ample_bits.proofs.AheadLaws.{ahead-next}
use Rattle.brief_frames.specs.Briefs.{told}
use Rattle.brief_frames.proofs.HeadLaws.{spelt, clear}
use Rattle.brief_frames.proofs.PartLaws.{extension-short, extension-read}
use Rattle.brief_frames.proofs.parts.extension.Goals as goal

pub returns-then-first-eq0 : goal.returns-then-first-eq0
returns-then-first-eq0 c =
    let p = c.requires in
    let next = ahead-next 1 p.3 refl c.behind.ensures (omega arith) in
    told refl (extension-short _ _ _ p.2 (clear 1 p.3 (omega arith) c.first.ensures c.if-first-eq0.true) (spelt 6 next (omega arith) c.first-value.ensures))

pub returns : goal.returns
returns c =
    let p = c.requires in
    extension-read _ _ (omega (arith, p.2)) p.1 c.small-g.ensures

pub small-g-requires : goal.small-g-requires
small-g-requires c = c.requires.0
