use Rattle.std.proofs.Common.{◌∙◌, arith}
use Rattle.atn.specs.Reading.{word}
use Rattle.ample_bits.proofs.AheadLaws.{first-spelt}
use Rattle.ample_readings.proofs.SureLaws.{sure_word}
use Rattle.ample_readings.proofs.AmpleLaws.{done_of}
use Rattle.ample_readings.proofs.read_number.Goals as goal

pub returns : goal.returns
unfolding word
returns c =
    let told = c.store-m.ensures in
    let a = c.args in
    λ hi e q. record {
      done = λ s j h l. done_of (λ i. rw (c.above-marks.ensures, c.wrapping_add_u64-value.ensures.value) (sure_word a.tag a.lo hi a.most a.wide e q (c.first-raw.ensures ∙ first-spelt h a.wide l))) (omega arith) told;
      to = omega arith;
      count = omega (arith, told.count);
    }
