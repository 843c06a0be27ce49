use Rattle.field_ranges.specs.Ends.{lowest, highest}
use Rattle.tell_angles.proofs.TellLaws.{told-thousandths, told-hundredths, told-seconds}
use Rattle.tell_angles.proofs.tell_angle.Goals as goal

pub returns-in-Thousandths : goal.returns-in-Thousandths
returns-in-Thousandths c =
    told-thousandths _ _ _ _ _ c.wrapping_add_usize-first_at.ensures.value c.in-Thousandths.is c.emit-m.ensures c.emit-a.ensures c.wrapping_add_usize-side_at.ensures.value c.emit.ensures

pub returns-in-Hundredths : goal.returns-in-Hundredths
unfolding lowest highest
returns-in-Hundredths c =
    told-hundredths _ _ _ _ _ c.wrapping_add_usize-first_at.ensures.value c.emit-a-in-Hundredths.ensures c.wrapping_add_usize-second_at.ensures.value c.in-Hundredths.is c.emit-m-in-Hundredths.ensures
    c.emit-b.ensures (rw c.width.ensures.0 at c.wrapping_add_usize-side_at-in-Hundredths.ensures.value) c.emit-in-Hundredths.ensures

pub returns-in-Seconds : goal.returns-in-Seconds
unfolding lowest highest
returns-in-Seconds c =
    told-seconds _ _ _ _ _ c.wrapping_add_usize-first_at.ensures.value c.emit-a-in-Seconds.ensures c.wrapping_add_usize-second_at-in-Seconds.ensures.value c.in-Seconds.is c.emit-m-in-Seconds.ensures
    c.emit-b-in-Seconds.ensures (rw c.width-in-Seconds.ensures.0 at c.wrapping_add_usize-third_at.ensures.value) c.emit-d.ensures (rw c.width-in-Seconds-2.ensures.0 at c.wrapping_add_usize-side_at-in-Seconds.ensures.value) c.emit-in-Seconds.ensures
