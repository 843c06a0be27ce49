pub mod TagLaws
pub mod InsideLaws
pub mod UnitLaws
pub mod StringLaws
pub mod RecordLaws
pub mod SpanWrites
pub mod Parts
