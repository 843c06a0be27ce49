pub mod PickLaws
pub mod LeadLaws
pub mod MeetLaws
