pub mod Regions
pub mod Edge
pub mod ResidueLemmas
pub mod MeetingLemmas
