pub mod Instances
pub mod Counts
pub mod Legal
pub mod Results
pub mod Entered
