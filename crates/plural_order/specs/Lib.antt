pub mod World
pub mod Laws
pub mod ProgramWorld
pub mod ProgramLaws
pub mod Sums
pub mod TaskGraph
pub mod ProgramGraph
