pub mod Rooms
pub mod Finishing
pub mod Entering
pub mod Laws
