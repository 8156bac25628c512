-- definitions
pub mod Sheet
pub mod Run
pub mod Event
pub mod Call
pub mod Answer
pub mod Boundary
pub mod Structs
pub mod CallStored
pub mod Tests
