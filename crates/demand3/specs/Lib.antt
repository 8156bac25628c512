-- the claim
pub mod Words
pub mod Steps
pub mod Demand3
-- of every single call
pub mod Tidy
pub mod Single
-- of the code
pub mod Calls
-- Joint A
pub mod Joint
