-- definitions
pub mod Read
pub mod Leb
pub mod Numbers
pub mod Stages
pub mod Slots
pub mod Stored
pub mod Groups
pub mod Exact
