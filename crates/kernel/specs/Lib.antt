-- definitions
pub mod Code
pub mod Drive
pub mod Call
pub mod Listed
pub mod Decision
-- laws
pub mod Cost
pub mod Bounds
pub mod Admission
pub mod ListedLaws
pub mod DriveLaws
