-- definitions
pub mod Code
pub mod Layout
pub mod Refusal
pub mod View
pub mod Lookup
-- laws
pub mod RowLaws
pub mod Sound
