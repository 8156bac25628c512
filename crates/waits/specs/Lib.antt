-- definitions
pub mod Waits
-- laws
pub mod WaitsLaws
