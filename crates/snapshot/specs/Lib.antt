-- definitions
pub mod Check
pub mod EventCheck
-- laws
pub mod CheckLaws
