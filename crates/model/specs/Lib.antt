-- definitions
pub mod Code
pub mod Record
pub mod Store
pub mod Answers
pub mod Step
-- laws
pub mod StoreLaws
pub mod EnterLaws
pub mod RouteLaws
