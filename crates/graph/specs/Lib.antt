-- definitions
pub mod Lowest
pub mod Form
pub mod Rules
pub mod Sets
pub mod Verdict
-- laws
pub mod Chain
pub mod Accepted
pub mod Bits
pub mod Reach
pub mod ReachLaws
pub mod FormLaws
pub mod SearchLaws
pub mod RowsOf
pub mod RulesLaws
pub mod Stages
