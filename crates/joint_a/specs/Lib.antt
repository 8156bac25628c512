-- definitions
pub mod Sheet
-- laws
pub mod SheetLaws
