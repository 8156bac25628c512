-- definitions
pub mod Layout
pub mod Read
pub mod Write
pub mod Host
pub mod Fits
pub mod ReadAnswer
pub mod ByCount
pub mod WriteRows
pub mod RowLaws
pub mod Receipt
pub mod Tests
