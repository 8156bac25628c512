-- the code's tests and the definition's
pub mod Tests
