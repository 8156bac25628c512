-- demand 3 of the exported function
pub mod Shipped
-- of the exported function in bytes
pub mod InBytes
