-- the end of the drive
pub mod DriveEnd
