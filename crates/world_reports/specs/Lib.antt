pub mod FileReports
pub mod Texts
pub mod Copy
pub mod Figures
pub mod SalvagedWorld
pub mod DroppedFiles
pub mod TwoTries
pub mod ServerReport
pub mod Backup
pub mod NewFiles
pub mod Reports
pub mod StatusReport
pub mod Inspection
-- inside: for private functions only
pub mod Attempt
pub mod Health
