pub mod Disk
pub mod FileState
pub mod FileKept
pub mod CrashOutcome
pub mod Leaving
pub mod Fused
pub mod FourFiles
