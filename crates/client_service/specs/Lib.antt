pub mod Accepting
pub mod Remote
