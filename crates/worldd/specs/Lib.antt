pub mod Grammar
pub mod Invocation
pub mod Service
pub mod Values
