pub mod KnownFile
pub mod Opening
