pub mod FreshlyServed
pub mod NotCreated
