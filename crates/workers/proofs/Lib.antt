pub mod Numbers
mod Orders
mod AskOrders
mod AskSides
mod PlayedAsks
mod Same
mod Sides
pub mod Histories
mod Turning
pub mod Waits
mod Coverings
mod Failing
pub mod Reporting
pub mod Loggings
pub mod Imagings
mod Publishings
mod Rounding
mod Receipts
