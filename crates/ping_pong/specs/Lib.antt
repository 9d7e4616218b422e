pub mod PingPong
pub mod View
