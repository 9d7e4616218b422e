pub mod Cells
pub mod After
pub mod Tick
