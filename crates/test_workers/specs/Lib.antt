pub mod ModelFolder
