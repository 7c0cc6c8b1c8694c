pub mod Coming
pub mod Tellings
pub mod Unfit
pub mod Watching
