pub mod Saved
pub mod Watched
pub mod Worlds
pub mod Series
pub mod Replaying
pub mod OpenWatched
