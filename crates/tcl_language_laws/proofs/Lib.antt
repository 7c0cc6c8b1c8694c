mod Disciplines
mod Plainness
mod Played
