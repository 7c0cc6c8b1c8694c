mod Kept
mod Ways
