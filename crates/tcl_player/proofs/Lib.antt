mod Lists
mod Played
mod Ways
mod LineLemmas
