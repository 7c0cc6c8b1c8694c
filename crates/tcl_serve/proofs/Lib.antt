mod KeptLemmas
mod SessionLemmas
mod Turning
mod LineLemmas
mod Readings
mod Written
