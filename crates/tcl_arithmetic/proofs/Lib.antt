pub mod DigitLaws
pub mod Divisions
pub mod PowerLaws
pub mod Shifts
