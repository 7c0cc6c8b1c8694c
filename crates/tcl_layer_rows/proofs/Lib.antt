pub mod Deleting
