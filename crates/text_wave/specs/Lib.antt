pub mod TextFile
