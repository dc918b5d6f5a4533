pub mod TextSheet
