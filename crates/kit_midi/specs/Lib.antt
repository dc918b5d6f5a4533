pub mod Midi
