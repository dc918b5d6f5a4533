mod Built
mod Sound
mod Sines
