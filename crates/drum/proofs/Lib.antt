mod Numbered
mod Signed32
