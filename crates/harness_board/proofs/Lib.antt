mod Words
mod Steps
mod Going
