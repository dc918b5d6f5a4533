mod Sounding
mod Order
