pub mod KitDraws
