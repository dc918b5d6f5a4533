-- The draws of a hit, by a style that there may be and the drum's number.
use Rattle.std.specs.Prelude.{ℕ, ◌-◌, ◌^◌, ℤ, None, Option, Some}
use Rattle.dsl.specs.declared.kit.KitStyle.{KitStyle}
use Rattle.drum.specs.Drums.{drum_of}
use Rattle.kit_counts.specs.KitDraws.{kit_draws}

unfoldable pub hit_draws : Option KitStyle → ℤ → ℕ → ℕ → ℕ
hit_draws (Some style) midi rate frames = kit_draws style (drum_of midi) rate frames
hit_draws None midi rate frames = 2 ^ 64 - 1
