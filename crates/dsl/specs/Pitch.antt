-- How a pitch is read: "a constant pitch .. is that number at every frame"; "A score now names a hop h from 1 to 4,096 ..: frame i of a curve reads the value at offset + i / h, cut."
use Rattle.std.specs.Prelude.{ℕ, ◌+◌, ◌-◌, ◌/◌, ◌^◌, ◌≤◌, ◌≡◌, List, [], ◌∷◌, ◌++◌, Bool, true, false, not, get_or, replicate, ltb, Float}
use Rattle.std.specs.Float.{nan}
use Rattle.dsl.specs.declared.pitch.Pitch.{Pitch}
use Rattle.dsl.specs.declared.pitch.Pitch.TheVariants.{Const, Curve}
use Rattle.dsl.specs.declared.pitch.Reading.{Reading}

unfoldable pub is_curve : Pitch → Bool
is_curve (Const x) = false
is_curve (Curve offset) = true

-- value k of a pitch: of a curve the one k places on from its offset
unfoldable pub value_at : Pitch → List Float → ℕ → Float
value_at (Const x) lane k = x
value_at (Curve offset) lane k = get_or lane (offset + k) nan

-- A pitch as it is read at the hop h. The last field is a help for the code, which has no division in its loops: 2^40 / h, rounded up.
abbrev pub reading : Pitch → ℕ → Reading
reading p h = record { pitch = p; hop = h; inverse = (2 ^ 40 + (h - 1)) / h }

-- the pitch at frame i
unfoldable pub pitch_at : Reading → List Float → ℕ → Float
pitch_at r lane i = value_at r.pitch lane (i / r.hop)

-- "offset + (length − 1) / h, cut, against the lane's last place; an empty lane has none": whether n frames of a pitch, read at the hop h, pass the end of a lane of l values
abbrev pub passes : Pitch → ℕ → ℕ → ℕ → Bool
passes (Const x) h l n = false
passes (Curve offset) h l n = not (ltb (offset + (n - 1) / h) l)

-- a reading at a hop of the domain, of which n frames, no more than a call has, stay within a lane of l values
pub record reaches (r : Reading) (l n : ℕ) : Type 0 where
  pub is : r ≡ reading r.pitch r.hop
  pub least : 1 ≤ r.hop
  pub most : r.hop ≤ 4096
  pub few : n ≤ 16777216
  pub within : passes r.pitch r.hop l n ≡ false

-- "For other h the Rust is given the widened curve": each value h times
unfoldable pub widened : ℕ → List Float → List Float
widened h [] = []
widened h (x ∷ xs) = replicate h x ++ widened h xs
