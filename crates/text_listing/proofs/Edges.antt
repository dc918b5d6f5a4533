-- 01's own listing, an R line, and frames whose bits are printed in one way: both zeros and a NaN. Assumes nothing.
use Prim.Native.Nat.{ℕ}
use Prim.Native.Char.{code}
use Prim.Native.String.{String}
use Prim.Native.String as string
use mathlib.Core.Path.{◌≡◌, refl}
use mathlib.Core.List.{List, [], ◌∷◌, ◌++◌}
use lib.Ieee.{Float, nan, is_nan, binary32, of_bits, to_bits}
use Rattle.text_listing.specs.Digits.{digit_for, last_digits, decimal_up_to, decimal_text}
use Rattle.text_listing.specs.Lines.{printed_r, frame_bits, pattern_lines, listing_of}

abbrev bytes : String → List ℕ
bytes string.[] = []
bytes (string.◌∷◌ c s) = code c ∷ bytes s

abbrev lines : List String → List ℕ
lines [] = []
lines (l ∷ ls) = bytes l ++ lines ls

-- −1
abbrev low : Float
low = of_bits binary32 0xbf800000

pub prints :
    (listing_of 0 0 (low ∷ low ∷ low ∷ low ∷ []) ≡ lines ("G\t0000000000000000\t0\n" ∷ "F\t0\tbf800000\n" ∷ "F\t1\tbf800000\n" ∷ "F\t2\tbf800000\n" ∷ "F\t3\tbf800000\n" ∷ []))
    × (listing_of 0x9e3779b97f4a7c15 100200 (of_bits binary32 0 ∷ of_bits binary32 0x80000000 ∷ nan ∷ [])
    ≡ lines ("G\t9e3779b97f4a7c15\t100200\n" ∷ "F\t0\t00000000\n" ∷ "F\t1\t80000000\n" ∷ "F\t2\t7fc00000\n" ∷ []))
    × (printed_r 15 ≡ bytes "R\t15\n")
unfolding digit_for last_digits decimal_up_to decimal_text frame_bits pattern_lines is_nan of_bits to_bits
prints = (refl, refl, refl)
