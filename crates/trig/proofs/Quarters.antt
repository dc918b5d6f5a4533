-- The quarter that `sin` looks up, where the number of quarter turns is known. Assumes nothing.
use Rattle.std.proofs.Common.{◌≡◌, ℕ, ℤ, sym, ◌∙◌}
use lib.Ieee.{Float, binary64, of_int, to_signed}
use Rattle.ieee.specs.Binary64.{◌⊟◌, ◌⊠◌, ◌⧄◌}
use Rattle.ieee.specs.Whole.{round_of}
use Rattle.trig.specs.Trig.{FRAC·PI·2, rem_euclid4, quadrant, sin_reduced}

-- q quarter turns, n of them after whole turns, and k for q as a float
pub quarter : (r : Float) (q : ℤ) (n : ℕ) (k : Float) → to_signed 63 (round_of (r ⧄ FRAC·PI·2)) ≡ q → rem_euclid4 q ≡ n → of_int binary64 q ≡ k → quadrant n (r ⊟ k ⊠ FRAC·PI·2) ≡ sin_reduced r
unfolding sin_reduced
quarter r q n k is rest float =
    sym ((λ i. quadrant (rem_euclid4 (is i)) (r ⊟ of_int binary64 (is i) ⊠ FRAC·PI·2)) ∙ (λ i. quadrant (rest i) (r ⊟ float i ⊠ FRAC·PI·2)))
