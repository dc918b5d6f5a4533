-- The number of turns by the sum with 2^52 is the definition's, where the count is 0. Assumes nothing.
use mathlib.Core.Path.{◌≡◌, refl, sym, ap, ◌∙◌, subst}
use mathlib.Core.Bool.{Bool, true, false}
use lib.Dec.{T}
use lib.Ieee.{Float, binary64, of_bits, neg, lt, fits}
use lib.Ieee.Fits.{mul-fits, neg-fits}
use Rattle.ieee.specs.Binary64.{◌⊠◌}
use Rattle.ieee.specs.Whole.{half_up, round_of}
use Rattle.ieee.specs.Numbers64.{d0}
use Rattle.laws.proofs.If.{if_true, if_false}
use Rattle.float.proofs.Wholes.{parts, nearest_is, half_taken}
use Rattle.float.proofs.Signs.{neg_whole}
use Rattle.trig.specs.Trig.{INV·PI2, less_turns, reduce2pi}
use Rattle.sin_block.specs.Nearest.{magnitude}
use Rattle.sin_block.specs.Whole.{summed_of, nearest_by_sum, Sure}

summed_is : (a : Float) → T (fits binary64 a) → Sure a → summed_of a ≡ round_of a
unfolding summed_of of_bits
summed_is a fit S =
    let z = parts binary64 a record { positive = S.positive; below = S.below } in
    half_taken z fit (summed_of a) (nearest_is z fit) S.near

module _ (t : Float) (fit : T (fits binary64 t)) where
  same : lt d0 t ≡ true → t ≡ magnitude t
  unfolding magnitude
  same s = if_true _ s refl

  other : lt d0 t ≡ false → neg t ≡ magnitude t
  unfolding magnitude
  other s = if_false _ s refl

  above : lt d0 t ≡ true → Sure (magnitude t) → nearest_by_sum t ≡ round_of t
  unfolding nearest_by_sum
  above s S = sym (if_true _ s (sym (subst (λ (a : Float). summed_of a ≡ round_of t) (same s) (summed_is t fit (subst Sure (sym (same s)) S)))))

  below : lt d0 t ≡ false → Sure (magnitude t) → nearest_by_sum t ≡ round_of t
  unfolding nearest_by_sum
  below s S =
      sym (if_false _ s (sym (subst (λ (a : Float). neg (summed_of a) ≡ round_of t) (other s)
      (ap neg (summed_is (neg t) (neg-fits binary64 t fit) (subst Sure (sym (other s)) S)) ∙ neg_whole half_up t))))

  whole_by : (b : Bool) → lt d0 t ≡ b → Sure (magnitude t) → nearest_by_sum t ≡ round_of t
  whole_by true s S = above s S
  whole_by false s S = below s S

pub reduced : (x : Float) → Sure (magnitude (x ⊠ INV·PI2)) → less_turns x (nearest_by_sum (x ⊠ INV·PI2)) ≡ reduce2pi x
unfolding reduce2pi
reduced x S = ap (less_turns x) (whole_by (x ⊠ INV·PI2) (mul-fits binary64 x INV·PI2) (lt d0 (x ⊠ INV·PI2)) refl S)
