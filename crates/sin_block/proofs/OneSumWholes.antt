-- The number of turns by the sum is the definition's, where the count is 0. A zero's sign is the definition's t's there and plus here, and the difference is the same. Assumes nothing.
use mathlib.Core.Path.{◌≡◌, refl, sym, ap, ◌∙◌, subst}
use mathlib.Core.Logic.{◌⊎◌, inl, inr}
use mathlib.Core.Bool.{Bool, true, false, ◌&&◌}
use Prim.Native.Nat.{ℕ, zero, suc, ◌+◌, ◌*◌, ◌^◌, ◌<◌}
use native.Mathlib.Nat.{zero-lt-suc, div-lt_iff_lt-mul, mul-pos}
use native.Mathlib.Omega.{arith}
use lib.Dec.{T, ltb}
use borrow.Author.Tests.{lt-ltb}
use lib.Ieee.{Float, binary64, of_bits, neg, add, sub, mul, fits, round, size, units, odd, sum, up, down}
use lib.Ieee.Fits.{add-fits, sub-fits, mul-fits, down_pos}
use lib.Ieee.Exact.{HasValue}
use Rattle.ieee.specs.Binary64.{◌⊞◌, ◌⊟◌, ◌⊠◌}
use Rattle.ieee.specs.Whole.{whole, exactly, round_of}
use Rattle.ieee.specs.Numbers64.{d0}
use Rattle.ieee.proofs.Value.{value_unique}
use Rattle.ieee.proofs.Exactly.{exactly_fits, exactly_value}
use Rattle.ieee.proofs.Bounded.{Exact}
use Rattle.ieee.proofs.Between.{Near, near_is}
use Rattle.trig.specs.Trig.{PI2·HI, PI2·MID, PI2·LO, INV·PI2, less_turns, reduce2pi}
use Rattle.sin_block.specs.OneSum.{d2^100, nearest_by_one_sum, SureBelow}
use Rattle.sin_block.proofs.SureBelow.{Settled, settled}
use Rattle.sin_block.proofs.Zeros.{sub_zero, add_zero}

-- ---- t is below 2^50
limit : HasValue d2^100 false (1125899906842624 * 1125899906842624) (1 * 1)
unfolding of_bits size odd
limit = (refl, refl)

limit_exact : Exact binary64 (1125899906842624 * 1125899906842624) (1 * 1)
unfolding round size units odd
limit_exact = (refl, refl)

turns : (t : Float) → SureBelow d2^100 t → Settled t 1125899906842624 1
turns t S = settled d2^100 1125899906842624 1 (zero-lt-suc 1125899906842623) (zero-lt-suc 0) limit_exact limit (omega arith) t S

few : {t : Float} (z : Settled t 1125899906842624 1) → z.k < 2 ^ 53
few z = subst (λ (n : ℕ). n < 2 ^ 53) z.near.size ((div-lt_iff_lt-mul (mul-pos (down_pos z.near.e) (zero-lt-suc 1))).1 (go (z.near.m * up z.near.e) (down z.near.e) z.below))
  where
    go : (A C : ℕ) → A * 1 < 1125899906842624 * C → A * 2 + C < 2 ^ 53 * (C * 2)
    go A C h = omega arith

-- ---- no turn, of either sign
no_turn : (d0 ⊠ PI2·HI ≡ d0) × (d0 ⊠ PI2·MID ≡ d0) × (d0 ⊠ PI2·LO ≡ d0)
unfolding mul of_bits round size units odd
no_turn = (refl, refl, refl)

no_turn_back : (neg d0 ⊠ PI2·HI ≡ neg d0) × (neg d0 ⊠ PI2·MID ≡ neg d0) × (neg d0 ⊠ PI2·LO ≡ neg d0)
unfolding mul of_bits neg round size units odd
no_turn_back = (refl, refl, refl)

turned_over : (y : Float) → y ⊟ neg d0 ≡ y ⊞ d0
unfolding sub neg of_bits
turned_over y = refl

module _ (x : Float) (fit : T (fits binary64 x)) where
  w : Float
  w = x ⊞ d0

  twice : w ⊞ d0 ≡ w
  unfolding w
  twice = go (add_zero x fit)
    where
      closed : neg d0 ⊞ d0 ⊞ d0 ≡ neg d0 ⊞ d0
      closed = unfold add neg of_bits sum round size units odd in refl

      go : (x ⊞ d0 ≡ x) ⊎ (x ≡ neg d0) → x ⊞ d0 ⊞ d0 ≡ x ⊞ d0
      go (inl e) = ap (λ (y : Float). y ⊞ d0) e
      go (inr e) = subst (λ (y : Float). y ⊞ d0 ⊞ d0 ≡ y ⊞ d0) (sym e) closed

  ahead : less_turns w d0 ≡ w
  unfolding less_turns
  ahead =
      (λ i. w ⊟ no_turn.0 i ⊟ no_turn.1 i ⊟ no_turn.2 i)
      ∙ sub_zero (w ⊟ d0 ⊟ d0) (sub-fits binary64 (w ⊟ d0) d0) ∙ sub_zero (w ⊟ d0) (sub-fits binary64 w d0) ∙ sub_zero w (unfold w in add-fits binary64 x d0)

  back : less_turns w (neg d0) ≡ w
  unfolding less_turns
  back =
      (λ i. w ⊟ no_turn_back.0 i ⊟ no_turn_back.1 i ⊟ no_turn_back.2 i)
      ∙ (λ i. turned_over (turned_over (turned_over w i) i) i)
      ∙ ap (λ (y : Float). y ⊞ d0 ⊞ d0) twice ∙ ap (λ (y : Float). y ⊞ d0) twice ∙ twice

  -- ---- from the sum's number to the definition's
  module _ (t n : Float) (fits-t : T (fits binary64 t)) (fits-n : T (fits binary64 n)) where
    number : (s : Bool) (k : ℕ) → Near t s k → k < 2 ^ 53 → HasValue n s k 1 → n ≡ round_of t
    number s k z h v = value_unique binary64 binary64 n (exactly s k 0) s k 1 (zero-lt-suc 0) fits-n (exactly_fits binary64 s k 0 h (omega arith)) v (exactly_value s k 0) ∙ near_is z binary64 fits-t h

    after : (s b : Bool) → b ≡ true → s && b ≡ s
    after true b e = e
    after false b e = refl

    same : (s : Bool) (k : ℕ) → Near t s k → k < 2 ^ 53 → HasValue n (s && ltb 0 k) k 1 → less_turns w n ≡ less_turns w (round_of t)
    unfolding neg of_bits odd
    same s (suc k) z h v = ap (less_turns w) (number s (suc k) z h (subst (λ (b : Bool). HasValue n b (suc k) 1) (after s (ltb 0 (suc k)) (lt-ltb 0 (suc k) (omega arith))) v))
    same false zero z h v = ap (less_turns w) (number false 0 z h v)
    same true zero z h v =
        ap (less_turns w) (value_unique binary64 binary64 n d0 false 0 1 (zero-lt-suc 0) fits-n (unfold fits of_bits in tt) v (unfold of_bits in (refl, refl)))
        ∙ ahead ∙ sym back ∙ ap (less_turns w) (near_is z binary64 fits-t h)

  settled_turns : SureBelow d2^100 (w ⊠ INV·PI2) → less_turns w (nearest_by_one_sum (w ⊠ INV·PI2)) ≡ less_turns w (round_of (w ⊠ INV·PI2))
  settled_turns S =
      let z = turns (w ⊠ INV·PI2) S in
      same (w ⊠ INV·PI2) (nearest_by_one_sum (w ⊠ INV·PI2)) (mul-fits binary64 w INV·PI2) (unfold nearest_by_one_sum in sub-fits binary64 _ _) z.s z.k z.near (few z) z.value

  -- adding 0 changes only a -0, and nothing in the end
  without : reduce2pi w ≡ reduce2pi x
  unfolding w
  without = go (add_zero x fit)
    where
      closed : reduce2pi (neg d0 ⊞ d0) ≡ reduce2pi (neg d0)
      closed = unfold reduce2pi less_turns whole add sub mul neg of_bits sum round size units odd in refl

      go : (x ⊞ d0 ≡ x) ⊎ (x ≡ neg d0) → reduce2pi (x ⊞ d0) ≡ reduce2pi x
      go (inl e) = ap reduce2pi e
      go (inr e) = subst (λ (y : Float). reduce2pi (y ⊞ d0) ≡ reduce2pi y) (sym e) closed

  pub reduced : SureBelow d2^100 ((x ⊞ d0) ⊠ INV·PI2) → less_turns (x ⊞ d0) (nearest_by_one_sum ((x ⊞ d0) ⊠ INV·PI2)) ≡ reduce2pi x
  unfolding w reduce2pi
  reduced S = settled_turns S ∙ without
