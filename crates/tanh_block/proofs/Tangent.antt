-- Where `Inner` holds, the passes give the tangent. Assumes nothing.
use mathlib.Core.Path.{◌≡◌, refl, sym, ap, ◌∙◌}
use mathlib.Core.Bool.{Bool, true, false, not, cond, true≢false}
use mathlib.Core.List.{List}
use Prim.Native.Nat.{ℕ, ◌-◌, ◌*◌, ◌^◌, ◌≤◌, ◌<◌}
use native.Mathlib.Omega.{arith}
use lib.Dec.{T, lit≤, lit<}
use lib.Pow.{pow_pos}
use lib.ListN.{get_or}
use borrow.Author.Tests.{le-ltb}
use lib.Ieee.{Float, nan, inf, fin, binary64, of_bits, up, down, lt, is_nan}
use lib.Ieee.Exact.{HasValue}
use Rattle.laws.proofs.If.{if_false}
use Rattle.ieee.specs.Binary64.{◌⊞◌, ◌⊟◌, ◌⊠◌, ◌⧄◌}
use Rattle.ieee.specs.Narrow.{narrow_of}
use Rattle.ieee.specs.Numbers64.{d0, d0·5, d1, d2, d2^52}
use Rattle.ieee.proofs.Bounds.{AtMost, lt_at_most, at_most_lt}
use Rattle.ieee.proofs.Bounded.{Bounded, exact_dyadic, mul_bounded, value_bounded}
use Rattle.blocks.proofs.Block.{Tabled, tabled_at}
use Rattle.det.specs.Exp.{INV·LN2, EXP·MAX, EXP·MIN, exp_reduced, exp64}
use Rattle.det.specs.Low.{d1000, High}
use Rattle.det.specs.Single.{tanhf_of}
use Rattle.det.specs.Tanh.{d20, d0·25, expm1_small, magnitude_of, unit_sign, tanh_signed, tanh64}
use Rattle.det.proofs.Sums.{d1000_value}
use Rattle.tanh_block.specs.Inner.{Inner, twice, tangent_of}

d20_value : HasValue d20 false 20 1
unfolding of_bits
d20_value = (refl, refl)

d2_value : HasValue d2 false 2 1
unfolding of_bits
d2_value = (refl, refl)

inv_value : HasValue INV·LN2 false 0x17_1547_652b_82fe (2 ^ 52)
unfolding of_bits
inv_value = (refl, refl)

-- above 0 and below 20
bounded_20 : (a : Float) → lt d0 a ≡ true → lt a d20 ≡ true → Bounded a 20 1
bounded_20 nan p q = absurd (true≢false (sym (unfold lt in q)))
bounded_20 (inf true) p q = absurd (true≢false (sym (unfold lt of_bits in p)))
bounded_20 (inf false) p q = absurd (true≢false (sym (unfold lt of_bits in q)))
bounded_20 (fin true m e) p q = absurd (true≢false (sym (unfold lt of_bits in p)))
bounded_20 (fin false m e) p q = lt_at_most (fin false m e) d20 20 1 d20_value q

at_most : (y : Float) (b d : ℕ) → Bounded y b d → AtMost y b d
at_most nan b d w = w
at_most (inf s) b d w = absurd w
at_most (fin true m e) b d w = tt
at_most (fin false m e) b d w = w

-- not above 20
not_above : (a : Float) → Bounded a 20 1 → lt d20 a ≡ false
not_above nan w = absurd w
not_above (inf s) w = absurd w
not_above (fin true m e) w = unfold lt of_bits in refl
not_above (fin false m e) w = unfold lt of_bits in le-ltb _ _ (less (m * up e) (down e) w)
  where
    less : (N D : ℕ) → N * 1 ≤ 20 * D → N * 1 ≤ 5 * 2 ^ 2 * D
    less N D h = omega arith

max_passed : (v : Float) → Bounded v 40 1 → lt EXP·MAX v ≡ false
max_passed nan w = absurd w
max_passed (inf s) w = absurd w
max_passed (fin true m e) w = unfold lt of_bits in refl
max_passed (fin false m e) w = unfold lt of_bits in le-ltb _ _ (less (m * up e) (down e) w)
  where
    less : (N D : ℕ) → N * 1 ≤ 40 * D → N * 2 ^ 42 ≤ 3121657384082675 * 1 * D
    less N D h = omega arith

min_passed : (v : Float) → Bounded v 40 1 → lt v EXP·MIN ≡ false
min_passed nan w = absurd w
min_passed (inf s) w = absurd w
min_passed (fin false m e) w = unfold lt of_bits in refl
min_passed (fin true m e) w = unfold lt of_bits in le-ltb _ _ (less (m * up e) (down e) w)
  where
    less : (N D : ℕ) → N * 1 ≤ 40 * D → N * 2 ^ 39 ≤ 409641319322373 * 1 * D
    less N D h = omega arith

-- from the tests of the code's magnitude
pub inner_of :
    (x a : Float) →
    a ≡ magnitude_of x →
    lt d0 a ≡ true →
    lt a d20 ≡ true →
    lt d0 (d2 ⊠ a ⊠ INV·LN2) ≡ true →
    lt (d2 ⊠ a ⊠ INV·LN2) (d2 ⊠ a ⊠ INV·LN2 ⊞ d2^52 ⊟ d2^52 ⊞ d0·5) ≡ true →
    Inner x
inner_of x a e p q r s = record {
  above = ap (lt d0) (sym e) ∙ p;
  below = ap (λ (b : Float). lt b d20) (sym e) ∙ q;
  positive = ap (λ (b : Float). lt d0 (d2 ⊠ b ⊠ INV·LN2)) (sym e) ∙ r;
  near = ap (λ (b : Float). lt (d2 ⊠ b ⊠ INV·LN2) (d2 ⊠ b ⊠ INV·LN2 ⊞ d2^52 ⊟ d2^52 ⊞ d0·5)) (sym e) ∙ s;
}

-- and back
pub inner_tests :
    (x a : Float) →
    a ≡ magnitude_of x →
    Inner x →
    (lt d0 a ≡ true)
    × (lt a d20 ≡ true)
    × (lt d0 (d2 ⊠ a ⊠ INV·LN2) ≡ true)
    × (lt (d2 ⊠ a ⊠ INV·LN2) (d2 ⊠ a ⊠ INV·LN2 ⊞ d2^52 ⊟ d2^52 ⊞ d0·5) ≡ true)
inner_tests x a e I = (
  ap (lt d0) e ∙ I.above,
  ap (λ (b : Float). lt b d20) e ∙ I.below,
  ap (λ (b : Float). lt d0 (d2 ⊠ b ⊠ INV·LN2)) e ∙ I.positive,
  ap (λ (b : Float). lt (d2 ⊠ b ⊠ INV·LN2) (d2 ⊠ b ⊠ INV·LN2 ⊞ d2^52 ⊟ d2^52 ⊞ d0·5)) e ∙ I.near,
)

-- a number
number : (b : Bool) → T (not b) → b ≡ false
number true t = absurd t
number false t = refl

pub inner_number : (x : Float) → Inner x → T (not (is_nan x))
inner_number x I = go x I.above
  where
    go : (x : Float) → lt d0 (magnitude_of x) ≡ true → T (not (is_nan x))
    go nan h = absurd (true≢false (sym (unfold lt of_bits in h)))
    go (inf s) h = unfold is_nan in tt
    go (fin s m e) h = unfold is_nan in tt

module _ (x : Float) (I : Inner x) where
  bounded : Bounded (magnitude_of x) 20 1
  bounded = bounded_20 (magnitude_of x) I.above I.below

  twice_bounded : Bounded (twice x) 40 1
  twice_bounded =
      mul_bounded binary64 2 1 20 1 40 1 (lit< tt) (lit< tt) (lit< tt) (exact_dyadic binary64 40 0 (lit< tt) (lit≤ tt)) d2 (magnitude_of x) (lit≤ tt)
      (value_bounded 2 1 2 1 (lit< tt) d2 false d2_value (lit≤ tt)) bounded

  quotient_bounded : Bounded (twice x ⊠ INV·LN2) 60 1
  quotient_bounded =
      mul_bounded binary64 40 1 3 2 60 1 (lit< tt) (lit< tt) (lit< tt) (exact_dyadic binary64 60 0 (lit< tt) (lit≤ tt)) (twice x) INV·LN2 (lit≤ tt) twice_bounded
      (value_bounded 0x17_1547_652b_82fe (2 ^ 52) 3 2 (pow_pos 52) INV·LN2 false inv_value (lit≤ tt))

  pub inner_high : High (twice x)
  inner_high = record {
    positive = I.positive;
    below = at_most_lt (twice x ⊠ INV·LN2) d1000 60 1 1000 1 d1000_value (lit< tt) (at_most (twice x ⊠ INV·LN2) 60 1 quotient_bounded);
    near = I.near;
  }

  pub inner_exp : exp_reduced (twice x) ≡ exp64 (twice x)
  unfolding exp64
  inner_exp = if_false _ (max_passed (twice x) twice_bounded) (if_false _ (min_passed (twice x) twice_bounded) refl)

  abbrev ways : Bool → Float → Float
  ways b h =
      let e = expm1_small (twice x) in
      let q = cond b e d2 ⧄ cond b (e ⊞ d2) (h ⊞ d1) in
      unit_sign x ⊠ cond b q (d1 ⊟ q)

  both : (b : Bool) (h : Float) → ways b h ≡ cond b (let e = expm1_small (twice x) in unit_sign x ⊠ (e ⧄ (e ⊞ d2))) (unit_sign x ⊠ (d1 ⊟ d2 ⧄ (h ⊞ d1)))
  both true h = refl
  both false h = refl

  pub inner_tangent : tangent_of x (exp64 (twice x)) ≡ tanh64 x
  unfolding tangent_of tanh64 tanh_signed
  inner_tangent = if_false _ (number (is_nan x) (inner_number x I)) (if_false _ (not_above (magnitude_of x) bounded) (both (lt (magnitude_of x) d0·25) (exp64 (twice x))))

-- the passes one after another
pub tangent_composed : (f : ℕ → Float) (e wide out : List Float) (n : ℕ)
    → ((k : ℕ) → k < n → Inner (f k))
    → Tabled (λ k. exp64 (twice (f k))) nan 0 n e
    → Tabled (λ k. tangent_of (f k) (get_or e k nan)) nan 0 n wide
    → Tabled (λ k. narrow_of (get_or wide k nan)) nan 0 n out
    → Tabled (λ k. tanhf_of (f k)) nan 0 n out
tangent_composed f e wide out n inner a b c = record {
  at = λ k h l. c.at k h l ∙ ap narrow_of (tabled_at b k l ∙ ap (tangent_of (f k)) (tabled_at a k l) ∙ inner_tangent (f k) (inner k l));
}
