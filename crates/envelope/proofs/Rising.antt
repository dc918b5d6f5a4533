-- The times of frames rise with their numbers, so that a frame before one whose time is below a bound has a time below it too. Assumes nothing.
use Rattle.std.proofs.Common.{◌≡◌, ℕ, ◌*◌, ◌^◌, ◌<◌, ◌≤◌, Bool, true, false, ◌&&◌, ◌||◌, T, eqb, ltb, sym, refl, ap, ◌∙◌, true≢false, le_trans, le_of_eq, lt_of_lt_of_le, lt_of_le_of_lt}
use Rattle.std.proofs.Common.{le_of_lt, mul-le-mul_right, zero-lt-suc, lt_of_mul-lt-mul_right, mul-lt-mul_of_pos_right, mul-pos, mul_right_comm, arith, eqb→eq, ltb→lt, ltb-true, lt-ltb}
use mathlib.Core.Bool.{false≢true}
use lib.Ieee.{Float, nan, inf, fin, binary32, up, down, lt, le, eq, round}
use lib.Ieee.Fits.{down_pos}
use lib.Ieee.Order.{round_mono}
use Rattle.ieee.specs.Numbers.{f32}
use Rattle.ieee.specs.Binary32.{◌⊘◌}
use Rattle.ieee.proofs.Value.{div_value}
use Rattle.ieee.specs.Sign.{sign_of}
use Rattle.ieee.proofs.Bounded.{round_sign}
use Rattle.dsl.specs.Domain.{Rate}
use Rattle.dsl.proofs.Exact.{f32_value, rate_value, rate_pos}

or_le : (a b : ℕ) → T (ltb a b || (eqb a b && true)) → a ≤ b
or_le a b t = go (ltb a b) (eqb a b) (ltb→lt a b) (eqb→eq a b) t
  where
    go : (x y : Bool) → (T x → a < b) → (T y → a ≡ b) → T (x || (y && true)) → a ≤ b
    go true y p q t = le_of_lt (p tt)
    go false true p q t = le_of_eq (q tt)
    go false false p q t = absurd t

-- X / D is at most Y / E, which is below P / G
crossed : (X D Y E P G : ℕ) → 0 < D → X * E ≤ Y * D → Y * G < P * E → X * G < P * D
crossed X D Y E P G pos l h =
    lt_of_mul-lt-mul_right E
    (lt_of_le_of_lt (le_of_eq (mul_right_comm X G E))
    (lt_of_le_of_lt (mul-le-mul_right G l)
    (lt_of_le_of_lt (le_of_eq (mul_right_comm Y D G))
    (lt_of_lt_of_le (mul-lt-mul_of_pos_right h pos) (le_of_eq (mul_right_comm P E D))))))

-- of two numbers that are not negative
pub le_lt : (x y z : Float) → sign_of x ≡ false → sign_of y ≡ false → T (le x y) → lt y z ≡ true → lt x z ≡ true
unfolding le lt eq
le_lt nan y z s t l h = absurd l
le_lt (inf true) y z s t l h = absurd (true≢false s)
le_lt (inf false) nan z s t l h = absurd l
le_lt (inf false) (inf true) z s t l h = absurd l
le_lt (inf false) (inf false) z s t l h = h
le_lt (inf false) (fin u n d) z s t l h = absurd l
le_lt (fin true m e) y z s t l h = absurd (true≢false s)
le_lt (fin false m e) nan z s t l h = absurd l
le_lt (fin false m e) (inf true) z s t l h = absurd l
le_lt (fin false m e) (inf false) nan s t l h = absurd (false≢true h)
le_lt (fin false m e) (inf false) (inf w) s t l h = absurd (false≢true h)
le_lt (fin false m e) (inf false) (fin w p g) s t l h = absurd (false≢true h)
le_lt (fin false m e) (fin true n d) z s t l h = absurd (true≢false t)
le_lt (fin false m e) (fin false n d) nan s t l h = h
le_lt (fin false m e) (fin false n d) (inf w) s t l h = h
le_lt (fin false m e) (fin false n d) (fin true p g) s t l h = absurd (false≢true h)
le_lt (fin false m e) (fin false n d) (fin false p g) s t l h =
    lt-ltb (m * up e * down g) (p * up g * down e)
    (crossed (m * up e) (down e) (n * up d) (down d) (p * up g) (down g) (down_pos e) (or_le (m * up e * down d) (n * up d * down e) l) (ltb-true (n * up d * down g) (p * up g * down d) h))

module _ (rate : ℕ) (r : Rate rate) where
  time_is : (i : ℕ) → i ≤ 2 ^ 24 → f32 i ⊘ f32 rate ≡ round binary32 false (i * 1) (rate * 1)
  time_is i h = div_value binary32 (f32 i) (f32 rate) false false i 1 rate 1 (zero-lt-suc 0) (rate_pos rate r) (zero-lt-suc 0) (f32_value i h) (rate_value rate r)

  plus : (i : ℕ) → i ≤ 2 ^ 24 → sign_of (f32 i ⊘ f32 rate) ≡ false
  plus i h = ap sign_of (time_is i h) ∙ round_sign binary32 false (i * 1) (rate * 1)

  rises : (i j : ℕ) → j ≤ 2 ^ 24 → i ≤ j → T (le (f32 i ⊘ f32 rate) (f32 j ⊘ f32 rate))
  rises i j h l =
      let P : 0 < rate * 1 = mul-pos (rate_pos rate r) (zero-lt-suc 0) in
      let first = time_is i (le_trans l h) in
      let second = time_is j h in
      let m : i * 1 ≤ j * 1 = omega arith in
      rw (first, second) (round_mono binary32 (i * 1) (rate * 1) (j * 1) (rate * 1) P P (mul-le-mul_right (rate * 1) m))

  pub before_true : (end : Float) (i j : ℕ) → j ≤ 2 ^ 24 → i ≤ j → lt (f32 j ⊘ f32 rate) end ≡ true → lt (f32 i ⊘ f32 rate) end ≡ true
  before_true end i j h l e = le_lt (f32 i ⊘ f32 rate) (f32 j ⊘ f32 rate) end (plus i (le_trans l h)) (plus j h) (rises i j h l) e

  pub after_false : (end : Float) (i j : ℕ) → j ≤ 2 ^ 24 → i ≤ j → lt (f32 i ⊘ f32 rate) end ≡ false → lt (f32 j ⊘ f32 rate) end ≡ false
  after_false end i j h l e = by (lt (f32 j ⊘ f32 rate) end) refl
    where
      by : (b : Bool) → lt (f32 j ⊘ f32 rate) end ≡ b → b ≡ false
      by true g = absurd (true≢false (sym (before_true end i j h l g) ∙ e))
      by false g = refl
