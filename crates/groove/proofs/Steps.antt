-- The samples per step of the domain: a number from 7.5 to 11,520,000. Assumes nothing.
use Rattle.std.proofs.Common.{◌≡◌, ℕ, ◌*◌, ◌<◌, ◌≤◌, false, T, sym, refl, subst, le_trans, le_of_eq, lt_of_lt_of_le, zero-lt-suc, mul-le-mul, mul-pos, arith, lit<, lit≤}
use lib.Ieee.{Float, binary32, le, round, of_bits}
use lib.Ieee.Exact.{HasValue}
use lib.Ieee.Back.{round_whole}
use Rattle.ieee.specs.Numbers.{c1, c1000, f32}
use Rattle.ieee.specs.Binary32.{◌⊗◌, ◌⊘◌}
use Rattle.ieee.proofs.Value.{mul_value}
use Rattle.ieee.proofs.Exactly.{round_value}
use Rattle.ieee.proofs.Bounds.{le_at_most, le_at_least}
use Rattle.ieee.proofs.Range.{Between, between, div_at_most, div_at_least}
use Rattle.dsl.specs.Domain.{Rate}
use Rattle.groove.specs.Number.{c60}
use Rattle.groove.specs.Timing.{step_dur_of}
use Rattle.dsl.proofs.Exact.{f32_value, rate_value}

c1_value : HasValue c1 false 1 1
unfolding of_bits
c1_value = (refl, refl)

c60_value : HasValue c60 false 60 1
unfolding of_bits
c60_value = (refl, refl)

c1000_value : HasValue c1000 false 1000 1
unfolding of_bits
c1000_value = (refl, refl)

-- ---- a quotient by a number from 1 to k, where a / (c * k) and b / d are f32 values
module _ (a c b d k : ℕ) (x y : Float) (u : Between a c b d x) (v : Between 1 1 k 1 y) (A : 0 < a) (C : 0 < c) (D : 0 < d) (K : 0 < k) where
  positive : 0 < v.num
  positive = above_0 v.num v.den v.den_pos v.least
    where
      above_0 : (n e : ℕ) → 0 < e → 1 * e ≤ n * 1 → 0 < n
      above_0 n e h l = omega arith

  at_least : a * (v.num * u.den) ≤ u.num * v.den * (c * k)
  at_least = le_trans (le_of_eq (left a v.num u.den)) (le_trans (mul-le-mul u.least (up_to v.num v.den k v.most)) (le_of_eq (right u.num c k v.den)))
    where
      left : (a n D : ℕ) → a * (n * D) ≡ a * D * n
      left a n D = omega arith

      up_to : (n e k : ℕ) → n * 1 ≤ k * e → n ≤ k * e
      up_to n e k h = omega arith

      right : (N c k e : ℕ) → N * c * (k * e) ≡ N * e * (c * k)
      right N c k e = omega arith

  at_most : u.num * v.den * d ≤ b * (v.num * u.den)
  at_most = le_trans (le_of_eq (left u.num v.den d)) (le_trans (mul-le-mul u.most (from_1 v.num v.den v.least)) (le_of_eq (right b u.den v.num)))
    where
      left : (N e d : ℕ) → N * e * d ≡ N * d * e
      left N e d = omega arith

      from_1 : (n e : ℕ) → 1 * e ≤ n * 1 → e ≤ n
      from_1 n e h = omega arith

      right : (b D n : ℕ) → b * D * n ≡ b * (n * D)
      right b D n = omega arith

  div_between : HasValue (round binary32 false a (c * k)) false a (c * k) → HasValue (round binary32 false b d) false b d → Between a (c * k) b d (x ⊘ y)
  div_between low high =
      between (x ⊘ y) a (c * k) b d
      (div_at_least binary32 x y u.num u.den v.num v.den u.den_pos positive v.den_pos u.value v.value a (c * k) a (c * k) (mul-pos C K) low A at_least)
      (div_at_most binary32 x y u.num u.den v.num v.den u.den_pos positive v.den_pos u.value v.value b d b d D high at_most)

-- ---- "Tempo 1 to 1,000. Steps per beat 1 to 64."
module _ (rate : ℕ) (tempo : Float) (steps : ℕ) (r : Rate rate) (t-least : T (le c1 tempo)) (t_most : T (le tempo c1000)) (s-least : 1 ≤ steps) (s-most : steps ≤ 64) where
  per_minute : Between 480000 1 11520000 1 (f32 rate ⊗ c60)
  per_minute = record {
    num = rate * 60;
    den = 1 * 1;
    den_pos = zero-lt-suc 0;
    value =
        subst (λ (z : Float). HasValue z false (rate * 60) (1 * 1)) (sym (mul_value binary32 (f32 rate) c60 false false rate 1 60 1 (zero-lt-suc 0) (zero-lt-suc 0) (rate_value rate r) c60_value))
        (round_value binary32 false (rate * 60) 0 (lt_of_lt_of_le (small rate r.most) (lit≤ tt)) (lit≤ tt) (rate * 60) (1 * 1) (zero-lt-suc 0) refl);
    least = low rate r.least;
    most = high rate r.most;
  }
    where
      small : (rate : ℕ) → rate ≤ 192000 → rate * 60 < 11520001
      small rate h = omega arith

      low : (rate : ℕ) → 8000 ≤ rate → 480000 * (1 * 1) ≤ rate * 60 * 1
      low rate h = omega arith

      high : (rate : ℕ) → rate ≤ 192000 → rate * 60 * 1 ≤ 11520000 * (1 * 1)
      high rate h = omega arith

  tempo_between : Between 1 1 1000 1 tempo
  tempo_between = between tempo 1 1 1000 1 (le_at_least tempo c1 1 1 (zero-lt-suc 0) c1_value t-least) (le_at_most tempo c1000 1000 1 c1000_value t_most)

  steps_between : Between 1 1 64 1 (f32 steps)
  steps_between = record { num = steps; den = 1; den_pos = zero-lt-suc 0; value = f32_value steps (le_trans s-most (lit≤ tt)); least = omega arith; most = omega arith }

  per_beat : Between 480000 (1 * 1000) 11520000 1 (f32 rate ⊗ c60 ⊘ tempo)
  per_beat =
      div_between 480000 1 11520000 1 1000 (f32 rate ⊗ c60) tempo per_minute tempo_between (zero-lt-suc 479999) (zero-lt-suc 0) (zero-lt-suc 0) (zero-lt-suc 999)
      (round_value binary32 false 480 0 (lit< tt) (lit≤ tt) 480000 (1 * 1000) (zero-lt-suc 999) refl)
      (round_whole binary32 false 11520000 (lit≤ tt))

  pub step_dur_between : Between 480000 (1 * 1000 * 64) 11520000 1 (step_dur_of rate tempo steps)
  unfolding step_dur_of
  step_dur_between =
      div_between 480000 (1 * 1000) 11520000 1 64 (f32 rate ⊗ c60 ⊘ tempo) (f32 steps) per_beat steps_between (zero-lt-suc 479999) (zero-lt-suc 999) (zero-lt-suc 0) (zero-lt-suc 63)
      (round_value binary32 false 15 1 (lit< tt) (lit≤ tt) 480000 (1 * 1000 * 64) (zero-lt-suc 63999) refl)
      (round_whole binary32 false 11520000 (lit≤ tt))
