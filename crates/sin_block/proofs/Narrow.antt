-- (x + k) - k is an x that is not negative, narrowed: k is 2 ^ 29 times the power of two at or below x, and 2 ^ -97 at least. In f64,
-- x + k keeps 53 digits of which the first is k's, so x is rounded to a multiple of the last, which is the unit of x's f32; k is an even number of those units, so a tie goes the
-- same way. The difference is exact. Assumes nothing.
use mathlib.Core.Path.{◌≡◌, refl, sym, ap, ◌∙◌, subst}
use Prim.Native.Nat.{ℕ, suc, ◌+◌, ◌-◌, ◌*◌, ◌/◌, ◌%◌, ◌^◌, ◌≤◌, ◌<◌, compare}
use native.Mathlib.Nat.{mul-mul-mul_comm, le_trans, le_of_eq, lt_of_le_of_lt, mul_comm, mul_assoc, mul-pos, mul-le-mul_right, mul-lt-mul_of_pos_right, le-div_iff_mul-le, div-lt_iff_lt-mul, pow-succ'}
use native.Mathlib.Omega.{arith}
use mathlib.Core.Bool.{Bool, false}
use lib.Dec.{lit<}
use lib.Pow.{pow-add, pow_pos, pow_mono, pow-lt}
use lib.Ieee.{Float, fin, up, down, Format, binary32, binary64, prec, low, add, sub, sum, round, units}
use lib.Ieee.Fits.{round_is, two, two-le_pos, sub-fits, nearest-le, down_pos}
use lib.Ieee.Exact.{HasValue}
use lib.Ieee.Scale.{overflow, round_same}
use lib.Ieee.Nearest.{closest, closest_same}
use Rattle.ieee.specs.Narrow.{narrow_of}
use Rattle.ieee.specs.Nearest.{IsValue}
use Rattle.ieee.proofs.Value.{revalue, value_unique, add_value}
use Rattle.ieee.proofs.Digits.{size_at}
use Rattle.ieee.proofs.Units.{units_value}
use Rattle.ieee.proofs.Sums.{sub_exact}
use Rattle.ieee.proofs.Quotients.{closest_add}

-- ---- a fraction whose leading digit is known, rounded
pub round_at : (f : Format) (s : Bool) (num den k : ℕ) → 0 < den → num * 2 ^ low f < 2 ^ (prec f + k) * den → (0 < k → 2 ^ (prec f - 1 + k) * den ≤ num * 2 ^ low f)
    → round f s num den ≡ units f s (closest (num * 2 ^ low f) (den * 2 ^ k)) k
round_at f s num den k D h g =
    round_is f s num den
    ∙ ap (λ (i : ℕ). units f s (closest (num * 2 ^ low f) (den * 2 ^ i)) i)
    (size_at (prec f) (num * 2 ^ low f / den) k (two-le_pos (prec f) (two f)) ((div-lt_iff_lt-mul D).1 h) (λ p. (le-div_iff_mul-le D).1 (g p)))

narrow_at : (x : Float) (s : Bool) (a c : ℕ) → 0 < c → HasValue x s a c → narrow_of x ≡ round binary32 s a c
unfolding narrow_of
narrow_at (fin t m e) s a c C v =
    (λ i. round binary32 (v.0 i) (m * up e) (down e)) ∙ round_same binary32 s (m * up e) (down e) a c (down_pos e) C v.1
narrow_at lib.Ieee.nan s a c C v = elim v [ ]
narrow_at (lib.Ieee.inf _) s a c C v = elim v [ ]

-- ---- powers, as variables
shift : (p j d L M c : ℕ) → d + L ≡ M → 2 ^ (p + (j + d)) * (c * 2 ^ L) ≡ 2 ^ (p + j) * c * 2 ^ M
shift p j d L M c e =
    ap (λ (n : ℕ). 2 ^ n * (c * 2 ^ L)) (assoc p j d) ∙ ap (λ (n : ℕ). n * (c * 2 ^ L)) (pow-add 2 (p + j) d)
    ∙ mul-mul-mul_comm (2 ^ (p + j)) (2 ^ d) c (2 ^ L) ∙ ap (λ (n : ℕ). 2 ^ (p + j) * c * n) (sym (pow-add 2 d L) ∙ ap (λ (n : ℕ). 2 ^ n) e)
  where
    assoc : (p j d : ℕ) → p + (j + d) ≡ p + j + d
    assoc p j d = omega arith

unit : (p j c : ℕ) → 2 ^ (p + j) * c ≡ 2 ^ p * (c * 2 ^ j)
unit p j c = ap (λ (n : ℕ). n * c) (pow-add 2 p j) ∙ mul_assoc (2 ^ p) (2 ^ j) c ∙ ap (λ (n : ℕ). 2 ^ p * n) (mul_comm (2 ^ j) c)

module _ (q p j d L M : ℕ) (e : d + L ≡ M) where
  abbrev t : ℕ
  t = 2 ^ j * 2 ^ M

  summed : (q + 2 ^ p) * 2 ^ (j + d) * 2 ^ L ≡ (q + 2 ^ p) * t
  summed =
      mul_assoc (q + 2 ^ p) (2 ^ (j + d)) (2 ^ L)
      ∙ ap (λ (n : ℕ). (q + 2 ^ p) * n) (ap (λ (n : ℕ). n * 2 ^ L) (pow-add 2 j d) ∙ mul_assoc (2 ^ j) (2 ^ d) (2 ^ L) ∙ ap (λ (n : ℕ). 2 ^ j * n) (sym (pow-add 2 d L) ∙ ap (λ (n : ℕ). 2 ^ n) e))

  taken : 2 ^ (p + j) * 2 ^ M ≡ 2 ^ p * t
  taken = ap (λ (n : ℕ). n * 2 ^ M) (pow-add 2 p j) ∙ mul_assoc (2 ^ p) (2 ^ j) (2 ^ M)

  taken_le : 2 ^ (p + j) * 2 ^ M ≤ (q + 2 ^ p) * 2 ^ (j + d) * 2 ^ L
  taken_le = le_trans (le_of_eq taken) (le_trans (part q (2 ^ p) t) (le_of_eq (sym summed)))
    where
      part : (q h t : ℕ) → h * t ≤ (q + h) * t
      part q h t = omega arith

  left : (q + 2 ^ p) * 2 ^ (j + d) * 2 ^ L - 2 ^ (p + j) * 2 ^ M ≡ q * t
  left = (λ i. summed i - taken i) ∙ rest q (2 ^ p) t
    where
      rest : (q h t : ℕ) → (q + h) * t - h * t ≡ q * t
      rest q h t = omega arith

  left_low : j ≤ L → ((q + 2 ^ p) * 2 ^ (j + d) * 2 ^ L - 2 ^ (p + j) * 2 ^ M) * 2 ^ (L - j) ≡ q * (2 ^ M * 2 ^ L)
  left_low h =
      ap (λ (n : ℕ). n * 2 ^ (L - j)) left ∙ mul_assoc q t (2 ^ (L - j))
      ∙ ap (λ (n : ℕ). q * n) (ap (λ (n : ℕ). n * 2 ^ (L - j)) (mul_comm (2 ^ j) (2 ^ M)) ∙ mul_assoc (2 ^ M) (2 ^ j) (2 ^ (L - j))
      ∙ ap (λ (n : ℕ). 2 ^ M * n) (sym (pow-add 2 j (L - j)) ∙ ap (λ (n : ℕ). 2 ^ n) (back j L h)))
    where
      back : (j L : ℕ) → j ≤ L → j + (L - j) ≡ L
      back j L h = omega arith

  left_over : ((q + 2 ^ p) * 2 ^ (j + d) * 2 ^ L - 2 ^ (p + j) * 2 ^ M) * 2 ^ L ≡ q * 2 ^ j * (2 ^ M * 2 ^ L)
  left_over = ap (λ (n : ℕ). n * 2 ^ L) (left ∙ sym (mul_assoc q (2 ^ j) (2 ^ M))) ∙ mul_assoc (q * 2 ^ j) (2 ^ M) (2 ^ L)

sum_plus : (f : Format) (A B C : ℕ) → sum f false A false B C ≡ round f false (A + B) C
unfolding sum
sum_plus f A B C = refl

-- ---- x is a / c, below 2 ^ (j - 125), and from 2 ^ (j - 126) on where j is not 0
module _ (x k : Float) (a c j : ℕ) (C : 0 < c) (v : HasValue x false a c) (w : HasValue k false (2 ^ (52 + j)) (2 ^ 149))
    (least : 0 < j → 2 ^ (23 + j) * c ≤ a * 2 ^ 149) (most : a * 2 ^ 149 < 2 ^ (24 + j) * c) (J : j ≤ 149) where
  abbrev u : ℕ
  u = c * 2 ^ j

  U : 0 < u
  U = mul-pos C (pow_pos j)

  -- x in units of its f32
  abbrev q : ℕ
  q = closest (a * 2 ^ 149) u

  q_most : q ≤ 2 ^ 24
  q_most = le_trans (nearest-le (a * 2 ^ 149 / u) (compare (a * 2 ^ 149 % u * 2) u)) ((div-lt_iff_lt-mul U).1 (subst (λ (n : ℕ). a * 2 ^ 149 < n) (unit 24 j c) most))

  pub narrowed : IsValue binary32 false (q * 2 ^ j) (narrow_of x)
  narrowed =
      subst (IsValue binary32 false (q * 2 ^ j)) (sym (narrow_at x false a c C v ∙ round_at binary32 false a c j C most least))
      (units_value binary32 false q j q_most (under q j q_most J))
    where
      under : (q j : ℕ) → q ≤ 2 ^ 24 → j ≤ 149 → q * 2 ^ j < overflow binary32
      under q j h l = lt_of_le_of_lt (le_trans (mul-le-mul_right (2 ^ j) h) (le_of_eq (sym (pow-add 2 24 j)))) (pow-lt {j = 277} (few j l))
        where
          few : (j : ℕ) → j ≤ 149 → 24 + j < 277
          few j h = omega arith

  -- ---- the sum
  abbrev num : ℕ
  num = a * 2 ^ 149 + 2 ^ (52 + j) * c

  added : add binary64 x k ≡ units binary64 false (q + 2 ^ 52) (j + 925)
  added =
      add_value binary64 x k false false a c (2 ^ (52 + j)) (2 ^ 149) C (pow_pos 149) v w
      ∙ sum_plus binary64 (a * 2 ^ 149) (2 ^ (52 + j) * c) (c * 2 ^ 149)
      ∙ round_at binary64 false num (c * 2 ^ 149) (j + 925) (mul-pos C (pow_pos 149)) below (λ p. above)
      ∙ ap (λ (r : ℕ). units binary64 false r (j + 925))
      (closest_same (num * 2 ^ 1074) (c * 2 ^ 149 * 2 ^ (j + 925)) (a * 2 ^ 149 + 2 ^ 52 * u) u (mul-pos (mul-pos C (pow_pos 149)) (pow_pos (j + 925))) U scaled
      ∙ closest_add (a * 2 ^ 149) u (2 ^ 52) U refl)
    where
      double : (A P Q c : ℕ) → A < Q * c → Q ≤ P → A + P * c < 2 * P * c
      double A P Q c h g = omega (arith, mul-le-mul_right c g)

      below : num * 2 ^ 1074 < 2 ^ (53 + (j + 925)) * (c * 2 ^ 149)
      below =
          subst (λ (n : ℕ). num * 2 ^ 1074 < n) (sym (shift 53 j 925 149 1074 c refl))
          (mul-lt-mul_of_pos_right (subst (λ (n : ℕ). num < n * c) (sym (pow-succ' 2 (52 + j)) ∙ ap (λ (n : ℕ). 2 ^ n) (next j))
          (double (a * 2 ^ 149) (2 ^ (52 + j)) (2 ^ (24 + j)) c most (pow_mono (more j)))) (pow_pos 1074))
        where
          more : (j : ℕ) → 24 + j ≤ 52 + j
          more j = omega arith

          next : (j : ℕ) → suc (52 + j) ≡ 53 + j
          next j = omega arith

      above : 2 ^ (52 + (j + 925)) * (c * 2 ^ 149) ≤ num * 2 ^ 1074
      above = le_trans (le_of_eq (shift 52 j 925 149 1074 c refl)) (mul-le-mul_right (2 ^ 1074) (add_le (a * 2 ^ 149) (2 ^ (52 + j) * c)))
        where
          add_le : (m n : ℕ) → n ≤ m + n
          add_le m n = omega arith

      scaled : num * 2 ^ 1074 * u ≡ (a * 2 ^ 149 + 2 ^ 52 * u) * (c * 2 ^ 149 * 2 ^ (j + 925))
      scaled =
          mul_assoc num (2 ^ 1074) u
          ∙ (λ i. (a * 2 ^ 149 + unit 52 j c i) * (places i))
        where
          places : 2 ^ 1074 * u ≡ c * 2 ^ 149 * 2 ^ (j + 925)
          places = mul_comm (2 ^ 1074) u ∙ sym (shifted c j 149 925 1074 refl)
            where
              shifted : (c j L d M : ℕ) → d + L ≡ M → c * 2 ^ L * 2 ^ (j + d) ≡ c * 2 ^ j * 2 ^ M
              shifted c j L d M e =
                  ap (λ (n : ℕ). c * 2 ^ L * n) (pow-add 2 j d) ∙ mul-mul-mul_comm c (2 ^ L) (2 ^ j) (2 ^ d)
                  ∙ ap (λ (n : ℕ). c * 2 ^ j * n) (mul_comm (2 ^ L) (2 ^ d) ∙ sym (pow-add 2 d L) ∙ ap (λ (n : ℕ). 2 ^ n) e)

  sum_value : HasValue (add binary64 x k) false ((q + 2 ^ 52) * 2 ^ (j + 925)) (2 ^ 1074)
  sum_value =
      subst (λ (z : Float). HasValue z false ((q + 2 ^ 52) * 2 ^ (j + 925)) (2 ^ 1074)) (sym added)
      (units_value binary64 false (q + 2 ^ 52) (j + 925) (small q q_most) (under (q + 2 ^ 52) j (small q q_most) J)).is
    where
      small : (q : ℕ) → q ≤ 2 ^ 24 → q + 2 ^ 52 ≤ 2 ^ 53
      small q h = omega arith

      under : (r j : ℕ) → r ≤ 2 ^ 53 → j ≤ 149 → r * 2 ^ (j + 925) < overflow binary64
      under r j h l = lt_of_le_of_lt (le_trans (mul-le-mul_right (2 ^ (j + 925)) h) (le_of_eq (sym (pow-add 2 53 (j + 925))))) (pow-lt {j = 2098} (few j l))
        where
          few : (j : ℕ) → j ≤ 149 → 53 + (j + 925) < 2098
          few j h = omega arith

  -- ---- the difference
  pub narrow_add_sub : sub binary64 (add binary64 x k) k ≡ narrow_of x
  narrow_add_sub =
      value_unique binary64 binary32 (sub binary64 (add binary64 x k) k) (narrow_of x) false (q * 2 ^ j) (2 ^ 149) (pow_pos 149) (sub-fits binary64 (add binary64 x k) k) narrowed.held
      (revalue (sub binary64 (add binary64 x k) k) false ((q + 2 ^ 52) * 2 ^ (j + 925) * 2 ^ 149 - 2 ^ (52 + j) * 2 ^ 1074) (2 ^ 1074 * 2 ^ 149) (q * 2 ^ j) (2 ^ 149)
      (mul-pos (pow_pos 1074) (pow_pos 149)) (left_over q 52 j 925 149 1074 refl)
      (sub_exact binary64 (add binary64 x k) k ((q + 2 ^ 52) * 2 ^ (j + 925)) (2 ^ 1074) (2 ^ (52 + j)) (2 ^ 149) (pow_pos 1074) (pow_pos 149)
      sum_value w q (149 - j) (lt_of_le_of_lt q_most (lit< tt)) (low_enough j) (taken_le q 52 j 925 149 1074 refl) (left_low q 52 j 925 149 1074 refl J)))
      narrowed.is
    where
      low_enough : (j : ℕ) → 149 - j ≤ 1074
      low_enough j = omega arith
