-- The digits of a number brought to a known place by a shift that `leading_zeros` gives. Assumes nothing.
use Rattle.std.proofs.Common.{◌≡◌, ℕ, suc, ◌+◌, ◌-◌, ◌*◌, ◌^◌, ◌<◌, ◌≤◌, sym, ap, ◌∙◌, subst, le_trans, le_of_eq, lt_of_lt_of_le, lt_of_le_of_lt, lt_irrefl, mul-le-mul_right, lt_of_not-le}
use Rattle.std.proofs.Common.{arith, pow_mono, pow-add, shl_lt}
use lib.Count.{count_leading_zeros, leading_top}

-- q has at most n digits. Shifted left by its leading zeros less c, its leading digit is at place 63 - c
pub record Placed (n c q : ℕ) : Type 0 where
  pub least : 64 - n ≤ count_leading_zeros 64 q
  pub most : count_leading_zeros 64 q ≤ 63
  pub low : 2 ^ (63 - c) ≤ q * 2 ^ (count_leading_zeros 64 q - c)
  pub high : q * 2 ^ (count_leading_zeros 64 q - c) < 2 ^ (64 - c)

pub placed : (n c q : ℕ) → n + c ≤ 64 → 0 < q → q < 2 ^ n → Placed n c q
placed n c q w P h =
    let z = count_leading_zeros 64 q in
    let t = leading_top 64 q P (lt_of_lt_of_le h (pow_mono {j = 64} (omega arith))) in
    let j = t.0 in
    let e : z + suc j ≡ 64 = t.1 in
    let J : j < n = below j (lt_of_le_of_lt t.2 h) in
    let at : j + (z - c) ≡ 63 - c = omega arith in
    let past : suc j + (z - c) ≡ 64 - c = omega arith in
    record {
      least = omega arith;
      most = omega arith;
      low = le_trans (le_of_eq (ap (λ (i : ℕ). 2 ^ i) (sym at) ∙ pow-add 2 j (z - c))) (mul-le-mul_right (2 ^ (z - c)) t.2);
      high = subst (λ (i : ℕ). q * 2 ^ (z - c) < 2 ^ i) past (shl_lt (suc j) (z - c) t.3);
    }
  where
    below : (j : ℕ) → 2 ^ j < 2 ^ n → j < n
    below j l = lt_of_not-le (λ (g : n ≤ j). lt_irrefl (2 ^ j) (lt_of_lt_of_le l (pow_mono g)))
