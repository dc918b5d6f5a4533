-- Whether a beat is reduced never shows in `to_f64`: a fraction of whole numbers below 2^53 is the same f64 in any terms. Assumes nothing.
use Rattle.std.proofs.Common.{◌≡◌, ℕ, zero, suc, ◌*◌, ◌^◌, ◌<◌, ◌≤◌, Bool, true, false, ℤ, pos, negsuc, ◌*ℤ◌, neg_ℤ, nat_abs, sym, refl, ap, ◌∙◌, mul-pos, mul-one, arith}
use lib.Signed.{non_neg}
use lib.Ieee.{binary64, round, div, of_int}
use lib.Ieee.Back.{round_whole}
use lib.Ieee.Scale.{round_same}
use Rattle.ieee.specs.Numbers64.{f64}
use Rattle.ieee.specs.Binary64.{◌⧄◌}
use Rattle.ieee.proofs.Value.{div_value}
use Rattle.beat.specs.Beat.{beat64, Reduced}
use Rattle.beat.specs.declared.beat.Beat.{Beat}
use Rattle.beat.proofs.Lowest.{size_neg}

module _ (s : Bool) (a b c d : ℕ) (ha : a ≤ 2 ^ 53) (hb : b ≤ 2 ^ 53) (hc : c ≤ 2 ^ 53) (hd : d ≤ 2 ^ 53) (pb : 0 < b) (pd : 0 < d) (same : a * d ≡ c * b) where
  same_quotient : div binary64 (round binary64 s a 1) (round binary64 false b 1) ≡ div binary64 (round binary64 s c 1) (round binary64 false d 1)
  same_quotient =
      let one : 0 < 1 = omega arith in
      let p = div_value binary64 (round binary64 s a 1) (round binary64 false b 1) s false a 1 b 1 one pb one (round_whole binary64 s a ha) (round_whole binary64 false b hb) in
      let q = div_value binary64 (round binary64 s c 1) (round binary64 false d 1) s false c 1 d 1 one pd one (round_whole binary64 s c hc) (round_whole binary64 false d hd) in
      p ∙ round_same binary64 _ (a * 1) (b * 1) (c * 1) (d * 1) (rw mul-one pb) (rw mul-one pd) (rw (mul-one a, mul-one b, mul-one c, mul-one d) same) ∙ sym q

pub sign_neg : (x : ℕ) → 0 < x → non_neg (neg_ℤ (pos x)) ≡ false
sign_neg zero h = absurd (omega arith)
sign_neg (suc x) h = refl

pub clash : true ≡ false → ⊥
clash e = let z : ◌≡◌ {A = ℕ} 0 1 = cc in omega arith

-- one fraction in two terms, of one sign
same_terms :
    (p q : ℤ) (b d : ℕ) → nat_abs p ≤ 1000000000 → nat_abs q ≤ 1000000000 → b < 4294967296 → d < 4294967296 → 0 < b → 0 < d →
    p *ℤ pos d ≡ q *ℤ pos b → of_int binary64 p ⧄ f64 b ≡ of_int binary64 q ⧄ f64 d
unfolding of_int
same_terms (pos m) (pos n) b d hp hq hb hd B D e = same_quotient false m b n d (omega arith) (omega arith) (omega arith) (omega arith) B D (ap nat_abs e)
same_terms (pos m) (negsuc n) b d hp hq hb hd B D e = absurd (clash (ap non_neg e ∙ sign_neg (suc n * b) (mul-pos (omega arith) B)))
same_terms (negsuc m) (pos n) b d hp hq hb hd B D e = absurd (clash (sym (ap non_neg e) ∙ sign_neg (suc m * d) (mul-pos (omega arith) D)))
same_terms (negsuc m) (negsuc n) b d hp hq hb hd B D e =
    same_quotient true (suc m) b (suc n) d (omega arith) (omega arith) (omega arith) (omega arith) B D (sym (size_neg (suc m * d)) ∙ ap nat_abs e ∙ size_neg (suc n * b))

-- for numerators that 31 passes
pub reduced_same : (num : ℤ) (den : ℕ) (b : Beat) → nat_abs num ≤ 1000000000 → 0 < den → den < 4294967296 → Reduced num den b → beat64 b ≡ beat64 (record { num = num; den = den })
unfolding beat64
reduced_same num den b h p l r =
    same_terms b.num num b.den den (omega (arith, r.num_most)) h (omega (arith, r.den_most)) l r.positive p r.same
