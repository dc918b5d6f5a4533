-- A product with a finite number other than 0 is a NaN only where the other factor is. Assumes nothing.
use mathlib.Core.Bool.{Bool, true, false, not, cond}
use Prim.Native.Nat.{ℕ, zero, suc, ◌+◌, ◌*◌, ◌^◌}
use lib.Dec.{T, ltb}
use lib.IntN.{ℤ, pos}
use lib.Ieee.{Float, nan, inf, fin, Format, binary64, prec, emax, low, unlike, up, down, odd, units, round, mul, of_bits, is_nan}
use Rattle.det.specs.Ln.{NEAR·2·64}

either : (b : Bool) (x y : Float) → T (not (is_nan x)) → T (not (is_nan y)) → T (not (is_nan (cond b x y)))
either true x y p q = p
either false x y p q = q

odd_number : (d : ℕ) (s : Bool) (q k l : ℕ) → T (not (is_nan (odd d s q k l)))
unfolding odd is_nan
odd_number d s zero k l = tt
odd_number d s (suc q) k l = tt

units_number : (f : Format) (s : Bool) (q k : ℕ) → T (not (is_nan (units f s q k)))
unfolding units is_nan
units_number f s q k =
    either (ltb (q * 2 ^ k) (2 ^ (low f + suc (emax f)))) (odd (suc (prec f)) s q k (low f)) (inf s)
    (odd_number (suc (prec f)) s q k (low f)) tt

round_number : (f : Format) (s : Bool) (num den : ℕ) → T (not (is_nan (round f s num den)))
unfolding round
round_number f s num den = units_number f s _ _

-- the product with a finite number other than 0, as `ln` scales a subnormal
finite : (s : Bool) (m : ℕ) (e : ℤ) → T (not (is_nan (mul binary64 (fin s m e) NEAR·2·64)))
unfolding mul of_bits
finite s m e = round_number binary64 (unlike s false) (m * up e * (0x1f_ffff_ffff_ffe7 * up (pos 11))) (down e * down (pos 11))

pub scaled_number : (x : Float) → T (not (is_nan x)) → T (not (is_nan (mul binary64 x NEAR·2·64)))
unfolding mul of_bits is_nan
scaled_number nan n = n
scaled_number (inf s) n = tt
scaled_number (fin s m e) n = finite s m e
