-- fn ln of det.rs: the natural logarithm.
use Rattle.std.specs.Prelude.{◌*◌, ◌/◌, ◌^◌, true, cond, ℤ, pos, ◌+ℤ◌, ◌-ℤ◌, Float}
use Rattle.std.specs.Int.Bits.{bit_and, bit_or}
use Rattle.std.specs.Float.{nan, inf, binary64}
use Rattle.std.specs.Float.Ieee.{of_bits, to_bits, is_nan, neg, lt, eq, of_int}
use Rattle.ieee.specs.Binary64.{◌⊞◌, ◌⊟◌, ◌⊠◌, ◌⧄◌}
use Rattle.ieee.specs.Numbers64.{d0, d0·5, d1, d2}
use Rattle.det.specs.Exp.{LN2·HI, LN2·LO}

-- 6.666666666666735130e-01
abbrev pub LG1 : Float
LG1 = of_bits binary64 0x3fe5_5555_5555_5593

-- 3.999999999940941908e-01
abbrev pub LG2 : Float
LG2 = of_bits binary64 0x3fd9_9999_9997_fa04

-- 2.857142874366239149e-01
abbrev pub LG3 : Float
LG3 = of_bits binary64 0x3fd2_4924_9422_9359

-- 2.222219843214978396e-01
abbrev pub LG4 : Float
LG4 = of_bits binary64 0x3fcc_71c5_1d8e_78af

-- 1.818357216161805012e-01
abbrev pub LG5 : Float
LG5 = of_bits binary64 0x3fc7_4664_96cb_03de

-- 1.531383769920937332e-01
abbrev pub LG6 : Float
LG6 = of_bits binary64 0x3fc3_9a09_d078_c69f

-- 1.479819860511658591e-01
abbrev pub LG7 : Float
LG7 = of_bits binary64 0x3fc2_f112_df3e_5244

-- f64::MIN_POSITIVE, 2 ^ -1022
abbrev pub MIN·POSITIVE : Float
MIN·POSITIVE = of_bits binary64 0x0010_0000_0000_0000

-- 1.84467440737095e19, which is 51,200 below 2 ^ 64
abbrev pub NEAR·2·64 : Float
NEAR·2·64 = of_bits binary64 0x43ef_ffff_ffff_ffe7

-- 64.0
abbrev pub d64 : Float
d64 = of_bits binary64 0x4050_0000_0000_0000

-- SQRT_2, 1.41421356237309504880168872420969808
abbrev pub SQRT·2 : Float
SQRT·2 = of_bits binary64 0x3ff6_a09e_667f_3bcd

-- from `let f` on: the logarithm of mant * 2 ^ (exp_bits + scale_k)
unfoldable pub ln_series : Float → ℤ → Float → Float
ln_series mant expBits scaleK =
    let f = mant ⊟ d1 in
    let s = f ⧄ (d2 ⊞ f) in
    let z = s ⊠ s in
    let w = z ⊠ z in
    let t1 = w ⊠ (LG2 ⊞ w ⊠ (LG4 ⊞ w ⊠ LG6)) in
    let t2 = z ⊠ (LG1 ⊞ w ⊠ (LG3 ⊞ w ⊠ (LG5 ⊞ w ⊠ LG7))) in
    let r = t2 ⊞ t1 in
    let hfsq = d0·5 ⊠ f ⊠ f in
    let k = of_int binary64 expBits ⊞ scaleK in
    k ⊠ LN2·HI ⊞ (f ⊟ (hfsq ⊟ (s ⊠ (hfsq ⊞ r) ⊞ k ⊠ LN2·LO)))

-- the fold: a mantissa above √2 is halved, and the exponent is one more
abbrev pub fold_mant : Float → Float
fold_mant mant = cond (lt SQRT·2 mant) (mant ⊠ d0·5) mant

abbrev pub fold_exp : Float → ℤ → ℤ
fold_exp mant expBits = cond (lt SQRT·2 mant) (expBits +ℤ pos 1) expBits

-- from `let bits` on: exponent and mantissa from the pattern
unfoldable pub ln_split : Float → Float → Float
ln_split x scaleK =
    let bits = to_bits binary64 x in
    let expBits = pos (bit_and (bits / 2 ^ 52) 0x7ff) -ℤ pos 1023 in
    let mant = of_bits binary64 (bit_or (bit_and bits 0x000f_ffff_ffff_ffff) (1023 * 2 ^ 52)) in
    ln_series (fold_mant mant) (fold_exp mant expBits) scaleK

-- fn ln
unfoldable pub ln64 : Float → Float
ln64 x =
    cond (is_nan x) nan
    (cond (lt x d0) nan
    (cond (eq x d0) (inf true)
    (cond (lt x MIN·POSITIVE) (ln_split (x ⊠ NEAR·2·64) (neg d64))
    (ln_split x d0))))
