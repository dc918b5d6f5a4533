-- fn expm1_small and fn tanh of det.rs.
use Rattle.std.specs.Prelude.{cond, Float}
use Rattle.std.specs.Float.{nan, binary64}
use Rattle.std.specs.Float.Ieee.{of_bits, neg, is_nan, lt}
use Rattle.ieee.specs.Binary64.{◌⊞◌, ◌⊟◌, ◌⊠◌, ◌⧄◌}
use Rattle.ieee.specs.Numbers64.{d0, d0·5, d1, d2}
use Rattle.det.specs.Exp.{exp64}

-- INV_FACT, the quotients as f64 has them; its first two are 1.0 and 0.5
-- 1.0 / 6.0
abbrev pub F3 : Float
F3 = of_bits binary64 0x3fc5_5555_5555_5555

-- 1.0 / 24.0
abbrev pub F4 : Float
F4 = of_bits binary64 0x3fa5_5555_5555_5555

-- 1.0 / 120.0
abbrev pub F5 : Float
F5 = of_bits binary64 0x3f81_1111_1111_1111

-- 1.0 / 720.0
abbrev pub F6 : Float
F6 = of_bits binary64 0x3f56_c16c_16c1_6c17

-- 1.0 / 5040.0
abbrev pub F7 : Float
F7 = of_bits binary64 0x3f2a_01a0_1a01_a01a

-- 1.0 / 40320.0
abbrev pub F8 : Float
F8 = of_bits binary64 0x3efa_01a0_1a01_a01a

-- 1.0 / 362880.0
abbrev pub F9 : Float
F9 = of_bits binary64 0x3ec7_1de3_a556_c734

-- 1.0 / 3628800.0
abbrev pub F10 : Float
F10 = of_bits binary64 0x3e92_7e4f_b778_9f5c

-- 1.0 / 39916800.0
abbrev pub F11 : Float
F11 = of_bits binary64 0x3e5a_e645_67f5_44e4

-- fn expm1_small: the loop from the last coefficient to the first, written out
unfoldable pub expm1_small : Float → Float
expm1_small x =
    x ⊠ (d1 ⊞ x ⊠ (d0·5 ⊞ x ⊠ (F3 ⊞ x ⊠ (F4 ⊞ x ⊠ (F5 ⊞ x ⊠ (F6 ⊞ x ⊠ (F7 ⊞ x ⊠ (F8 ⊞ x ⊠ (F9 ⊞ x ⊠ (F10 ⊞ x ⊠ F11))))))))))

-- 20.0 and 0.25
abbrev pub d20 : Float
d20 = of_bits binary64 0x4034_0000_0000_0000

abbrev pub d0·25 : Float
d0·25 = of_bits binary64 0x3fd0_0000_0000_0000

-- fn tanh by an exponential, from the pair (x, sign) on
unfoldable pub tanh_signed : (Float → Float) → Float → Float → Float
tanh_signed exp x sign =
    cond (lt d20 x) sign
    (cond (lt x d0·25) (let e = expm1_small (d2 ⊠ x) in sign ⊠ (e ⧄ (e ⊞ d2)))
    (sign ⊠ (d1 ⊟ d2 ⧄ (exp (d2 ⊠ x) ⊞ d1))))

-- the pair (x, sign)
abbrev pub magnitude_of : Float → Float
magnitude_of x = cond (lt x d0) (neg x) x

abbrev pub unit_sign : Float → Float
unit_sign x = cond (lt x d0) (neg d1) d1

-- fn tanh
abbrev pub tanh_by : (Float → Float) → Float → Float
tanh_by exp x = cond (is_nan x) nan (tanh_signed exp (magnitude_of x) (unit_sign x))

unfoldable pub tanh64 : Float → Float
tanh64 = tanh_by exp64
