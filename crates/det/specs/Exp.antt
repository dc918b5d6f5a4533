-- The part of det.rs from `LN2_HI` to `exp`: powers of two and the exponential, but for the scaling at k = -1023 and k = 1024, where det.rs gives 0 and
-- an infinity (`det_corners/specs/DetRs` has its own).
use Rattle.std.specs.Prelude.{◌*◌, ◌^◌, false, cond, ℤ, pos, negsuc, nat_abs, ◌+ℤ◌, ◌-ℤ◌, Float}
use Rattle.std.specs.Int.Signed.{lt_z, le_z}
use Rattle.std.specs.Float.{inf, binary64}
use Rattle.std.specs.Float.Ieee.{of_bits, lt, to_signed}
use Rattle.ieee.specs.Binary64.{◌⊞◌, ◌⊟◌, ◌⊠◌, ◌⧄◌}
use Rattle.ieee.specs.Whole.{round_of}
use Rattle.ieee.specs.Numbers64.{d0, d1, d2}

-- ln 2 in two parts
-- 6.93147180369123816490e-01
abbrev pub LN2·HI : Float
LN2·HI = of_bits binary64 0x3fe6_2e42_fee0_0000

-- 1.90821492927058770002e-10
abbrev pub LN2·LO : Float
LN2·LO = of_bits binary64 0x3dea_39ef_3579_3c76

-- 1 / ln 2. LOG2_E, 1.44269504088896340735992468100189214
abbrev pub INV·LN2 : Float
INV·LN2 = of_bits binary64 0x3ff7_1547_652b_82fe

-- fn ldexp2, with the true subnormal at -1023: 2 ^ k by its pattern, 0 below the smallest value and an infinity above the largest. From -1022 on
-- the field of the exponent is k + 1023. Below that the one digit is k + 1074 places above the smallest value's.
unfoldable pub ldexp2_of : ℤ → Float
ldexp2_of k =
    cond (lt_z (pos 1023) k) (inf false)
    (cond (lt_z k (negsuc 1021))
    (cond (lt_z k (negsuc 1073)) d0
    (of_bits binary64 (2 ^ nat_abs (k +ℤ pos 1074))))
    (of_bits binary64 (nat_abs (k +ℤ pos 1023) * 2 ^ 52)))

-- y · 2^k. 2^1024 is no f64, so "k = 1024 is done by 2^1023 and then by 2".
unfoldable pub scaled : Float → ℤ → Float
scaled y k = cond (le_z (pos 1024) k) (y ⊠ ldexp2_of (k -ℤ pos 1) ⊠ d2) (y ⊠ ldexp2_of k)

-- 1.66666666666666019037e-01
abbrev pub P1 : Float
P1 = of_bits binary64 0x3fc5_5555_5555_553e

-- -2.77777777770155933842e-03
abbrev pub P2 : Float
P2 = of_bits binary64 0xbf66_c16c_16be_bd93

-- 6.61375632143793436117e-05
abbrev pub P3 : Float
P3 = of_bits binary64 0x3f11_566a_af25_de2c

-- -1.65339022054652515390e-06
abbrev pub P4 : Float
P4 = of_bits binary64 0xbebb_bd41_c5d2_6bf1

-- 4.13813679705723846039e-08
abbrev pub P5 : Float
P5 = of_bits binary64 0x3e66_3769_72be_a4d0

-- above this the answer is an infinity: 7.09782712893383e+02
abbrev pub EXP·MAX : Float
EXP·MAX = of_bits binary64 0x4086_2e42_fefa_39e6

-- below this it is 0: -7.45133219101941e+02
abbrev pub EXP·MIN : Float
EXP·MIN = of_bits binary64 0xc087_4910_d52d_3050

-- r, which is x less k · ln 2
unfoldable pub less_ln2 : Float → Float → Float
less_ln2 x k = x ⊟ k ⊠ LN2·HI ⊟ k ⊠ LN2·LO

-- exp(r) for an r near zero
unfoldable pub exp_near : Float → Float
exp_near r =
    let t = r ⊠ r in
    let c = r ⊟ t ⊠ (P1 ⊞ t ⊠ (P2 ⊞ t ⊠ (P3 ⊞ t ⊠ (P4 ⊞ t ⊠ P5)))) in
    d1 ⊟ (r ⊠ c ⧄ (c ⊟ d2) ⊟ r)

-- k, the whole number nearest to x / ln 2
abbrev pub power_of : Float → Float
power_of x = round_of (x ⊠ INV·LN2)

-- 2^k · exp(r)
unfoldable pub exp_from : Float → Float → Float
exp_from x k = scaled (exp_near (less_ln2 x k)) (to_signed 63 k)

-- fn exp, past its two tests
unfoldable pub exp_reduced : Float → Float
exp_reduced x = exp_from x (power_of x)

-- fn exp
unfoldable pub exp64 : Float → Float
exp64 x =
    cond (lt EXP·MAX x) (inf false)
    (cond (lt x EXP·MIN) d0
    (exp_reduced x))
