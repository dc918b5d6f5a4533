-- The starred edges of 01: "Starred ones go into one theorem about the definitions". A value is written `fin s m e`, which is ± m * 2 ^ e, minus where s is true,
-- or by its f32 pattern. Assumes nothing.
use mathlib.Core.Path.{◌≡◌, refl}
use Prim.Native.Nat.{ℕ, ◌+◌, ◌^◌}
use mathlib.Core.Bool.{true, false}
use lib.IntN.{pos, negsuc}
use lib.Ieee.{Float, fin, binary32, of_bits, of_int, to_unsigned, round, sum, odd, size, add, sub, neg, mul, div, lt, le}
use Rattle.ieee.specs.Numbers.{c0, c1}
use Rattle.ieee.specs.Narrow.{narrow_of}
use Rattle.ieee.specs.Whole.{whole, round_of}
use Rattle.rng.specs.Draw.{bi_of}
use Rattle.osc.specs.Osc.{poly_blep}
use Rattle.dsl.specs.declared.kit.KitStyle.TheVariants.{Classic}
use Rattle.dsl.specs.declared.wave.SeqWave.TheVariants.{Piano}
use Rattle.dsl.specs.declared.pitch.Pitch.TheVariants.{Const}
use Rattle.dsl.specs.declared.note.SeqNote.{SeqNote}
use Rattle.dsl.specs.Sized.{c65536}
use Rattle.groove.specs.Timing.{step_dur_of, swing_delay, human_delay, human_gain, groove_of}
use Rattle.groove.specs.Length.{length_of}
use Rattle.counts.specs.Period.{period_of}
use Rattle.draws.specs.Draws.{draws_of}

-- 120
abbrev c120 : Float
c120 = of_bits binary32 0x42f00000

-- 440
abbrev c440 : Float
c440 = of_bits binary32 0x43dc0000

-- "Rate 8,000, tempo 120, 4 a beat"
abbrev dur : Float
dur = step_dur_of 8000 c120 4

abbrev note : ℕ → ℕ → SeqNote
note step len = record { step = step; len = len; pitch = Const c440; gain = c1 }

pub edges
    -- "`bi` of k = 0: −1; k = 8,388,608: 0; k = 16,777,215: 1 − 2^−23", which is 8,388,607 × 2^−23
    : (bi_of 0 ≡ fin true 1 (pos 0))
    × (bi_of 8388608 ≡ fin false 0 (pos 0))
    × (bi_of 16777215 ≡ fin false 8388607 (negsuc 22))
    -- "Period at rate 44,100: pitch 440, 100; 0, 2,205; 65,536, 2."
    × (period_of 44100 c440 ≡ 100)
    × (period_of 44100 c0 ≡ 2205)
    × (period_of 44100 c65536 ≡ 2)
    -- "Piano draws: 48,000 and 1,000 frames, 288; 44,100 and 1,000, 265; 48,000 and 100, 100."
    × (draws_of Piano Classic 48000 c440 1000 ≡ 288)
    × (draws_of Piano Classic 44100 c440 1000 ≡ 265)
    × (draws_of Piano Classic 48000 c440 100 ≡ 100)
    -- "Rate 8,000, tempo 120, 4 a beat, step 1: swing 0, start 1,000; swing 1, 1,500."
    × ((groove_of (note 1 1) c0 c0 dur).start ≡ 1000)
    × ((groove_of (note 1 1) c1 c0 dur).start ≡ 1500)
    -- "len 0: one frame."
    × (length_of 0 dur 8000 ≡ 1)
    -- "2.5 rounds to 3, −2.5 to −3": 2.5 is 5 × 2^−1
    × (round_of (fin false 5 (negsuc 0)) ≡ fin false 3 (pos 0))
    × (round_of (fin true 5 (negsuc 0)) ≡ fin true 3 (pos 0))
    -- "Narrowed: 1 + 2^−24 is 1; 1 + 3 × 2^−24 is 1 + 2^−22": in units of 2^−24 and of 2^−22
    × (narrow_of (fin false (2 ^ 24 + 1) (negsuc 23)) ≡ fin false 1 (pos 0))
    × (narrow_of (fin false (2 ^ 24 + 3) (negsuc 23)) ≡ fin false (2 ^ 22 + 1) (negsuc 21))
    -- "`poly_blep`(0, 0.25): −1"
    × (poly_blep (fin false 0 (pos 0)) (fin false 1 (negsuc 1)) ≡ fin true 1 (pos 0))
unfolding bi_of whole narrow_of poly_blep period_of draws_of step_dur_of swing_delay human_delay human_gain groove_of length_of of_bits of_int to_unsigned round sum odd size add sub neg mul div lt le
edges = (refl, refl, refl, refl, refl, refl, refl, refl, refl, refl, refl, refl, refl, refl, refl, refl, refl)
