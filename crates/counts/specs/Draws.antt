-- The frames in which a piano draws, and those among the first that pass a test.
use Rattle.std.specs.Prelude.{ℕ, zero, suc, ◌+◌, ◌-◌, ◌*◌, ◌/◌, Bool, cond, Float}
use Rattle.std.specs.Float.Ieee.{lt}
use Rattle.ieee.specs.Numbers.{c0·006}

-- "Piano draws while frame / rate < 0.006 in f32": whether it does at the time t
abbrev pub thumps : Float → Bool
thumps t = lt t c0·006

-- p × rate / q, rounded up: the frames that lie within the first p / q seconds
abbrev pub frames_within : ℕ → ℕ → ℕ → ℕ
frames_within p q rate = (p * rate + (q - 1)) / q

abbrev pub thump_frames : ℕ → ℕ
thump_frames = frames_within 3 500

-- how many of the numbers below n pass a test
unfoldable pub passing : (ℕ → Bool) → ℕ → ℕ
passing test zero = 0
passing test (suc n) = cond (test n) (suc (passing test n)) (passing test n)
