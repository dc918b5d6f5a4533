-- A frame of a pulse at no jump is its level: both residuals are 0. Assumes nothing.
use mathlib.Core.Path.{◌≡◌, refl}
use mathlib.Core.Bool.{Bool, true, false, cond}
use lib.Ieee.{Float, lt, le, neg, add, sub, round, size, units, odd, sum, of_bits}
use Rattle.ieee.specs.Numbers.{c0, c1}
use Rattle.ieee.specs.Binary32.{◌⊕◌, ◌⊖◌}
use Rattle.osc.specs.Osc.{poly_blep}
use Rattle.voice_waves.specs.Pulse.{pulse_level, pulse_of}

either : {A : Type 0} (b : Bool) (x : A) → cond b x x ≡ x
either true x = refl
either false x = refl

-- the residual at no jump
blep_none : (t dt : Float) → lt t dt ≡ false → lt (c1 ⊖ dt) t ≡ false → poly_blep t dt ≡ c0
unfolding poly_blep
blep_none t dt p q = rw (p, q) (either (le dt c0) c0)

kept : (b : Bool) → cond b c1 (neg c1) ⊕ c0 ⊖ c0 ≡ cond b c1 (neg c1)
unfolding add sub neg round size units odd sum of_bits
kept true = refl
kept false = refl

pub pulse_level_lem : (phase duty second dt : Float)
    → lt phase dt ≡ false → lt (c1 ⊖ dt) phase ≡ false → lt second dt ≡ false → lt (c1 ⊖ dt) second ≡ false → pulse_level phase duty ≡ pulse_of phase duty second dt
unfolding pulse_level pulse_of
pulse_level_lem phase duty second dt p q r s = rw (blep_none phase dt p q, blep_none second dt r s, kept (lt phase duty))
