-- The drums of render/kit.rs: which MIDI numbers an arm of its `match midi` names. The four styles have the same arms.
use Rattle.std.specs.Prelude.{ℕ, ◌-◌, Bool, false, true, cond, List, [], ◌∷◌, eqb, ℤ, pos, negsuc}
use Rattle.ieee.specs.Numbers.{f32}
use Rattle.drum.specs.declared.Drum.{Drum}
use Rattle.drum.specs.declared.Drum.TheVariants.{Kick, Snare, Rim, Clap, ClosedHat, OpenHat, Tom, Cowbell, Crash, Ride, Unmapped}

-- 35 | 36 => ..: the number is one of a list
unfoldable pub among : List ℕ → ℕ → Bool
among [] n = false
among (m ∷ ms) n = cond (eqb n m) true (among ms n)

-- a tom holds (midi - 41) as f32
unfoldable pub drum_at : ℕ → Drum
drum_at n =
    cond (among (35 ∷ 36 ∷ []) n) Kick
    (cond (among (38 ∷ 40 ∷ []) n) Snare
    (cond (among (37 ∷ []) n) Rim
    (cond (among (39 ∷ []) n) Clap
    (cond (among (42 ∷ 44 ∷ []) n) ClosedHat
    (cond (among (46 ∷ []) n) OpenHat
    (cond (among (41 ∷ 43 ∷ 45 ∷ 47 ∷ 48 ∷ 50 ∷ []) n) (Tom (f32 (n - 41)))
    (cond (among (56 ∷ []) n) Cowbell
    (cond (among (49 ∷ 55 ∷ 57 ∷ []) n) Crash
    (cond (among (51 ∷ 53 ∷ 59 ∷ []) n) Ride
    Unmapped)))))))))

-- no arm names a number below 0
unfoldable pub drum_of : ℤ → Drum
drum_of (pos n) = drum_at n
drum_of (negsuc n) = Unmapped
