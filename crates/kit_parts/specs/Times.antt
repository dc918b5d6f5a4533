-- A closure that gives the level of a frame at its time, by the rule whose answers it gives.
use Rattle.std.specs.Prelude.{◌≡◌, ℕ, Float, ◌≤◌, ◌<◌}
use Rattle.osc.specs.Phase.{seconds}

-- `post i t x` says that x is an answer at frame i and the time t: from `from` on and before `end` each is that of `by`
abbrev pub LevelsAs : (ℕ → Float → Float → Type 0) → (ℕ → Float) → Float → ℕ → ℕ → Type 0
LevelsAs post by srf from end = (i : ℕ) (x : Float) → from ≤ i → i < end → post i (seconds srf i) x → x ≡ by i
