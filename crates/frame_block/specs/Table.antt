-- A closure that gives the level of a frame, by the rule whose answers it gives.
use Rattle.std.specs.Prelude.{◌≡◌, ℕ, Float, ◌≤◌, ◌<◌}

-- `post i x` says that x is an answer at frame i: from `from` on and before `end` each is that of `by`
abbrev pub LevelsBy : (ℕ → Float → Type 0) → (ℕ → Float) → ℕ → ℕ → Type 0
LevelsBy post by from end = (i : ℕ) (x : Float) → from ≤ i → i < end → post i x → x ≡ by i
