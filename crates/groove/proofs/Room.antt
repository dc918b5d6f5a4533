-- What the score call leans on: a note's frames lie within the output. Assumes nothing.
use Rattle.std.proofs.Common.{◌≡◌, ℕ, ◌+◌, ◌<◌, ◌≤◌, max, Bool, true, false, cond, refl, arith}
use lib.Ieee.{Float, lt, to_unsigned}
use Rattle.ieee.specs.Numbers.{f32}
use Rattle.ieee.specs.Binary32.{◌⊗◌}
use Rattle.ieee.specs.Order.{min_of}
use Rattle.dsl.specs.Domain.{Frames}
use Rattle.groove.specs.Length.{length_of, sounded_of}
use Rattle.groove.specs.Mapped.{mapped_length}
use Rattle.ieee.proofs.Bounds.{AtMost, value_at_most, lt_at_most}
use Rattle.ieee.proofs.Cut.{cut_at_most}
use Rattle.dsl.proofs.Exact.{frames_value}

-- ---- a note's length
module _ (len : ℕ) (dur : Float) (n : ℕ) where
  pub length_least : 1 ≤ length_of len dur n
  unfolding length_of
  length_least = omega arith

  module _ (h : Frames n) where
    capped : AtMost (min_of (f32 len ⊗ dur) (f32 n)) n 1
    capped = go (lt (f32 len ⊗ dur) (f32 n)) (lt_at_most (f32 len ⊗ dur) (f32 n) n 1 (frames_value n h))
      where
        go : (t : Bool) → (t ≡ true → AtMost (f32 len ⊗ dur) n 1) → AtMost (cond t (f32 len ⊗ dur) (f32 n)) n 1
        go true p = p refl
        go false p = value_at_most (f32 n) n 1 n 1 (omega arith) (frames_value n h) (omega arith)

    -- whatever the samples per step are
    pub length_most : length_of len dur n ≤ max n 1
    unfolding length_of
    length_most = under (to_unsigned 64 (min_of (f32 len ⊗ dur) (f32 n))) (cut_at_most 64 (min_of (f32 len ⊗ dur) (f32 n)) n capped)
      where
        under : (k : ℕ) → k ≤ n → max k 1 ≤ max n 1
        under k l = omega arith

-- ---- its length under a tempo map
module _ (start end n : ℕ) where
  pub mapped_least : 1 ≤ mapped_length start end n
  unfolding mapped_length
  mapped_least = omega arith

  pub mapped_most : mapped_length start end n ≤ max n 1
  unfolding mapped_length
  mapped_most = omega arith

-- ---- the frames that sound
module _ (n start length : ℕ) where
  pub sounded_le : sounded_of n start length ≤ length
  sounded_le = omega arith

  pub sounded_within : start < n → start + sounded_of n start length ≤ n
  sounded_within h = omega arith

  pub sounded_some : start < n → 1 ≤ length → 1 ≤ sounded_of n start length
  sounded_some h l = omega arith

  pub sounded_none : n ≤ start → sounded_of n start length ≡ 0
  sounded_none h = omega arith
