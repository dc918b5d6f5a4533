-- `groove::length::note_len` meets its contract. Assumes nothing.
use Rattle.std.proofs.Common.{◌≡◌, ℕ, ◌<◌, ◌≤◌, max, ap, ◌∙◌, arith, le→leb, rules}
use lib.Ieee.{in_float, to_unsigned}
use Rattle.ieee.specs.Numbers.{f32}
use Rattle.ieee.specs.Binary32.{◌⊗◌}
use Rattle.ieee.specs.Order.{min_of}
use Rattle.groove.specs.Length.{length_of}
use Rattle.groove.proofs.length.note_len.Goals as goal

low : (k : ℕ) → k < 1 → 1 ≡ max k 1
low k h = omega arith

high : (k : ℕ) → 1 ≤ k → k ≡ max k 1
high k h = omega arith

pub int_to_float-n : goal.int_to_float-n
unfolding in_float
int_to_float-n c = le→leb _ _ c.requires.most

pub returns-then-frames-lt1 : goal.returns-then-frames-lt1
unfolding length_of
returns-then-frames-lt1 c =
    let frames : let a = c.args in c.f32_to_usize-frames.result ≡ to_unsigned 64 (min_of (f32 a.len ⊗ a.step_dur) (f32 a.n)) = rw (
      c.f32_to_usize-frames.ensures,
      c.min_f32.ensures,
      c.nearest_u32_to_f32.ensures,
    ) in
    low _ c.if-frames-lt1.true ∙ ap (λ (k : ℕ). max k 1) frames

pub returns-else-frames-lt1 : goal.returns-else-frames-lt1
unfolding length_of
returns-else-frames-lt1 c =
    let frames : let a = c.args in c.f32_to_usize-frames.result ≡ to_unsigned 64 (min_of (f32 a.len ⊗ a.step_dur) (f32 a.n)) = rw (
      c.f32_to_usize-frames.ensures,
      c.min_f32.ensures,
      c.nearest_u32_to_f32.ensures,
    ) in
    high _ c.if-frames-lt1.false ∙ ap (λ (k : ℕ). max k 1) frames
