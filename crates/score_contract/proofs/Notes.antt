-- The frames that one note of a score leaves, sounded or skipped. Assumes nothing.
use Prim.Native.Nat.{ℕ, ◌≤◌}
use mathlib.Core.Path.{◌≡◌, refl}
use mathlib.Core.List.{List}
use mathlib.Core.Bool.{false}
use borrow.Author.Tests.{le-leb}
use lib.Ieee.{Float}
use Rattle.laws.proofs.If.{if_true, if_false}
use Rattle.dsl.specs.declared.note.SeqNote.{SeqNote}
use Rattle.dsl.specs.declared.note.Decoded.TheVariants.{Note}
use Rattle.score.specs.Score.{Score, place, skips}
use Rattle.score_contract.specs.Frames.{samples_in, mix_note, mixed_in, with_note}

module _ (s : Score) (m : SeqNote) where
  pub skipped_frames : s.n ≤ (place s m).start → (g : ℕ) (out : List Float) → out ≡ with_note s (Note m) g out
  unfolding with_note mixed_in
  skipped_frames late g out = if_true _ (le-leb _ _ late) refl

  pub sounded_frames : skips s m ≡ false → (g : ℕ) (out : List Float) → mix_note s m (samples_in s m g) out ≡ with_note s (Note m) g out
  unfolding with_note mixed_in
  sounded_frames heard g out = if_false _ heard refl
