-- A note by a number above 255 is refused with 30, once 9 and 10 have passed it. Assumes nothing.
use Prim.Native.Nat.{ℕ, ◌≤◌}
use mathlib.Core.Path.{◌≡◌}
use mathlib.Core.Bool.{true}
use borrow.Author.Tests.{le-ltb}
use lib.Ieee.{binary32, of_bits}
use Rattle.quarter_tone.specs.Lookup.{tone_of}
use Rattle.dsl.specs.Sized.{sized_of}
use Rattle.dsl.specs.Note.{note_of}
use Rattle.outcome.specs.First.{first_of}
use Rattle.outcome.specs.declared.answer.Refusal.TheVariants.{Tone}
use Rattle.std.specs.Prelude.{Err}
use Rattle.score.specs.Score.{Score}
use Rattle.score.specs.Refusals.{note_refusal}

module _ (s : Score) (step len q gain : ℕ) where
  pub tone_refused : 256 ≤ q → step ≤ 1048575 → len ≤ 1048575 → sized_of (of_bits binary32 gain) ≡ true → note_refusal s (note_of step len 2 q gain) ≡ Err Tone
  unfolding note_of tone_of note_refusal first_of
  tone_refused above a b c = rw (le-ltb q 256 above, le-ltb 1048575 step a, le-ltb 1048575 len b, c)
