-- A note by a quarter tone is the note by the number that stands in the table: whatever is made of the one is made of the other. Assumes nothing.
use Prim.Native.Nat.{ℕ, ◌<◌}
use mathlib.Core.Path.{◌≡◌}
use borrow.Author.Tests.{lt-ltb}
use Rattle.quarter_tone.specs.Tones.{pattern_at}
use Rattle.quarter_tone.specs.Lookup.{tone_of}
use Rattle.dsl.specs.Note.{note_of}

pub tone_is_number : (step len q gain : ℕ) → q < 256 → note_of step len 2 q gain ≡ note_of step len 0 (pattern_at q) gain
unfolding note_of tone_of
tone_is_number step len q gain h = rw (lt-ltb q 256 h)
