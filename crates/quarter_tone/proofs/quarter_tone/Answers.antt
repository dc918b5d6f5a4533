-- `quarter_tone::quarter_tone` meets its contract: the code's table holds the floats of the definition's 24 highest patterns. Assumes nothing.
use borrow.Author.Tests.{lt-ltb, le-ltb}
use mathlib.Core.Path.{ap, ◌∙◌}
use Prim.Native.Nat.{◌≤◌, ◌<◌}
use lib.ListN.{drop}
use lib.Seq.{get_or-drop}
use lib.Ieee.{binary32, of_bits}
use Rattle.quarter_tone.specs.Tones.{patterns}
use Rattle.quarter_tone.specs.Lookup.{tone_of}
use Rattle.std.specs.Prelude.{Some}
use Rattle.quarter_tone.proofs.Lookup.{looked_up}
use Rattle.quarter_tone.proofs.Halving.{place, within_24, from_highest}
use borrow.Author.Rules.{rules}
use Rattle.quarter_tone.proofs.quarter_tone.Goals as goal

pub returns-then-q-lt256 : goal.returns-then-q-lt256
unfolding tone_of patterns
returns-then-q-lt256 c =
    let q = c.args.q in
    let h : q < 256 = c.if-q-lt256.true in
    let entry = looked_up (of_bits binary32) (drop 232 patterns) (place q) 0 _ (within_24 q h) ∙ ap (of_bits binary32) (get_or-drop 232 patterns (place q) 0) in
    rw (lt-ltb _ _ h) (ap Some (c.halved.ensures ∙ from_highest q h _ entry))

pub returns-else-q-lt256 : goal.returns-else-q-lt256
unfolding tone_of
returns-else-q-lt256 c = let h : 256 ≤ c.args.q = c.if-q-lt256.false in rw (le-ltb _ _ h)
