-- The loops of `voice_strings::strings_note`.
use Prim.Native.Nat.{◌-◌}
use mathlib.Core.Path.{◌≡◌, refl, ◌∙◌}
use native.Mathlib.Omega.{arith}
use borrow.Author.Rules.{rules}
use lib.ListN.{length}
use Rattle.laws.proofs.Fill.{Filled, filled_none, filled_frames, filled_length}
use Rattle.dsl.specs.Pitch.{pitch_at}
use Rattle.dsl.proofs.Reach.{reaches_less}
use Rattle.ieee.specs.Numbers.{c0·12}
use Rattle.frame_block.specs.Decay.{decay_at}
use Rattle.voice_strings.specs.Block.{strings_by}
use Rattle.voice_strings.proofs.Strings.{by_swells}
use Rattle.voice_strings.proofs.strings_note.Given as goal

abbrev pub invariant-loop-i : goal.invariant-loop-i
invariant-loop-i l = (length l.e ≡ 64) × Filled (λ i. strings_by (decay_at l.srf c0·12 i) (pitch_at l.pitch l.lane i) l.srf l.lp_a)
    (λ r. r.sample) (λ r. r.state) l.initial.s l.initial.out l.i-counter l.out l.s

abbrev pub decreases-loop-i : goal.decreases-loop-i
decreases-loop-i l = length l.initial.out - l.i-counter
