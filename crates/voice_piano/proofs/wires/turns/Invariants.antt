-- The loops of `voice_piano::wires::turns`.
use Rattle.std.proofs.Common.{◌≡◌, ◌-◌, ◌≤◌, length, get_or, refl, ap, ◌∙◌, arith, rules}
use lib.Ieee.{nan}
use Rattle.blocks.proofs.Rows.{Rows, rows_none, rows_more, rows_all, written_length}
use Rattle.voice_piano.proofs.Sines.{two_turns}
use Rattle.voice_piano.specs.Block.{turns_of, no_partial}
use Rattle.voice_piano.proofs.wires.turns.Given as goal

abbrev pub invariant-loop-j : goal.invariant-loop-j
invariant-loop-j l = (l.j ≤ l.count) × (length l.x ≡ 384) × Rows 2 (λ j. turns_of (get_or l.items j no_partial)) nan l.j l.x
