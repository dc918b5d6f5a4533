-- `score_verdict::notes::notes_verdict` meets its contract. Assumes nothing.
use Prim.Native.Nat.{◌-◌, ◌/◌}
use mathlib.Core.Path.{refl, ◌∙◌}
use native.Mathlib.Omega.{arith}
use lib.ListN.{length}
use Rattle.score.specs.Score.{score_of}
use Rattle.score_verdict.proofs.Verdicts.{verdict_in, all_notes}
use Rattle.outcome.proofs.First.{left_with, probed_start, probed_more, probed_here, probed_none}
use borrow.Author.Rules.{rules}
use Rattle.score_verdict.proofs.notes.notes_verdict.Goals as goal

pub loop-k-init : goal.loop-k-init
loop-k-init c = (probed_start, refl)

pub note_verdict-requires : goal.note_verdict-requires
note_verdict-requires c =
    record {
      frames = c.requires.frames;
      le_hop = c.requires.le_hop;
    }

pub returns-in_err-note_verdict : goal.returns-in_err-note_verdict
returns-in_err-note_verdict c =
    left_with _ c.from_residual.ensures.1
    ∙ all_notes (score_of c.args.seq c.args.notes.now c.args.lane.now c.args.lent) (probed_here c.loop-k.invariant.0 (omega arith) (rw c.note_at.ensures at c.in_err-note_verdict.ensures))

pub loop-k-preserved : goal.loop-k-preserved
loop-k-preserved c = (probed_more c.loop-k.invariant.0 (omega arith) (rw c.note_at.ensures at c.in_ok-note_verdict.ensures), refl)

pub returns : goal.returns
returns c = all_notes _ (probed_none c.loop-k.invariant.0 (omega arith))
