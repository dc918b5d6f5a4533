-- `score_verdict::notes::note_verdict` meets its contract. Assumes nothing.
use Rattle.score.specs.Refusals.{note_refusal}
use Rattle.score_verdict.proofs.Verdicts.{note_decides, untuned_decides}
use borrow.Author.Rules.{rules}
use Rattle.score_verdict.proofs.notes.note_verdict.Goals as goal

pub returns-in-Note : goal.returns-in-Note
returns-in-Note c = note_decides _ _ _ c.in-Note.is c.pitched_verdict.ensures

pub returns-in-NoTone : goal.returns-in-NoTone
returns-in-NoTone c = untuned_decides _ _ _ c.in-NoTone.is c.untuned_verdict.ensures

pub returns-in-NoKind : goal.returns-in-NoKind
unfolding note_refusal
returns-in-NoKind c = rw c.in-NoKind.is

pub pitched_verdict-requires : goal.pitched_verdict-requires
pitched_verdict-requires c =
    record {
      frames = c.requires.frames;
      le_hop = c.requires.le_hop;
    }
