-- The loops of `cue_pages::sheet::put_sheet`.
use Prim.Native.Nat.{◌-◌, ◌/◌}
use mathlib.Core.Path.{◌≡◌, refl}
use native.Mathlib.Omega.{arith}
use lib.ListN.{length}
use Rattle.score.specs.Score.{score_of}
use borrow.Author.Rules.{rules}
use Rattle.cue_pages.proofs.Sheets.{Sheeting, sheeting_none, after_fits, line_room, sheeting_more, sheeting_all, call_fine}
use Rattle.cue_pages.proofs.sheet.put_sheet.Given as goal

abbrev pub invariant-loop-k : goal.invariant-loop-k
invariant-loop-k l = (Sheeting (score_of l.seq l.notes l.lane l.lent) l.draw l.initial.page l.k l.at l.first l.page) × (l.count ≡ length l.notes / 5)
