-- `brass_opening::opening` meets its contract. Assumes nothing.
use Rattle.brass_opening.specs.Opening.{opening_at}
use borrow.Author.Rules.{rules}
use Rattle.brass_opening.proofs.opening.Goals as goal

pub returns : goal.returns
unfolding opening_at
returns c = rw (c.exp-2.ensures, c.min_f32.ensures, c.exp.ensures, c.frame_time-t.ensures)
