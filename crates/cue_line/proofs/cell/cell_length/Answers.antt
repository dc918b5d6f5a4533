-- `cue_line::cell::cell_length` meets its contract. Assumes nothing.
use Rattle.cue_line.proofs.cell.cell_length.Goals as goal

pub returns-in-Some : goal.returns-in-Some
returns-in-Some c = rw c.in-Some.is c.decimal_length.ensures
