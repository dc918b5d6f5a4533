-- `cue_line::cell::put_cell` meets its contract. Assumes nothing.
use Rattle.cue_line.proofs.cell.put_cell.Goals as goal

pub put_decimal-requires : goal.put_decimal-requires
put_decimal-requires c = rw c.in-Some.is at c.requires

pub put_byte-requires : goal.put_byte-requires
put_byte-requires c = rw c.in-None.is at c.requires

pub returns-in-Some : goal.returns-in-Some
returns-in-Some c = rw c.in-Some.is c.put_decimal.ensures

pub returns-in-None : goal.returns-in-None
returns-in-None c = rw c.in-None.is c.put_byte.ensures
