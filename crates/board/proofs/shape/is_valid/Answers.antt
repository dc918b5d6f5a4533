-- `board::shape::is_valid` meets its contract. Assumes nothing.
use borrow.Author.Tests.{le-leb, lt-leb, ne_eqb}
use Rattle.board.proofs.shape.is_valid.Goals as goal

pub returns-then-control-gt3 : goal.returns-then-control-gt3
returns-then-control-gt3 c = rw (lt-leb _ _ c.if-control-gt3.true)

pub returns-then-status-eq0 : goal.returns-then-status-eq0
returns-then-status-eq0 c = rw (le-leb _ _ c.if-control-gt3.false, c.if-status-eq0.true)

pub returns-then-status-eq2 : goal.returns-then-status-eq2
returns-then-status-eq2 c = rw (le-leb _ _ c.if-control-gt3.false, c.if-status-eq2.true)

pub returns : goal.returns
returns c = rw (le-leb _ _ c.if-control-gt3.false, ne_eqb _ _ c.if-status-eq0.false, ne_eqb _ _ c.if-status-eq2.false)
