-- `text_digits::expect` meets its contract. Assumes nothing.
use Rattle.text_digits.proofs.Reading.{byte_none, byte_same, byte_other}
use Rattle.text_digits.proofs.expect.Goals as goal

pub returns-then-s-at : goal.returns-then-s-at
returns-then-s-at c = byte_same _ _ _ c.if-at-s.true c.if-s-at.true

pub returns-else-s-at : goal.returns-else-s-at
returns-else-s-at c = byte_other _ _ _ c.if-at-s.true c.if-s-at.false

pub returns : goal.returns
returns c = byte_none _ _ _ c.if-at-s.false
