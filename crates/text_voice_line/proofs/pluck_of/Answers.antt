-- `text_voice_line::pluck_of` meets its contract. Assumes nothing.
use borrow.Author.Rules.{rules}
use Rattle.text_voice_line.proofs.pluck_of.Goals as goal

pub returns : goal.returns
returns c = rw (c.float_at-4.ensures, c.float_at-3.ensures, c.float_at-2.ensures, c.float_at.ensures)
