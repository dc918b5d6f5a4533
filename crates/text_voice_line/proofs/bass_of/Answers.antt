-- `text_voice_line::bass_of` meets its contract. Assumes nothing.
use borrow.Author.Rules.{rules}
use Rattle.text_voice_line.proofs.bass_of.Goals as goal

pub returns : goal.returns
returns c =
    rw (c.float_at-10.ensures, c.float_at-9.ensures, c.float_at-8.ensures, c.float_at-7.ensures, c.float_at-6.ensures)
    (rw (c.float_at-5.ensures, c.float_at-4.ensures, c.float_at-3.ensures, c.float_at-2.ensures, c.float_at.ensures))
