-- `text_voice_line::voice_with` meets its contract. Assumes nothing.
use borrow.Author.Rules.{rules}
use Rattle.text_voice_line.proofs.voice_with.Goals as goal

pub returns : goal.returns
returns c = rw (c.bars_of.ensures, c.bass_of.ensures, c.piano_of.ensures, c.pluck_of.ensures, c.fm_of.ensures)
