-- `wave_file::refusal::FileRefusal::number` meets its contract. Assumes nothing.
use borrow.Author.Rules.{rules}
use Rattle.wave_file.proofs.refusal.FileRefusal.number.Goals as goal

pub returns-in-Rate : goal.returns-in-Rate
returns-in-Rate c = rw c.in-Rate.is

pub returns-in-Frames : goal.returns-in-Frames
returns-in-Frames c = rw c.in-Frames.is

pub returns-in-Room : goal.returns-in-Room
returns-in-Room c = rw c.in-Room.is

pub returns-in-Format : goal.returns-in-Format
returns-in-Format c = rw c.in-Format.is

pub returns-in-Structure : goal.returns-in-Structure
returns-in-Structure c = rw c.in-Structure.is
