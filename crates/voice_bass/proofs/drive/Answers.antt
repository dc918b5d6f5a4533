-- `voice_bass::drive` meets its contract: each call by what it ensures. Assumes nothing.
use Rattle.voice_bass.specs.Bass.{drive_of}
use borrow.Author.Rules.{rules}
use Rattle.voice_bass.proofs.drive.Goals as goal

pub returns : goal.returns
unfolding drive_of
returns c = rw (c.tanh.ensures, c.clamp_f32-drive.ensures)
