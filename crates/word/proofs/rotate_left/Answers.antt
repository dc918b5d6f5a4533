-- `word::rotate_left` meets its contract. Assumes nothing.
use Rattle.std.proofs.Common.{◌%◌, arith, rules}
use Rattle.word.proofs.Rotation.{rotation, no_rotation}
use Rattle.word.proofs.rotate_left.Goals as goal

pub returns-then-k-eq0 : goal.returns-then-k-eq0
returns-then-k-eq0 c = no_rotation c.args.x (c.args.n % 64) c.ranges.x.fits c.if-k-eq0.true

pub returns : goal.returns
returns c = rotation c.args.x (c.args.n % 64) c.ranges.x.fits (omega arith)
