-- `trig::sine::sin_poly` meets its contract. Assumes nothing.
use Rattle.std.proofs.Common.{refl}
use Rattle.trig.specs.Trig.{sin_poly}
use Rattle.trig.proofs.sine.sin_poly.Goals as goal

pub returns : goal.returns
unfolding sin_poly
returns c = refl
