-- `trig::sine::cos_poly` meets its contract. Assumes nothing.
use Rattle.std.proofs.Common.{refl}
use Rattle.trig.specs.Trig.{cos_poly}
use Rattle.trig.proofs.sine.cos_poly.Goals as goal

pub returns : goal.returns
unfolding cos_poly
returns c = refl
