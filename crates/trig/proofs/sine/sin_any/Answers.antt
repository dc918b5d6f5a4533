-- `trig::sine::sin_any` meets its contract. Assumes nothing.
use Rattle.std.proofs.Common.{rules}
use Rattle.trig.specs.Trig.{sin_reduced}
use Rattle.float.proofs.Signed.{back}
use Rattle.trig.proofs.sine.sin_any.Goals as goal

pub returns : goal.returns
unfolding sin_reduced
returns c =
    let q_back = back c.f64_to_i64-q.result c.f64_to_i64-q.type_inv in
    rw (
      c.by_quadrant.ensures,
      c.rem_euclid_4.ensures,
      q_back,
      c.nearest_i64_to_f64.ensures,
      q_back,
      c.f64_to_i64-q.ensures,
      c.round_f64.ensures,
    )
