use Rattle.std.proofs.Common.{to_z-of_z, w64, SFits}
use Rattle.beat.specs.Beat.{beat64}
use Rattle.beat.proofs.beat.Beat.to_f64.Goals as goal

pub returns : goal.returns
unfolding beat64
returns c =
    let fit : SFits w64 c.args.self.num = record { sfits = c.well_formed.0.1.1.0.1 } in
    rw (c.nearest_u64_to_f64.ensures, c.nearest_i64_to_f64.ensures, to_z-of_z fit)
