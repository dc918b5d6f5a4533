-- `wave_read::read::read_wave` meets its contract. Assumes nothing.
use Rattle.wave_read.proofs.Ending.{read_reach, read_broken, read_short, read_all}
use Rattle.std.proofs.Common.{◌≡◌, Err, rules}
use Rattle.wave_read.proofs.read.read_wave.Goals as goal

pub returns-then-samples-place : goal.returns-then-samples-place
returns-then-samples-place c = read_short c.find_samples.ensures _ c.in_ok-place.was c.if-samples-place.true

pub copy_samples-requires : goal.copy_samples-requires
copy_samples-requires c =
    record {
      count_in_bounds = read_reach c.find_samples.ensures _ c.in_ok-place.was;
      count_in_bounds_2 = search rules;
    }

pub returns-in_err-place : goal.returns-in_err-place
returns-in_err-place c =
    let fault : c.from_residual.result ≡ Err c.in_err-place.field-0.0 = search rules in
    rw fault (read_broken c.find_samples.ensures _ c.in_err-place.was)

pub returns : goal.returns
returns c =
    read_all c.find_samples.ensures _ c.in_ok-place.was c.if-samples-place.false c.copy_samples.ensures
