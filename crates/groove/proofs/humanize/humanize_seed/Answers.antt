-- `groove::humanize::humanize_seed` meets its contract: neither shift loses a digit. Assumes nothing.
use Rattle.std.proofs.Common.{◌≡◌, ◌*◌, ◌%◌, ◌^◌, mod-eq_of_lt, arith, rules}
use Rattle.groove.specs.Humanize.{seed_of}
use Rattle.groove.proofs.humanize.humanize_seed.Goals as goal

pub returns : goal.returns
unfolding seed_of
returns c =
    let note = c.args.note in
    let step : note.step * 2 ^ 32 % 2 ^ 64 ≡ note.step * 2 ^ 32 = mod-eq_of_lt (omega arith) in
    let len : note.len * 2 ^ 8 % 2 ^ 64 ≡ note.len * 2 ^ 8 = mod-eq_of_lt (omega arith) in
    rw (step, len, c.rotate_left-identity.ensures, c.pitch_identity.ensures)
