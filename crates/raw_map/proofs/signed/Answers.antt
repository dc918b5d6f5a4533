-- `raw_map::signed` meets its contract. Assumes nothing.
use Rattle.std.proofs.Common.{◌+◌, ◌*◌, ◌<◌, arith}
use mir.Syntax.{w64}
use Rattle.std.proofs.lemmas.Int.{of_z-to_z}
use Rattle.raw_map.proofs.Reading.{sign_is}
use Rattle.raw_map.proofs.signed.Goals as goal

pub returns : goal.returns
returns c =
    let bound : c.args.high * 4294967296 + c.args.low < 18446744073709551616 = omega arith in
    rw (c.cast_signed.ensures, of_z-to_z w64 (c.args.high * 4294967296 + c.args.low) bound) (sign_is c.args.low c.args.high (omega arith) (omega arith))
