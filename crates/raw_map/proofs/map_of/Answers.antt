-- `raw_map::map_of` meets its contract. Assumes nothing.
use Prim.Native.Nat.{◌/◌, min}
use mathlib.Core.Path.{◌≡◌}
use native.Mathlib.Omega.{arith}
use lib.ListN.{length}
use Rattle.raw_map.specs.Words.{map_of}
use Rattle.raw_map.proofs.map_of.Goals as goal

pub returns : goal.returns
unfolding map_of
returns c =
    let w = c.args.words.now in
    let k : min (min (length w / 4) 65) 64 ≡ min (length w / 4) 64 = omega arith in
    rw (c.points_in.ensures, c.min.ensures, c.min-2.ensures, k)
