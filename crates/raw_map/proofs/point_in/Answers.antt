-- `raw_map::point_in` meets its contract. Assumes nothing.
use mir.Syntax.{w64}
use mir.Val.{SFits}
use mir.Facts.{to_z-of_z}
use Rattle.raw_map.specs.Words.{point_in}
use borrow.Author.Rules.{rules}
use Rattle.raw_map.proofs.point_in.Goals as goal

pub returns : goal.returns
unfolding point_in
returns c =
    let s : SFits w64 c.signed.result = search rules in
    rw (c.f32_from_bits.ensures, to_z-of_z s, c.signed.ensures)
