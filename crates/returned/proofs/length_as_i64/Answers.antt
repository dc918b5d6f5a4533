-- `returned::length_as_i64` meets its contract. Assumes nothing.
use mir.Facts.{to_z-of_z}
use mir.Val.{SFits}
use mir.Syntax.{w64}
use lib.IntN.{pos}
use borrow.Author.Rules.{rules}
use Rattle.returned.proofs.length_as_i64.Goals as goal

pub overflow_cast-result : goal.overflow_cast-result
overflow_cast-result c = search rules

pub returns : goal.returns
returns c = let fits : SFits w64 (pos c.args.length) = search rules in to_z-of_z fits
