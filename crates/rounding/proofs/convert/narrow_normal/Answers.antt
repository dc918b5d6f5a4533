-- `rounding::convert::narrow_normal` meets its contract: the law `narrow_normal`. Assumes nothing.
use Rattle.std.proofs.Common.{refl, ◌∙◌, rules}
use Rattle.rounding.proofs.Normal.{narrow_normal}
use Rattle.rounding.proofs.convert.narrow_normal.Goals as goal

pub returns : goal.returns
returns c = c.signed_f32.ensures ∙ narrow_normal c.args.sign c.args.magnitude c.requires.0 c.requires.1 _ refl
