-- `rounding::convert::pack_f32` meets its contract. Assumes nothing.
use Rattle.std.proofs.Common.{◌∙◌, rules}
use Rattle.rounding.proofs.Pack.{pack, pack_over}
use Rattle.rounding.proofs.convert.pack_f32.Goals as goal

pub returns-then-pattern-lt2139095040 : goal.returns-then-pattern-lt2139095040
returns-then-pattern-lt2139095040 c =
    let a = c.args in
    let p = c.requires in
    c.signed_f32.ensures ∙ pack a.sign a.r a.k p.1 p.2 c.if-pattern-lt2139095040.true

pub returns-else-pattern-lt2139095040 : goal.returns-else-pattern-lt2139095040
returns-else-pattern-lt2139095040 c =
    let a = c.args in
    let p = c.requires in
    c.signed_f32-else-pattern-lt2139095040.ensures ∙ pack_over a.sign a.r a.k p.1 p.2 c.if-pattern-lt2139095040.false
