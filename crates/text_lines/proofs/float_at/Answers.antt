-- `text_lines::float_at` meets its contract. Assumes nothing.
use lib.ListN.{get_or-eq_default}
use lib.Ieee.{binary32, of_bits}
use mathlib.Core.Path.{ap, sym, ◌∙◌}
use borrow.Author.Rules.{rules}
use Rattle.text_lines.proofs.float_at.Goals as goal

pub returns : goal.returns
returns c = c.f32_from_bits-2.ensures ∙ ap (of_bits binary32) (sym (get_or-eq_default c.args.bits.now 0 c.if-i-bits.false))
