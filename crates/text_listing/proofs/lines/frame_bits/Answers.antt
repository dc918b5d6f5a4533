-- `text_listing::lines::frame_bits` meets its contract. Assumes nothing.
use mathlib.Core.Path.{refl, sym, ◌∙◌}
use Rattle.laws.proofs.If.{if_true, if_false}
use Rattle.ieee.proofs.Nans.{no_nan, ne_self}
use Rattle.text_listing.specs.Lines.{frame_bits}
use Rattle.text_listing.proofs.lines.frame_bits.Goals as goal

pub returns-then-x : goal.returns-then-x
unfolding frame_bits
returns-then-x c = if_true _ (sym (ne_self c.args.x) ∙ c.if-x.true) refl

pub float_to_bits-result : goal.float_to_bits-result
float_to_bits-result c = no_nan _ c.if-x.false

pub returns : goal.returns
unfolding frame_bits
returns c = if_false _ (sym (ne_self c.args.x) ∙ c.if-x.false) refl
