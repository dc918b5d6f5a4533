-- `quarter_tone::quarter_tone_bits` meets its contract. Assumes nothing.
use borrow.Author.Rules.{rules}
use mathlib.Core.Path.{sym, ◌∙◌}
use Rattle.quarter_tone.proofs.Bits.{found_number, found_bits, none_found}
use Rattle.quarter_tone.proofs.quarter_tone_bits.Goals as goal

pub float_to_bits-result : goal.float_to_bits-result
float_to_bits-result c = found_number _ _ (sym c.in-Some.is ∙ c.quarter_tone.ensures)

pub returns-in-Some : goal.returns-in-Some
returns-in-Some c = found_bits _ _ (sym c.in-Some.is ∙ c.quarter_tone.ensures)

pub returns-in-None : goal.returns-in-None
returns-in-None c = none_found _ (sym c.in-None.is ∙ c.quarter_tone.ensures)
