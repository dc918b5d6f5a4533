-- `dsl::note::tuned` meets its contract. Assumes nothing.
use borrow.Author.Rules.{rules}
use mathlib.Core.Path.{sym, ◌∙◌}
use Rattle.dsl.proofs.note.tuned.Goals as goal

pub returns-in-Some : goal.returns-in-Some
returns-in-Some c = rw (sym c.quarter_tone.ensures ∙ c.in-Some.is, c.f32_from_bits-gain.ensures)

pub returns-in-None : goal.returns-in-None
returns-in-None c = rw (sym c.quarter_tone.ensures ∙ c.in-None.is, c.f32_from_bits-gain.ensures)
