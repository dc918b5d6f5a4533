use Rattle.std.proofs.Common.{sym, ◌∙◌}
use Rattle.dsl.proofs.Magnitude.{sized_numeric}
use Rattle.groove_vectors.proofs.replay_mapped.Goals as goal

-- a sized pitch is a number
pub answer_mapped-requires-clause-numeric : goal.answer_mapped-requires-clause-numeric
answer_mapped-requires-clause-numeric g c = sized_numeric _ (sym c.is_sized.ensures ∙ c.if-is_sized.true)
