use Rattle.std.proofs.Common.{sym, ◌∙◌}
use Rattle.dsl.proofs.Magnitude.{sized_numeric}
use Rattle.groove_vectors.proofs.replay_groove.Goals as goal

-- a sized pitch is a number
pub answer_groove-requires : goal.answer_groove-requires
answer_groove-requires g c = sized_numeric _ (sym c.is_sized.ensures ∙ c.if-is_sized.true)
