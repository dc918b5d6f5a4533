-- `det_vectors::answer_power` meets its contract. Assumes nothing.
use Rattle.programs.proofs.Grown.{grows_then}
use Rattle.det_vectors.proofs.answer_power.Goals as goal

pub returns : goal.returns
returns g c = grows_then _ _ _ c.answer.ensures c.answer-2.ensures
