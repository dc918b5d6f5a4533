-- `float_vectors::answer_f64` meets its contract. Assumes nothing.
use Rattle.programs.proofs.Grown.{grows_then}
use Rattle.float_vectors.proofs.answer_f64.Goals as goal

pub returns-in_err-answer-2 : goal.returns-in_err-answer-2
returns-in_err-answer-2 g c = grows_then _ _ _ c.answer.ensures c.answer-2.ensures

pub returns : goal.returns
returns g c = grows_then _ _ _ (grows_then _ _ _ c.answer.ensures c.answer-2.ensures) c.answer-3.ensures
