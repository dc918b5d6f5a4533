-- `float_vectors::answer_order` meets its contract. Assumes nothing.
use Rattle.programs.proofs.Grown.{grows_then}
use Rattle.float_vectors.proofs.answer_order.Goals as goal

pub returns-in_err-answer-2 : goal.returns-in_err-answer-2
returns-in_err-answer-2 g c = grows_then _ _ _ c.answer.ensures c.answer-2.ensures

pub returns-in_err-answer-3 : goal.returns-in_err-answer-3
returns-in_err-answer-3 g c = grows_then _ _ _ (grows_then _ _ _ c.answer.ensures c.answer-2.ensures) c.answer-3.ensures

pub returns : goal.returns
returns g c =
    let min = grows_then _ _ _ c.answer.ensures c.answer-2.ensures in
    let clamp = grows_then _ _ _ min c.answer-3.ensures in
    grows_then _ _ _ clamp c.answer-4.ensures
