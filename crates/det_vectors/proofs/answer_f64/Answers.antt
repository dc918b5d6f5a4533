-- `det_vectors::answer_f64` meets its contract. Assumes nothing.
use Rattle.programs.proofs.Grown.{grows_then}
use Rattle.det_vectors.proofs.answer_f64.Goals as goal

pub returns-in_err-answer-2 : goal.returns-in_err-answer-2
returns-in_err-answer-2 g c = grows_then _ _ _ c.answer.ensures c.answer-2.ensures

pub returns-in_err-answer-3 : goal.returns-in_err-answer-3
returns-in_err-answer-3 g c = grows_then _ _ _ (grows_then _ _ _ c.answer.ensures c.answer-2.ensures) c.answer-3.ensures

pub returns-in_err-answer-4 : goal.returns-in_err-answer-4
returns-in_err-answer-4 g c =
    let cos = grows_then _ _ _ c.answer.ensures c.answer-2.ensures in
    let exp = grows_then _ _ _ cos c.answer-3.ensures in
    grows_then _ _ _ exp c.answer-4.ensures

pub returns : goal.returns
returns g c =
    let cos = grows_then _ _ _ c.answer.ensures c.answer-2.ensures in
    let exp = grows_then _ _ _ cos c.answer-3.ensures in
    let ln = grows_then _ _ _ exp c.answer-4.ensures in
    grows_then _ _ _ ln c.answer-5.ensures
