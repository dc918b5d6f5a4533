-- `float_vectors::answer_f32` meets its contract. Assumes nothing.
use Rattle.programs.proofs.Grown.{grows_then}
use Rattle.float_vectors.proofs.answer_f32.Goals as goal

pub returns-in_err-answer-2 : goal.returns-in_err-answer-2
returns-in_err-answer-2 g c = grows_then _ _ _ c.answer.ensures c.answer-2.ensures

pub returns-in_err-answer-3 : goal.returns-in_err-answer-3
returns-in_err-answer-3 g c = grows_then _ _ _ (grows_then _ _ _ c.answer.ensures c.answer-2.ensures) c.answer-3.ensures

pub returns-in_err-answer-4 : goal.returns-in_err-answer-4
returns-in_err-answer-4 g c =
    let trunc = grows_then _ _ _ c.answer.ensures c.answer-2.ensures in
    let round = grows_then _ _ _ trunc c.answer-3.ensures in
    grows_then _ _ _ round c.answer-4.ensures

pub returns-in_err-answer-5 : goal.returns-in_err-answer-5
returns-in_err-answer-5 g c =
    let trunc = grows_then _ _ _ c.answer.ensures c.answer-2.ensures in
    let round = grows_then _ _ _ trunc c.answer-3.ensures in
    let fract = grows_then _ _ _ round c.answer-4.ensures in
    grows_then _ _ _ fract c.answer-5.ensures

pub returns-in_err-answer-6 : goal.returns-in_err-answer-6
returns-in_err-answer-6 g c =
    let trunc = grows_then _ _ _ c.answer.ensures c.answer-2.ensures in
    let round = grows_then _ _ _ trunc c.answer-3.ensures in
    let fract = grows_then _ _ _ round c.answer-4.ensures in
    let abs = grows_then _ _ _ fract c.answer-5.ensures in
    grows_then _ _ _ abs c.answer-6.ensures

pub returns-in_err-answer-7 : goal.returns-in_err-answer-7
returns-in_err-answer-7 g c =
    let trunc = grows_then _ _ _ c.answer.ensures c.answer-2.ensures in
    let round = grows_then _ _ _ trunc c.answer-3.ensures in
    let fract = grows_then _ _ _ round c.answer-4.ensures in
    let abs = grows_then _ _ _ fract c.answer-5.ensures in
    let signum = grows_then _ _ _ abs c.answer-6.ensures in
    grows_then _ _ _ signum c.answer-7.ensures

pub returns : goal.returns
returns g c =
    let trunc = grows_then _ _ _ c.answer.ensures c.answer-2.ensures in
    let round = grows_then _ _ _ trunc c.answer-3.ensures in
    let fract = grows_then _ _ _ round c.answer-4.ensures in
    let abs = grows_then _ _ _ fract c.answer-5.ensures in
    let signum = grows_then _ _ _ abs c.answer-6.ensures in
    let sqrt = grows_then _ _ _ signum c.answer-7.ensures in
    grows_then _ _ _ sqrt c.answer-8.ensures
