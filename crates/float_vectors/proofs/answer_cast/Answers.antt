-- `float_vectors::answer_cast` meets its contract. Assumes nothing.
use Rattle.programs.proofs.Grown.{grows_then}
use Rattle.float_vectors.proofs.answer_cast.Goals as goal

pub returns-in_err-answer-2 : goal.returns-in_err-answer-2
returns-in_err-answer-2 g c =
    grows_then _ _ _ c.answer.ensures c.answer-2.ensures

pub returns-in_err-answer-3 : goal.returns-in_err-answer-3
returns-in_err-answer-3 g c =
    let narrow = grows_then _ _ _ c.answer.ensures c.answer-2.ensures in
    grows_then _ _ _ narrow c.answer-3.ensures

pub returns-in_err-answer-4 : goal.returns-in_err-answer-4
returns-in_err-answer-4 g c =
    let narrow = grows_then _ _ _ c.answer.ensures c.answer-2.ensures in
    let usize = grows_then _ _ _ narrow c.answer-3.ensures in
    grows_then _ _ _ usize c.answer-4.ensures

pub returns-in_err-answer-5 : goal.returns-in_err-answer-5
returns-in_err-answer-5 g c =
    let narrow = grows_then _ _ _ c.answer.ensures c.answer-2.ensures in
    let usize = grows_then _ _ _ narrow c.answer-3.ensures in
    let i32 = grows_then _ _ _ usize c.answer-4.ensures in
    grows_then _ _ _ i32 c.answer-5.ensures

pub returns : goal.returns
returns g c =
    let narrow = grows_then _ _ _ c.answer.ensures c.answer-2.ensures in
    let usize = grows_then _ _ _ narrow c.answer-3.ensures in
    let i32 = grows_then _ _ _ usize c.answer-4.ensures in
    let usize64 = grows_then _ _ _ i32 c.answer-5.ensures in
    grows_then _ _ _ usize64 c.answer-6.ensures
