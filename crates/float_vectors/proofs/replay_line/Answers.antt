-- `float_vectors::replay_line` meets its contract. Assumes nothing.
use Rattle.programs.proofs.Grown.{grows_then}
use Rattle.float_vectors.proofs.replay_line.Goals as goal

pub returns-in_err-answer_f32 : goal.returns-in_err-answer_f32
returns-in_err-answer_f32 g c = grows_then _ _ _ c.print_text.ensures.grows c.answer_f32.ensures

pub returns-in_err-answer_f64 : goal.returns-in_err-answer_f64
returns-in_err-answer_f64 g c = grows_then _ _ _ (grows_then _ _ _ c.print_text.ensures.grows c.answer_f32.ensures) c.answer_f64.ensures

pub returns-in_err-answer_cast : goal.returns-in_err-answer_cast
returns-in_err-answer_cast g c =
    let f32 = grows_then _ _ _ c.print_text.ensures.grows c.answer_f32.ensures in
    let f64 = grows_then _ _ _ f32 c.answer_f64.ensures in
    grows_then _ _ _ f64 c.answer_cast.ensures

pub returns-in_err-answer_rem : goal.returns-in_err-answer_rem
returns-in_err-answer_rem g c =
    let f32 = grows_then _ _ _ c.print_text.ensures.grows c.answer_f32.ensures in
    let f64 = grows_then _ _ _ f32 c.answer_f64.ensures in
    let cast = grows_then _ _ _ f64 c.answer_cast.ensures in
    grows_then _ _ _ cast c.answer_rem.ensures

pub returns-in_err-answer_order : goal.returns-in_err-answer_order
returns-in_err-answer_order g c =
    let f32 = grows_then _ _ _ c.print_text.ensures.grows c.answer_f32.ensures in
    let f64 = grows_then _ _ _ f32 c.answer_f64.ensures in
    let cast = grows_then _ _ _ f64 c.answer_cast.ensures in
    let rem = grows_then _ _ _ cast c.answer_rem.ensures in
    grows_then _ _ _ rem c.answer_order.ensures

pub returns : goal.returns
returns g c =
    let f32 = grows_then _ _ _ c.print_text.ensures.grows c.answer_f32.ensures in
    let f64 = grows_then _ _ _ f32 c.answer_f64.ensures in
    let cast = grows_then _ _ _ f64 c.answer_cast.ensures in
    let rem = grows_then _ _ _ cast c.answer_rem.ensures in
    let order = grows_then _ _ _ rem c.answer_order.ensures in
    grows_then _ _ _ order c.print_text-2.ensures.grows
