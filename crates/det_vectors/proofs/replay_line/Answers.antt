-- `det_vectors::replay_line` meets its contract. Assumes nothing.
use Rattle.programs.proofs.Grown.{grows_then}
use Rattle.det_vectors.proofs.replay_line.Goals as goal

pub returns-in_err-answer_f64 : goal.returns-in_err-answer_f64
returns-in_err-answer_f64 g c = grows_then _ _ _ c.print_text.ensures.grows c.answer_f64.ensures

pub returns-in_err-answer_f32 : goal.returns-in_err-answer_f32
returns-in_err-answer_f32 g c = grows_then _ _ _ (grows_then _ _ _ c.print_text.ensures.grows c.answer_f64.ensures) c.answer_f32.ensures

pub returns-in_err-answer_power : goal.returns-in_err-answer_power
returns-in_err-answer_power g c =
    let f64 = grows_then _ _ _ c.print_text.ensures.grows c.answer_f64.ensures in
    let f32 = grows_then _ _ _ f64 c.answer_f32.ensures in
    grows_then _ _ _ f32 c.answer_power.ensures

pub returns : goal.returns
returns g c =
    let f64 = grows_then _ _ _ c.print_text.ensures.grows c.answer_f64.ensures in
    let f32 = grows_then _ _ _ f64 c.answer_f32.ensures in
    let power = grows_then _ _ _ f32 c.answer_power.ensures in
    grows_then _ _ _ power c.print_text-2.ensures.grows
