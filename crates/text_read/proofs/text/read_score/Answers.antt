-- `text_read::text::read_score` meets its contract. Assumes nothing.
use Rattle.text_read.proofs.Texts.{broken_numbers, broken_opening, broken_envelope, broken_voice, broken_notes, all_lines}
use Rattle.text_read.proofs.text.read_score.Goals as goal

pub returns-in_err-numbers : goal.returns-in_err-numbers
returns-in_err-numbers c = rw c.from_residual.ensures (broken_numbers _ _ (rw c.in_err-numbers.was at c.line_s.ensures))

pub returns-in_err-opening : goal.returns-in_err-opening
returns-in_err-opening c =
    rw c.from_residual-in_err-opening.ensures (broken_opening _ _ (rw c.in_ok-numbers.was at c.line_s.ensures) (rw c.in_err-opening.was at c.line_g.ensures))

pub returns-in_err-env : goal.returns-in_err-env
returns-in_err-env c =
    let numbers = rw c.in_ok-numbers.was at c.line_s.ensures in
    rw c.from_residual-in_err-env.ensures (broken_envelope _ _ numbers (rw c.in_ok-opening.was at c.line_g.ensures) (rw c.in_err-env.was at c.line_e.ensures))

pub returns-in_err-sound : goal.returns-in_err-sound
returns-in_err-sound c =
    let numbers = rw c.in_ok-numbers.was at c.line_s.ensures in
    let opening = rw c.in_ok-opening.was at c.line_g.ensures in
    rw c.from_residual-in_err-sound.ensures (broken_voice _ _ numbers opening (rw c.in_ok-env.was at c.line_e.ensures) (rw c.in_err-sound.was at c.line_v.ensures))

pub returns-in_err-count : goal.returns-in_err-count
returns-in_err-count c =
    let numbers = rw c.in_ok-numbers.was at c.line_s.ensures in
    let opening = rw c.in_ok-opening.was at c.line_g.ensures in
    let env = rw c.in_ok-env.was at c.line_e.ensures in
    rw c.from_residual-in_err-count.ensures (broken_notes _ _ numbers opening env (rw c.in_ok-sound.was at c.line_v.ensures) c.notes.ensures c.in_err-count.was)

pub returns : goal.returns
returns c =
    let numbers = rw c.in_ok-numbers.was at c.line_s.ensures in
    let opening = rw c.in_ok-opening.was at c.line_g.ensures in
    let env = rw c.in_ok-env.was at c.line_e.ensures in
    all_lines _ _ numbers opening env (rw c.in_ok-sound.was at c.line_v.ensures) c.notes.ensures c.in_ok-count.was
