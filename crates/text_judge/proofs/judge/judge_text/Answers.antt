-- `text_judge::judge::judge_text` meets its contract. Assumes nothing.
use Rattle.text_judge.proofs.Judging.{ends_long, ends_broken, ends_frames, ends_notes, ends_score}
use Rattle.text_judge.proofs.judge.judge_text.Goals as goal

pub returns-then-text-gt65536 : goal.returns-then-text-gt65536
returns-then-text-gt65536 c = ends_long _ _ c.if-text-gt65536.true

pub returns-in_default : goal.returns-in_default
returns-in_default c = ends_broken _ _ c.if-text-gt65536.false c.read_score.ensures c.in_default.is

pub returns-then-numbers-gt2048 : goal.returns-then-numbers-gt2048
returns-then-numbers-gt2048 c =
    ends_frames _ _ c.if-text-gt65536.false c.read_score.ensures c.in-Some.is c.if-numbers-gt2048.true

pub returns-then-score-gt256 : goal.returns-then-score-gt256
returns-then-score-gt256 c =
    ends_notes _ _ c.if-text-gt65536.false c.read_score.ensures c.in-Some.is c.if-numbers-gt2048.false c.if-score-gt256.true

pub returns : goal.returns
returns c =
    ends_score _ _ c.if-text-gt65536.false c.read_score.ensures c.in-Some.is c.if-numbers-gt2048.false c.if-score-gt256.false
