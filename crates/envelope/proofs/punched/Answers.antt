-- `envelope::punched` meets its contract. Assumes nothing.
use Rattle.std.proofs.Common.{refl}
use Rattle.laws.proofs.If.{if_true, if_false}
use Rattle.envelope.specs.Envelope.{punched_of}
use Rattle.envelope.proofs.punched.Goals as goal
use Rattle.envelope.proofs.punched.Goals.{else-punch-via-then-punch+then-punch_win+else-t-punch_win, else-punch-via-then-punch+else-punch_win, else-punch-via-else-punch}

pub returns-then-t-punch_win : goal.returns-then-t-punch_win
unfolding punched_of
returns-then-t-punch_win c = if_true _ c.if-punch.true (if_true _ c.if-punch_win.true (if_true _ c.if-t-punch_win.true refl))

pub returns : goal.returns
unfolding punched_of
returns c =
    elim c.else-punch.branch [
      | else-punch-via-then-punch+then-punch_win+else-t-punch_win w ↦ if_true _ w.if-punch.true (if_true _ w.if-punch_win.true (if_false _ w.if-t-punch_win.false refl))
      | else-punch-via-then-punch+else-punch_win w ↦ if_true _ w.if-punch.true (if_false _ w.if-punch_win.false refl)
      | else-punch-via-else-punch w ↦ if_false _ w.if-punch.false refl
    ]
