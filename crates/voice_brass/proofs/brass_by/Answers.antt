-- `voice_brass::brass_by` meets its contract. Assumes nothing.
use borrow.Author.Rules.{rules}
use Rattle.voice_brass.proofs.Brass.{brass_frame}
use Rattle.voice_brass.proofs.brass_by.Goals as goal

pub returns : goal.returns
returns c =
    let p = c.args in
    brass_frame p.a p.fi p.srf p.s c.max_f32-f.ensures c.saw.ensures c.saw-2.ensures c.wrap-low.ensures c.wrap-high.ensures
