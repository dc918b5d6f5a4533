-- `voice_strings::strings_by` meets its contract: each call by what it ensures. Assumes nothing.
use Rattle.voice_strings.proofs.Strings.{strings_frame}
use Rattle.voice_strings.proofs.strings_by.Goals as goal

pub returns : goal.returns
returns c =
    let p = c.args in
    strings_frame p.e p.fi p.srf p.lp_a p.s c.max_f32-f.ensures c.saw.ensures c.saw-2.ensures c.saw-3.ensures
    c.wrap-low.ensures c.wrap-mid.ensures c.wrap-high.ensures
