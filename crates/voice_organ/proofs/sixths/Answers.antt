-- `voice_organ::sixths` meets its contract. Assumes nothing.
use mathlib.Core.Path.{◌∙◌}
use denote.Floats.{passes}
use Rattle.voice_organ.proofs.Same.{is_six}
use borrow.Author.Rules.{rules}
use Rattle.voice_organ.proofs.sixths.Goals as goal

pub returns-then-ratio4 : goal.returns-then-ratio4
returns-then-ratio4 c =
    let t = c.fourths.ensures in
    let same = c.requires.nan_value (is_six c.args.ratio4 (passes _ c.well_formed.0.1) c.if-ratio4.true) in
    record {
      near_len_2 = (c.requires.near_len.0, c.requires.near_len.1, c.requires.near_len.2, t.0);
      tabled = record { at = λ k h l. t.1.at k h l ∙ same k l };
    }
