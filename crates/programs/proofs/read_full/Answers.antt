use Rattle.std.proofs.Common.{◌+◌, ◌-◌, ◌++◌, rules, arith, length, take, sym, ap, ◌∙◌, subst, le_refl}
use Rattle.std.proofs.lemmas.Slice.{take-put_mid_below}
use Rattle.std.proofs.KnownBytes.{Consumes-trans}
use Rattle.std.specs.Io.KnownBytes.{Consumes}
use Rattle.programs.proofs.Filled.{take_split, slice_range_put_mid}
use borrow.Rule.Slice.PartMut.{put_mid}
use Rattle.programs.proofs.read_full.Goals as goal

pub loop-done-preserved : goal.loop-done-preserved
loop-done-preserved g c =
    let from = c.loop-done.done in
    let buffer = c.loop-done.buffer in
    let room = length buffer - from in
    let within = c.loop-done.invariant.1 in
    let part = slice_range_put_mid from room c.in_ok-n.n buffer c.read.new.buf within c.in_ok-n.ensures.bound.0 in
    let joined = take_split from (from + c.in_ok-n.n) buffer (put_mid from room buffer c.read.new.buf) (omega arith) (take-put_mid_below _ _ _ _ _ (le_refl _) within) in
    (search rules, search rules, search rules, subst (Consumes _ _) (ap (λ l. take from buffer ++ l) (sym part) ∙ joined) (Consumes-trans _ _ _ _ _ c.loop-done.invariant.3 c.in_ok-n.ensures.bytes.0))
