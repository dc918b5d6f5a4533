-- `voice_piano::wires::turns` meets its contract. Assumes nothing.
use Rattle.std.proofs.Common.{◌≡◌, ◌-◌, ◌≤◌, length, get_or, refl, ap, ◌∙◌, arith, rules}
use lib.Ieee.{nan}
use Rattle.blocks.proofs.Rows.{Rows, rows_none, rows_more, rows_all, written_length}
use Rattle.voice_piano.proofs.Sines.{two_turns}
use Rattle.voice_piano.specs.Block.{turns_of, no_partial}
use Rattle.voice_piano.proofs.wires.turns.Goals as goal

pub loop-j-init : goal.loop-j-init
loop-j-init c = (omega arith, c.requires.1, rows_none)

pub store_turns-requires : goal.store_turns-requires
store_turns-requires c = (omega (arith, c.loop-j-test.true, c.requires.0), c.loop-j.invariant.1)

pub loop-j-preserved : goal.loop-j-preserved
loop-j-preserved c =
    let v = c.loop-j.invariant in
    let l = c.loop-j-test.true in
    let e : length c.loop-j.x ≡ 384 = v.1 in (
      omega arith,
      ap length c.store_turns.ensures ∙ written_length _ _ _ ∙ e,
      rows_more v.2 (two_turns (get_or c.args.items c.loop-j.j no_partial)) (omega (arith, e, c.requires.0)) refl c.store_turns.ensures,
    )

pub returns : goal.returns
returns c = (c.loop-j.invariant.1, rows_all c.loop-j.invariant.2 (omega arith))
