-- `text_lines::line_g` meets its contract: each part that was read, and the part that is broken. Assumes nothing.
use Rattle.text_lines.specs.Line.{line_g, seed_field, draw_field}
use Rattle.text_lines.proofs.line_g.Goals as goal

pub returns-in_err-seed_tab : goal.returns-in_err-seed_tab
unfolding line_g
returns-in_err-seed_tab c = rw (c.from_residual.ensures, ← (rw c.in_err-seed_tab.was at c.expect.ensures))

pub returns-in_err-seed_at : goal.returns-in_err-seed_at
unfolding line_g seed_field
returns-in_err-seed_at c =
    rw (c.from_residual-in_err-seed_at.ensures, ← (rw c.in_ok-seed_tab.was at c.expect.ensures), ← (rw c.in_err-seed_at.was at c.expect-2.ensures))

pub returns-in_err-seed : goal.returns-in_err-seed
unfolding line_g seed_field
returns-in_err-seed c =
    let a = rw c.in_ok-seed_tab.was at c.expect.ensures in
    let b = rw c.in_ok-seed_at.was at c.expect-2.ensures in
    rw (c.from_residual-in_err-seed.ensures, ← a, ← b, ← (rw c.in_err-seed.was at c.hex.ensures))

pub returns-in_err-draw_at : goal.returns-in_err-draw_at
unfolding line_g seed_field draw_field
returns-in_err-draw_at c =
    let a = rw c.in_ok-seed_tab.was at c.expect.ensures in
    let b = rw c.in_ok-seed_at.was at c.expect-2.ensures in
    let seed = rw c.in_ok-seed.was at c.hex.ensures in
    rw (c.from_residual-in_err-draw_at.ensures, ← a, ← b, ← seed, ← (rw c.in_err-draw_at.was at c.expect-3.ensures))

pub returns-in_err-draw : goal.returns-in_err-draw
unfolding line_g seed_field draw_field
returns-in_err-draw c =
    let a = rw c.in_ok-seed_tab.was at c.expect.ensures in
    let b = rw c.in_ok-seed_at.was at c.expect-2.ensures in
    let seed = rw c.in_ok-seed.was at c.hex.ensures in
    let d = rw c.in_ok-draw_at.was at c.expect-3.ensures in
    rw (c.from_residual-in_err-draw.ensures, ← a, ← b, ← seed, ← d, ← (rw c.in_err-draw.was at c.decimal.ensures))

pub returns-in_err-next : goal.returns-in_err-next
unfolding line_g seed_field draw_field
returns-in_err-next c =
    let a = rw c.in_ok-seed_tab.was at c.expect.ensures in
    let b = rw c.in_ok-seed_at.was at c.expect-2.ensures in
    let seed = rw c.in_ok-seed.was at c.hex.ensures in
    let d = rw c.in_ok-draw_at.was at c.expect-3.ensures in
    let draw = rw c.in_ok-draw.was at c.decimal.ensures in
    rw (c.from_residual-in_err-next.ensures, ← a, ← b, ← seed, ← d, ← draw, ← (rw c.in_err-next.was at c.expect-4.ensures))

pub returns : goal.returns
unfolding line_g seed_field draw_field
returns c =
    let a = rw c.in_ok-seed_tab.was at c.expect.ensures in
    let b = rw c.in_ok-seed_at.was at c.expect-2.ensures in
    let seed = rw c.in_ok-seed.was at c.hex.ensures in
    let d = rw c.in_ok-draw_at.was at c.expect-3.ensures in
    let draw = rw c.in_ok-draw.was at c.decimal.ensures in
    rw (← a, ← b, ← seed, ← d, ← draw, ← (rw c.in_ok-next.was at c.expect-4.ensures))
