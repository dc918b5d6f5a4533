-- The loops of `text_lines::fields`.
use borrow.Author.Rules.{rules}
use Prim.Native.Nat.{◌-◌, ◌≤◌}
use mathlib.Core.Path.{◌≡◌, refl, ◌∙◌}
use native.Mathlib.Omega.{arith}
use lib.ListN.{length, take, drop}
use lib.ListN.{length-set}
use Rattle.text_lines.specs.Line.{fields, before}
use Rattle.text_lines.proofs.Small.{field_small}
use Rattle.text_lines.proofs.Reading.{before_none, fields_bad, fields_more, fields_all, Led, led_none, led_bad, led_more, led_all}
use Rattle.text_lines.proofs.fields.Given as goal

abbrev pub invariant-loop-i : goal.invariant-loop-i
invariant-loop-i l =
    (l.i ≤ length l.kinds)
    × (length l.values ≡ length l.initial.values)
    × (before (take l.i l.values) (fields (drop l.i l.kinds) (drop l.at l.s)) ≡ fields l.kinds (drop l.start l.s))
    × Led l.kinds l.s l.start l.initial.values l.i l.at l.values
