-- The loops of `text_digits::hex`.
use borrow.Author.Rules.{rules}
use Prim.Native.Nat.{◌*◌, ◌-◌, ◌^◌, ◌≤◌, ◌<◌}
use mathlib.Core.Path.{◌≡◌, ◌∙◌}
use native.Mathlib.Omega.{arith}
use lib.ListN.{drop}
use Rattle.text_digits.specs.Read.{hex_from}
use Rattle.text_digits.proofs.Reading.{hex_none, hex_bad, hex_more, hex_room, hex_all}
use Rattle.text_digits.proofs.hex.Given as goal

abbrev pub invariant-loop-i : goal.invariant-loop-i
invariant-loop-i l = (l.v < 2 ^ (4 * l.i)) × (l.i ≤ l.count) × (hex_from (l.count - l.i) l.v (drop l.at l.s) ≡ hex_from l.count 0 (drop l.start l.s))
