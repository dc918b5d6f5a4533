-- `voice_pluck::pluck::turn` meets its contract: a place below n is its own rest, and n itself has none. Assumes nothing.
use Rattle.std.proofs.Common.{◌≡◌, ◌+◌, sym, mod-eq_of_lt, arith, rules}
use native.Mathlib.Nat.{mod_self}
use Rattle.voice_pluck.proofs.pluck.turn.Goals as goal

pub returns-then-spos-n : goal.returns-then-spos-n
returns-then-spos-n c = (sym (mod-eq_of_lt c.if-spos-n.true), omega arith)

pub returns-else-spos-n : goal.returns-else-spos-n
returns-else-spos-n c = let e : c.args.spos + 1 ≡ c.args.n = omega arith in (rw (e, mod_self), omega arith)
