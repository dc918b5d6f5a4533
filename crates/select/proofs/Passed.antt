-- Use where tests are counted: one that is passed counts 0. Assumes nothing.
use Prim.Native.Nat.{ℕ}
use mathlib.Core.Path.{◌≡◌}
use mathlib.Core.Bool.{Bool, true, cond}

pub passed_zero : {t : Bool} {r : ℕ} → t ≡ true → r ≡ cond t 0 1 → r ≡ 0
passed_zero h e = rw h at e
