-- Use at a `return` under tests whose definition is nested `cond` in the order of the code's tests: one `if_true` or `if_false` for each test on the way.
-- `z` is what the code returns. Assumes nothing.
use mathlib.Core.Path.{◌≡◌, sym, ap, ◌∙◌}
use mathlib.Core.Bool.{Bool, true, false, cond}

pub if_true : {A : Type 0} {b : Bool} {x z : A} (y : A) → b ≡ true → z ≡ x → z ≡ cond b x y
if_true {A} {b} {x} {z} y e h = h ∙ sym (ap (λ (t : Bool). cond t x y) e)

pub if_false : {A : Type 0} {b : Bool} {y z : A} (x : A) → b ≡ false → z ≡ y → z ≡ cond b x y
if_false {A} {b} {y} {z} x e h = h ∙ sym (ap (λ (t : Bool). cond t x y) e)
