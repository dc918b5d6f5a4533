-- A closure that makes a frame of its phase's step, by the rule whose answers it gives.
use Rattle.std.specs.Prelude.{◌≡◌, Float}
use Rattle.osc.specs.declared.Out.{Out}

-- `post dt s r` says that r is an answer to the step dt from the state s: each is that of `rule`
abbrev pub StepsAs : {S : Type 0} → (Float → S → Out S → Type 0) → (Float → S → Out S) → Type 0
StepsAs {S} post rule = (dt : Float) (s : S) (r : Out S) → post dt s r → r ≡ rule dt s
