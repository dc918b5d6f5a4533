-- What a call answers, and what its tests find.
use Rattle.std.specs.Prelude.{ℕ, Result}
use Rattle.outcome.specs.declared.answer.Refusal.{Refusal}

-- the draws made, or why nothing was done
abbrev pub Outcome : Type 0
Outcome = Result ℕ Refusal

-- that nothing refuses, or what does
abbrev pub Verdict : Type 0
Verdict = Result (Unit {0}) Refusal
