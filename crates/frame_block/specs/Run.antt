-- A closure that makes a frame of the state before it, by the rule whose answers it gives.
use Rattle.std.specs.Prelude.{◌≡◌, ℕ, ◌≤◌, ◌<◌}
use Rattle.osc.specs.declared.Out.{Out}

-- `post i s r` says that r is an answer at frame i from the state s: from `from` on and before `end` each is that of `by`
abbrev pub AnswersAs : {S : Type 0} → (ℕ → S → Out S → Type 0) → (ℕ → S → Out S) → ℕ → ℕ → Type 0
AnswersAs {S} post by from end = (i : ℕ) (s : S) (r : Out S) → from ≤ i → i < end → post i s r → r ≡ by i s
