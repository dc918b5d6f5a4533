-- The refusals that note calls and score calls share: "1 rate; 2 n .. outside the domain".
use Rattle.std.specs.Prelude.{ℕ, List, [], ◌∷◌, ltb}
use Rattle.outcome.specs.First.{Test, ◌⇒◌, outside}
use Rattle.outcome.specs.declared.answer.Refusal.TheVariants.{Rate, Frames}

-- "Rate 8,000 to 192,000. n at most 16,777,216"
abbrev pub domain_tests : ℕ → ℕ → List Test
domain_tests rate n = (outside rate 8000 192000 ⇒ Rate) ∷ (ltb 16777216 n ⇒ Frames) ∷ []
