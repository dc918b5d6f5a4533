-- Refusals in the order in which they are tested.
use Rattle.std.specs.Prelude.{ℕ, List, [], ◌∷◌, Bool, true, cond, ltb, Ok, Err}
use Rattle.outcome.specs.declared.answer.Refusal.{Refusal}
use Rattle.outcome.specs.Outcome.{Verdict}

-- a test, and what refuses where it holds; the refusal's number is `number_of`'s
pub record Test : Type 0 where
  pub holds : Bool
  pub refusal : Refusal

infix 50 ◌⇒◌
abbrev pub ◌⇒◌ : Bool → Refusal → Test
test ⇒ refusal = record { holds = test; refusal = refusal }

-- "the first refusal that applies"
unfoldable pub first_of : List Test → Verdict
first_of [] = Ok tt
first_of (t ∷ ts) = cond t.holds (Err t.refusal) (first_of ts)

-- what was found before, or else what comes next
abbrev pub or_else : Verdict → Verdict → Verdict
or_else (Ok _) next = next
or_else (Err r) next = Err r

-- the first of several verdicts that refuses
unfoldable pub first_refusal : List Verdict → Verdict
first_refusal [] = Ok tt
first_refusal (v ∷ vs) = or_else v (first_refusal vs)

-- what a chain of `or_else` finds, test after test, v having been found before
abbrev pub first_after : Verdict → List Test → Verdict
first_after v [] = v
first_after v (t ∷ ts) = first_after (or_else v (cond t.holds (Err t.refusal) (Ok tt))) ts

-- whether x lies outside low to high
abbrev pub outside : ℕ → ℕ → ℕ → Bool
outside x low high = cond (ltb x low) true (ltb high x)
