-- What C gets where no call is made, and from a call by its outcome. Assumes nothing.
use mathlib.Core.Path.{◌≡◌, refl, ap, ◌∙◌}
use mathlib.Core.List.{List, []}
use lib.ListN.{drop}
use lib.Ieee.{Float}
use Rattle.outcome.specs.Answer.{Result, seen, number_of_result, reported, out_after, free}
use Rattle.outcome.specs.Outcome.{Outcome}
use Rattle.std.specs.Prelude.{Ok, Err}
use Rattle.raw_call.specs.Called.{none, made, Places, Holds}

module _ (p : Places) where
  pub none_holds : p.number ≡ 4294967295 → p.draws ≡ p.draws₀ → p.out ≡ p.out₀ → p.string ≡ p.string₀ → Holds none p
  none_holds n d o t = record { number = n; draws = d; frames = o; string = t }

-- number and draws of an outcome, whatever the frames are
number_seen : (a : Outcome) (out : List Float) → number_of_result (seen a []) ≡ number_of_result (seen a out)
number_seen (Ok t) out = refl
number_seen (Err r) out = refl

draws_seen : (a : Outcome) (out : List Float) → reported (seen a []) ≡ reported (seen a out)
draws_seen (Ok t) out = refl
draws_seen (Err r) out = refl

-- a call that comes to x, with what its contract says of the frames and the string; a is the outcome that it answers
pub record Returned (p : Places) (x : Result) (a : Outcome) : Type 0 where
  pub answer : seen a p.out ≡ x
  pub frames : p.out ≡ out_after p.out₀ x
  pub string : drop (free 9600 x) p.string ≡ drop (free 9600 x) p.string₀

pub made_holds : {p : Places} {x : Result} {a : Outcome} → Returned p x a → p.number ≡ number_of_result (seen a []) → p.draws ≡ reported (seen a [])
    → Holds (made x) p
made_holds {p} {x} {a} h n d = record {
  number = n ∙ number_seen a p.out ∙ ap number_of_result h.answer;
  draws = d ∙ draws_seen a p.out ∙ ap reported h.answer;
  frames = h.frames;
  string = h.string;
}
