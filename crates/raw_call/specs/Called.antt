-- What a call from numbers and lists comes to: the numbers that it answers, and what it leaves.
use Rattle.std.specs.Prelude.{ℕ, ◌≡◌, List, drop, Float}
use Rattle.rng.specs.SplitMix64.{state_after}
use Rattle.outcome.specs.Answer.{Result, refused, accepted, number_of_result, reported, out_after, free}

-- no call is made where what was handed in stands for none; otherwise there is a result
pub data Called : Type 0 where
  none : Called
  made : Result → Called

abbrev pub number_of_call : Called → ℕ
number_of_call none = 4294967295
number_of_call (made r) = number_of_result r

-- what the draws' place holds after a call; d is what it held before
abbrev pub draws_after_call : ℕ → Called → ℕ
draws_after_call d none = d
draws_after_call d (made r) = reported r

-- what the state's place holds; s is what it held before
abbrev pub state_after_result : ℕ → Result → ℕ
state_after_result s (refused number) = s
state_after_result s (accepted draws frames) = state_after s draws

abbrev pub state_after_call : ℕ → Called → ℕ
state_after_call s none = s
state_after_call s (made r) = state_after_result s r

abbrev pub out_after_call : List Float → Called → List Float
out_after_call out none = out
out_after_call out (made r) = out_after out r

-- how many values of a buffer are free
abbrev pub free_after_call : ℕ → Called → ℕ
free_after_call m none = 0
free_after_call m (made r) = free m r

-- What every such call answers, and what the places hold that it is lent: those with ₀ before it, the others after it.
pub record Places : Type 0 where
  pub number : ℕ
  pub draws₀ : ℕ
  pub draws : ℕ
  pub out₀ : List Float
  pub out : List Float
  pub string₀ : List Float
  pub string : List Float

-- They hold what the call comes to. With none made nothing changes; the string's first 9,600 values are free after an accepted call.
pub record Holds (x : Called) (p : Places) : Type 0 where
  pub number : p.number ≡ number_of_call x
  pub draws : p.draws ≡ draws_after_call p.draws₀ x
  pub frames : p.out ≡ out_after_call p.out₀ x
  pub string : drop (free_after_call 9600 x) p.string ≡ drop (free_after_call 9600 x) p.string₀
