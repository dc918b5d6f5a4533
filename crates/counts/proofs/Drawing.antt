-- A generator that draws at those turns of a loop that pass a test is as many draws on as have passed. Use for a voice that draws for a while. Assumes nothing.
use Rattle.std.proofs.Common.{◌≡◌, ℕ, zero, suc, ◌^◌, ◌<◌, Bool, true, false, cond, sym, refl, ap, ◌∙◌, add-one}
use Rattle.laws.specs.Run.{iterate}
use Rattle.rng.specs.SplitMix64.{advance, state_after}
use Rattle.rng.proofs.States.{state_none, state_next}
use Rattle.counts.specs.Draws.{passing}

one_turn : (s : ℕ) (b : Bool) (c : ℕ) → cond b (advance (state_after s c)) (state_after s c) ≡ state_after s (cond b (suc c) c)
one_turn s true c = state_next s c ∙ ap (state_after s) (add-one c)
one_turn s false c = refl

pub draws_passing : (test : ℕ → Bool) (s n : ℕ) → s < 2 ^ 64 → iterate (λ i s. cond (test i) (advance s) s) s n ≡ state_after s (passing test n)
unfolding iterate passing
draws_passing test s zero h = sym (state_none s h)
draws_passing test s (suc n) h = ap (λ (t : ℕ). cond (test n) (advance t) t) (draws_passing test s n h) ∙ one_turn s (test n) (passing test n)
