-- The loops of `mix::stages::mix_stage`.
use Rattle.std.proofs.Common.{◌-◌, ◌≤◌, arith, rules}
use lib.Ieee.{nan}
use Rattle.ieee.specs.Numbers.{f32}
use Rattle.osc.specs.Phase.{seconds}
use Rattle.envelope.specs.Envelope.{adsr_env}
use Rattle.mix.specs.Mix.{gained_by}
use Rattle.mix.specs.Stretch.{Stretched}
use Rattle.mix.proofs.Stretching.{stretched_none, stretched_more, stretched_all}
use Rattle.mix.proofs.stages.mix_stage.Given as goal

abbrev pub invariant-loop-i : goal.invariant-loop-i
invariant-loop-i l = (l.from ≤ l.i) × (l.i ≤ l.to) × Stretched (gained_by l.note (λ k. adsr_env (seconds (f32 l.rate) k) l.env l.rel_start) l.gain) nan l.from l.i l.initial.out l.out
