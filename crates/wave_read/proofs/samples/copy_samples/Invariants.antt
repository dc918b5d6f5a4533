-- The loops of `wave_read::samples::copy_samples`.
use Rattle.laws.proofs.Fill.{Filled}
use Rattle.wave_read.proofs.Bits.{bits}
use Rattle.wave_read.proofs.samples.copy_samples.Given as goal

abbrev pub invariant-loop-i : goal.invariant-loop-i
invariant-loop-i l = Filled (bits l.file l.start) (λ y. y) (λ y. 0) 0 l.initial.samples l.i l.samples 0
