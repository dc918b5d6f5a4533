-- The loops of `voice_piano::hammer::piano_partials`.
use Rattle.std.proofs.Common.{◌-◌, refl, arith, rules}
use Rattle.voice_piano.proofs.Built.{Built, built_none, built_here, built_more, built_all}
use Rattle.voice_piano.proofs.hammer.piano_partials.Given as goal

abbrev pub invariant-loop-j : goal.invariant-loop-j
invariant-loop-j l = Built l.b l.srf l.j l.items
