-- The flute by blocks: the state after a frame, by the exponential e of the vibrato's depth, the state before frame k of a block, and its sample from the block's sines and breath.
use Rattle.std.specs.Prelude.{ℕ, ◌+◌, List, get_or, Float}
use Rattle.std.specs.Float.{nan}
use Rattle.laws.specs.Run.{iterate}
use Rattle.ieee.specs.Numbers.{c0, c0·006, c0·03, c0·15, c0·9, c1}
use Rattle.ieee.specs.Binary32.{◌⊕◌, ◌⊖◌, ◌⊗◌, ◌⊘◌}
use Rattle.ieee.specs.Order.{max_of}
use Rattle.dsp.specs.Kernels.{TAU, sin_of}
use Rattle.rng.specs.SplitMix64.{advance}
use Rattle.rng.specs.Draw.{bi_from}
use Rattle.osc.specs.Phase.{wrapped}
use Rattle.frame_block.specs.Decay.{decay_at}
use Rattle.voice_flute.specs.Flute.{c0·02, c5·5, rng_at}
use Rattle.voice_flute.specs.declared.FluteState.{FluteState}

unfoldable pub flute_next : Float → Float → Float → Float → FluteState → FluteState
flute_next e fi srf lpA s =
    let fmod = c1 ⊕ c0·006 ⊗ (c1 ⊖ e) ⊗ sin_of (TAU ⊗ s.vib) in
    record {
      phase = wrapped (s.phase ⊕ max_of fi c0 ⊗ fmod ⊘ srf);
      vib = wrapped (s.vib ⊕ c5·5 ⊘ srf);
      lp = s.lp ⊕ lpA ⊗ (bi_from s.rng.0 ⊖ s.lp);
      rng = rng_at (advance s.rng.0);
    }

-- the state k frames after `start`, the state before frame `from`
abbrev pub flute_reached : (ℕ → Float) → Float → Float → ℕ → FluteState → ℕ → FluteState
flute_reached f srf lpA from start k = iterate (λ k s. flute_next (decay_at srf c0·15 (from + k)) (f (from + k)) srf lpA s) start k

-- lp is the breath after the frame's draw
unfoldable pub flute_mix : Float → Float → Float → Float
flute_mix tone gain lp = c0·9 ⊗ tone ⊕ (c0·02 ⊕ c0·03 ⊗ gain) ⊗ lp

-- of frame k: the tone's sines are in s, the breath after each frame's draw in b
unfoldable pub flute_mix_at : List Float → List Float → Float → ℕ → Float
flute_mix_at s b gain k = flute_mix (get_or s k nan) gain (get_or b k nan)
