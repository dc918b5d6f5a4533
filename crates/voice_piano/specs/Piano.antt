-- `piano_note` of render/seq.rs. `fi` is the pitch at frame i, `f` the pitch by frame, `srf` the rate, `s` a state of the generator.
use Rattle.std.specs.Prelude.{ℕ, cond, List, map, take, Float}
use mathlib.Core.List.{foldl}
use Rattle.std.specs.Float.Ieee.{neg}
use Rattle.ieee.specs.Numbers.{c0, c0·006, c0·3, c0·5, c1, c2}
use Rattle.laws.specs.Run.{samples}
use Rattle.ieee.specs.Binary32.{◌⊕◌, ◌⊖◌, ◌⊗◌, ◌⊘◌}
use Rattle.ieee.specs.Order.{max_of}
use Rattle.rng.specs.SplitMix64.{advance}
use Rattle.dsl.specs.declared.knobs.PianoKnobs.{PianoKnobs}
use Rattle.counts.specs.Draws.{thumps}
use Rattle.osc.specs.Phase.{increment, seconds}
use Rattle.voice_piano.specs.Constants.{c1e-6}
use Rattle.rng.specs.Draw.{bi_from}
use Rattle.voice_piano.specs.Hammer.{blow_of, partials_of}
use Rattle.voice_piano.specs.Wires.{pair_of, added, moved, amp_added}
use Rattle.voice_piano.specs.declared.hammer.Partial.{Partial}
use Rattle.voice_piano.specs.declared.wires.Pair.{Pair}
use Rattle.voice_piano.specs.declared.piano.PianoState.{PianoState}

-- "Felt-hammer thump: a few ms of soft noise on the attack", and the generator after it
unfoldable pub thump_of : Float → ℕ → Float
thump_of t s = cond (thumps t) (bi_from s ⊗ c0·3 ⊗ (c1 ⊖ t ⊘ c0·006)) c0

unfoldable pub thump_end : Float → ℕ → ℕ
thump_end t s = cond (thumps t) (advance s) s

-- what goes from frame to frame
pub record Piano : Type 0 where
  pub partials : List Partial
  pub rng : ℕ

pub record PianoFrame : Type 0 where
  pub sample : Float
  pub state : Piano

-- the code's state, of whose array the first `count` are partials
abbrev pub heard : ℕ → PianoState → Piano
heard count s = record { partials = take count s.items; rng = s.rng.0 }

unfoldable pub piano_at : Float → Float → Pair → Float → ℕ → Piano → PianoFrame
piano_at fi srf det norm i s =
    let dt = increment fi srf in
    let t = seconds srf i in
    record {
      sample = foldl added c0 s.partials ⊗ norm ⊕ thump_of t s.rng;
      state = record { partials = map (moved dt det) s.partials; rng = thump_end t s.rng };
    }

-- "Target a per-note peak near 0.5": two strings over the summed partial amplitude; Rust's `sum` of floats starts at −0
unfoldable pub norm_of : List Partial → Float
norm_of ps = c0·5 ⊘ (c2 ⊗ max_of (foldl amp_added (neg c0) ps) c1e-6)

-- n frames from a state on
unfoldable pub sound_frames : (ℕ → Float) → Float → Pair → Float → Piano → ℕ → List Float
sound_frames f srf det norm start n = samples (λ i. piano_at (f i) srf det norm i) (λ r. r.sample) (λ r. r.state) start n

-- the note; the pitch at frame 0 is its fundamental
unfoldable pub piano_frames : (ℕ → Float) → PianoKnobs → Float → Float → ℕ → ℕ → List Float
piano_frames f k gain srf s n =
    let ps = partials_of (blow_of k gain (f 0)) srf in
    sound_frames f srf (pair_of k.piano_detune) (norm_of ps) (record { partials = ps; rng = s }) n
