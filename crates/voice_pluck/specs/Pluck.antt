-- `pluck_note` of render/seq.rs. `s` is the generator's state before the note, `period` the number of the string's values, `srf` the rate.
use Rattle.std.specs.Prelude.{ℕ, ◌+◌, ◌%◌, cond, List, ◌++◌, length, drop, slice_index_or, slice_set, Float}
use Rattle.std.specs.Float.{nan}
use Rattle.std.specs.Float.Ieee.{lt}
use Rattle.ieee.specs.Numbers.{c0, c0·008, c0·3, c0·5, c0·6, c0·9, c1}
use Rattle.laws.specs.Run.{state_at, samples}
use Rattle.ieee.specs.Binary32.{◌⊕◌, ◌⊖◌, ◌⊗◌, ◌⊘◌}
use Rattle.dsl.specs.declared.knobs.PluckKnobs.{PluckKnobs}
use Rattle.osc.specs.Phase.{seconds}
use Rattle.voice_noise.specs.Noise.{noise_frames}
use Rattle.voice_pluck.specs.Guitar.{timbre_of, all_rung}
use Rattle.voice_pluck.specs.declared.guitar.Timbre.{Timbre}
use Rattle.voice_pluck.specs.declared.pluck.Pick.{Pick}
use Rattle.osc.specs.declared.Out.{Out}
use Rattle.voice_pluck.specs.declared.pluck.PluckState.{PluckState}
use Rattle.voice_pluck.specs.declared.pluck.PluckOut.{PluckOut}

-- "Pick click: the highpassed leading edge of the excitation"
unfoldable pub picked : Float → Float → Float → Pick → Out Pick
picked amount t y s =
    cond (lt t c0·008)
    (let hp = c0·9 ⊗ (s.hp_out ⊕ y ⊖ s.hp_in) in
    record { sample = amount ⊗ hp ⊗ (c1 ⊖ t ⊘ c0·008); state = record { hp_in = y; hp_out = hp } })
    (record { sample = c0; state = s })

-- frame i, of the string's value y and the value after it
unfoldable pub plucked : PluckKnobs → Timbre → Float → ℕ → Float → Float → PluckState → PluckOut
plucked k g srf i y next s =
    let pick = picked k.pluck_pick (seconds srf i) y s.pick in
    let echoes = all_rung g y s.echoes in
    let bodySum = c0 ⊕ echoes.air.y1 ⊕ echoes.top.y1 ⊕ echoes.back.y1 in
    let avg = (c0·5 ⊕ c0·5 ⊗ g.bright) ⊗ y ⊕ (c0·5 ⊖ c0·5 ⊗ g.bright) ⊗ next in
    let lp = s.lp ⊕ g.damp ⊗ (avg ⊖ s.lp) in
    let filt = (c1 ⊖ g.damp) ⊗ avg ⊕ g.damp ⊗ lp in
    record {
      sample = (c1 ⊖ c0·3 ⊗ k.pluck_body) ⊗ y ⊕ k.pluck_body ⊗ c0·6 ⊗ bodySum ⊕ pick.sample;
      string = k.pluck_decay ⊗ filt;
      state = record { echoes = echoes; pick = pick.state; lp = lp };
    }

-- The string is a ring, with the place that sounds next; `rest` is what else goes from frame to frame.
pub record Ring : Type 0 where
  pub string : List Float
  pub spos : ℕ
  pub rest : PluckState

pub record RingOut : Type 0 where
  pub sample : Float
  pub state : Ring

unfoldable pub ring_at : PluckKnobs → Timbre → Float → ℕ → Ring → RingOut
ring_at k g srf i s =
    let after = (s.spos + 1) % length s.string in
    let r = plucked k g srf i (slice_index_or s.string s.spos nan) (slice_index_or s.string after nan) s.rest in
    record {
      sample = r.sample;
      state = record { string = slice_set s.string s.spos r.string; spos = after; rest = r.state };
    }

-- before the first frame
unfoldable pub at_rest : PluckState
at_rest =
    record {
      echoes = record { air = record { y1 = c0; y2 = c0 }; top = record { y1 = c0; y2 = c0 }; back = record { y1 = c0; y2 = c0 } };
      pick = record { hp_in = c0; hp_out = c0 };
      lp = c0;
    }

abbrev pub ring_start : List Float → Ring
ring_start string = record { string = string; spos = 0; rest = at_rest }

-- n frames of a string, and the string after them
unfoldable pub ring_frames : PluckKnobs → Timbre → Float → List Float → ℕ → List Float
ring_frames k g srf string n = samples (ring_at k g srf) (λ r. r.sample) (λ r. r.state) (ring_start string) n

unfoldable pub ring_after : PluckKnobs → Timbre → Float → List Float → ℕ → List Float
ring_after k g srf string n = (state_at (ring_at k g srf) (λ r. r.sample) (λ r. r.state) (ring_start string) n).string

-- the note: the string is noise, a draw for each value
abbrev pub pluck_frames : PluckKnobs → Float → ℕ → ℕ → ℕ → List Float
pluck_frames k srf period s n = ring_frames k (timbre_of k.pluck_tone srf) srf (noise_frames s period) n

abbrev pub pluck_string : PluckKnobs → Float → ℕ → ℕ → ℕ → List Float
pluck_string k srf period s n = ring_after k (timbre_of k.pluck_tone srf) srf (noise_frames s period) n

-- what the note leaves of the buffer l that it is lent: the values past the period stay
abbrev pub pluck_left : PluckKnobs → Float → ℕ → ℕ → ℕ → List Float → List Float
pluck_left k srf period s n l = pluck_string k srf period s n ++ drop period l
