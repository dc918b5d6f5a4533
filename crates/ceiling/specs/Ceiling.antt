-- The ceiling of a score's draws, and the score that reaches it (02, Card 9).
use Rattle.std.specs.Prelude.{ℕ, zero, suc, ◌+◌, ◌*◌, ◌/◌, max, List, [], ◌∷◌, ◌++◌, cond, leb}
use Rattle.ieee.specs.Numbers.{c0}
use Rattle.dsl.specs.Drawbars.{BARS}
use Rattle.dsl.specs.declared.kit.KitStyle.TheVariants.{Classic}
use Rattle.dsl.specs.declared.knobs.SeqVoice.{SeqVoice}
use Rattle.dsl.specs.declared.wave.SeqWave.{SeqWave}
use Rattle.dsl.specs.declared.wave.SeqWave.TheVariants.{Noise, Pluck}
use Rattle.groove.specs.Number.{c60}
use Rattle.tempo.specs.Map.{no_map}
use Rattle.score.specs.Score.{Score}
use Rattle.score.specs.declared.seq.Timing.{Timing}

-- "rate / 20 rounded half up", which is the period of a string of 20 Hz
abbrev pub longest_string : ℕ → ℕ
longest_string rate = (rate + 10) / 20

-- "at most m times the larger of n and rate / 20 rounded half up"
abbrev pub ceiling_of : ℕ → ℕ → ℕ → ℕ
ceiling_of rate m n = m * max n (longest_string rate)

-- a note on step 0 that is held as long as a note can be, of 20 Hz and gain 1
abbrev pub held_note : List ℕ
held_note = 0 ∷ 1048575 ∷ 0 ∷ 0x41a00000 ∷ 0x3f800000 ∷ []

-- the words of m such notes
unfoldable pub held_notes : ℕ → List ℕ
held_notes zero = []
held_notes (suc m) = held_note ++ held_notes m

-- noise where the frames are no fewer than the longest string, else pluck
abbrev pub loudest : ℕ → ℕ → SeqWave
loudest rate n = cond (leb (longest_string rate) n) Noise Pluck

-- any knobs would do: these are 0, with the original's drawbars and the first style
abbrev pub plain_voice : SeqWave → SeqVoice
plain_voice wave = record {
  wave = wave;
  fm = record { fm_ratio = c0; fm_index = c0; fm_strike = c0 };
  pluck = record { pluck_decay = c0; pluck_body = c0; pluck_pick = c0; pluck_tone = c0 };
  piano = record { piano_hammer = c0; piano_strike = c0; piano_inharm = c0; piano_detune = c0; piano_decay = c0 };
  bass = record {
    bass_cutoff = c0;
    bass_env = c0;
    bass_env_vel = c0;
    bass_decay = c0;
    bass_click = c0;
    bass_body = c0;
    bass_sub = c0;
    bass_sub_ratio = c0;
    bass_drive = c0;
    bass_body_decay = c0;
  };
  bars = BARS;
  kit = Classic;
}

-- a step a second, with no swing and no humanize
abbrev pub plain_timing : ℕ → Timing
plain_timing rate = record { rate = rate; tempo = c60; steps_per_beat = 1; tempo_map = no_map; swing = c0; humanize = c0 }

-- The named score: m notes held over all n frames, noise or strings of 20 Hz, whichever draw more.
abbrev pub most_drawing : ℕ → ℕ → ℕ → Score
most_drawing rate m n = record {
  seq = record { timing = plain_timing rate; hop = 1; voice = plain_voice (loudest rate n); duty = c0; env = record { a = c0; d = c0; s = c0; r = c0; punch = c0 } };
  notes = held_notes m;
  lane = [];
  n = n;
  room = n;
  string = 9600;
}
