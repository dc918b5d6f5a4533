-- A knob set from a reading by index: `knob i` is knob i of the set, in the order of node.rs; and drawbars likewise, ratio before level.
use Rattle.std.specs.Prelude.{ℕ, Float}
use Rattle.dsl.specs.declared.knobs.FmKnobs.{FmKnobs}
use Rattle.dsl.specs.declared.knobs.PluckKnobs.{PluckKnobs}
use Rattle.dsl.specs.declared.knobs.PianoKnobs.{PianoKnobs}
use Rattle.dsl.specs.declared.knobs.BassKnobs.{BassKnobs}
use Rattle.dsl.specs.declared.knobs.Drawbars.{Drawbars}

module _ (knob : ℕ → Float) where
  abbrev pub fm_by : FmKnobs
  fm_by = record { fm_ratio = knob 0; fm_index = knob 1; fm_strike = knob 2 }

  abbrev pub pluck_by : PluckKnobs
  pluck_by = record { pluck_decay = knob 0; pluck_body = knob 1; pluck_pick = knob 2; pluck_tone = knob 3 }

  abbrev pub piano_by : PianoKnobs
  piano_by = record { piano_hammer = knob 0; piano_strike = knob 1; piano_inharm = knob 2; piano_detune = knob 3; piano_decay = knob 4 }

  abbrev pub bass_by : BassKnobs
  bass_by = record {
    bass_cutoff = knob 0;
    bass_env = knob 1;
    bass_env_vel = knob 2;
    bass_decay = knob 3;
    bass_click = knob 4;
    bass_body = knob 5;
    bass_sub = knob 6;
    bass_sub_ratio = knob 7;
    bass_drive = knob 8;
    bass_body_decay = knob 9;
  }

  abbrev pub drawbars_by : Drawbars
  drawbars_by = record {
    ratio1 = knob 0;
    level1 = knob 1;
    ratio2 = knob 2;
    level2 = knob 3;
    ratio3 = knob 4;
    level3 = knob 5;
    ratio4 = knob 6;
    level4 = knob 7;
    ratio5 = knob 8;
    level5 = knob 9;
  }
