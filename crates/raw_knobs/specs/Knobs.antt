-- The voice of a wave's place, a style's, 22 knob values, which stand in the order of node.rs: fm 3, pluck 4, piano 5, bass 10, and 10 values of drawbars, ratio before level; and the
-- envelope of 5 values.
use Rattle.std.specs.Prelude.{ℕ, ◌+◌, List, cond, length, get_or, eqb, Float, Option, Some, None}
use Rattle.std.specs.Float.{nan}
use Rattle.dsl.specs.Sets.{fm_by, pluck_by, piano_by, bass_by, drawbars_by}
use Rattle.dsl.specs.Wave.{wave_at}
use Rattle.dsl.specs.declared.knobs.Adsr.{Adsr}
use Rattle.dsl.specs.declared.knobs.SeqVoice.{SeqVoice}
use Rattle.dsl.specs.declared.wave.SeqWave.{SeqWave}
use Rattle.dsl.specs.declared.kit.KitStyle.{KitStyle}
use Rattle.dsl.specs.Kit.{style_at}

-- knob i of the set that starts at a place of the values
abbrev pub knob_from : ℕ → List Float → ℕ → Float
knob_from start k i = get_or k (start + i) nan

abbrev pub voice_in : Option SeqWave → Option KitStyle → List Float → List Float → Option SeqVoice
voice_in (Some w) (Some style) k b =
    Some (record {
      wave = w;
      fm = fm_by (knob_from 0 k);
      pluck = pluck_by (knob_from 3 k);
      piano = piano_by (knob_from 7 k);
      bass = bass_by (knob_from 12 k);
      bars = drawbars_by (knob_from 0 b);
      kit = style;
    })
voice_in (Some w) None k b = None
voice_in None style k b = None

-- None, where there are not 22 knobs, there are not 10 values of drawbars, or no wave has the one place or no style the other
unfoldable pub voice_at : ℕ → ℕ → List Float → List Float → Option SeqVoice
voice_at wave style k b = cond (eqb (length k) 22) (cond (eqb (length b) 10) (voice_in (wave_at wave) (style_at style) k b) None) None

abbrev pub env_of : List Float → Adsr
env_of x = record { a = get_or x 0 nan; d = get_or x 1 nan; s = get_or x 2 nan; r = get_or x 3 nan; punch = get_or x 4 nan }

-- None, where there are not 5 values
unfoldable pub env_at : List Float → Option Adsr
env_at x = cond (eqb (length x) 5) (Some (env_of x)) None
