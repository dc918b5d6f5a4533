-- The numbers of the knob sets and of an envelope, in the order of node.rs and mod.rs, and of the drawbars.
use Rattle.std.specs.Prelude.{List, [], ◌∷◌, Float}
use Rattle.dsl.specs.declared.knobs.Adsr.{Adsr}
use Rattle.dsl.specs.declared.knobs.SeqVoice.{SeqVoice}

-- "a knob of any of the four sets"; and the drawbars, "ten sized numbers, judged by 6 as knobs are, .. ratio before level" (02, Card 14)
abbrev pub knob_list : SeqVoice → List Float
knob_list v =
    let fm = v.fm in
    let pluck = v.pluck in
    let piano = v.piano in
    let bass = v.bass in
    let bars = v.bars in
    fm.fm_ratio ∷ fm.fm_index ∷ fm.fm_strike
    ∷ pluck.pluck_decay ∷ pluck.pluck_body ∷ pluck.pluck_pick ∷ pluck.pluck_tone
    ∷ piano.piano_hammer ∷ piano.piano_strike ∷ piano.piano_inharm ∷ piano.piano_detune ∷ piano.piano_decay
    ∷ bass.bass_cutoff ∷ bass.bass_env ∷ bass.bass_env_vel ∷ bass.bass_decay ∷ bass.bass_click ∷ bass.bass_body ∷ bass.bass_sub ∷ bass.bass_sub_ratio
    ∷ bass.bass_drive ∷ bass.bass_body_decay
    ∷ bars.ratio1 ∷ bars.level1 ∷ bars.ratio2 ∷ bars.level2 ∷ bars.ratio3 ∷ bars.level3 ∷ bars.ratio4 ∷ bars.level4 ∷ bars.ratio5 ∷ bars.level5 ∷ []

-- "an envelope number"
abbrev pub env_list : Adsr → List Float
env_list env = env.a ∷ env.d ∷ env.s ∷ env.r ∷ env.punch ∷ []
