-- The first part of `piano_note`: the tone of a note, and the partials that it starts with.
use Rattle.std.specs.Prelude.{ℕ, zero, suc, cond, List, [], ◌∷◌, Float}
use Rattle.std.specs.Float.{binary32}
use Rattle.std.specs.Float.Ieee.{lt}
use Rattle.ieee.specs.Numbers.{c0, c0·001, c0·01, c0·45, c0·5, c0·55, c1, c10, c20, f32}
use Rattle.ieee.specs.Binary32.{◌⊕◌, ◌⊖◌, ◌⊗◌, ◌⊘◌}
use Rattle.ieee.specs.Order.{max_of, clamp_of}
use Rattle.ieee.specs.Root.{sqrt_of}
use Rattle.ieee.specs.Sign.{abs_of}
use Rattle.ieee.specs.Whole.{fract_of}
use Rattle.dsp.specs.Kernels.{sin_of, powf_of, one_pole}
use Rattle.dsl.specs.declared.knobs.PianoKnobs.{PianoKnobs}
use Rattle.voice_piano.specs.Constants.{PI, c7e-5, c5e-5, c1·2e-3, c0·05, c0·18, c0·381966, c0·618034, c9, c55, c110}
use Rattle.voice_piano.specs.declared.hammer.Blow.{Blow}
use Rattle.voice_piano.specs.declared.hammer.Partial.{Partial}

-- `f0`, `b_inharm`, `base_decay`, `strike`, `bright` and `hammer` of the source; `pitch` is the pitch at frame 0
unfoldable pub blow_of : PianoKnobs → Float → Float → Blow
blow_of k gain pitch =
    let inharm = max_of k.piano_inharm c0 in
    let f0 = max_of pitch c20 in
    record {
      f0 = f0;
      stretch = clamp_of (c7e-5 ⊗ inharm ⊗ (f0 ⊘ c55)) (c5e-5 ⊗ inharm) (c1·2e-3 ⊗ inharm);
      decay = clamp_of (c10 ⊗ k.piano_decay ⊘ (c1 ⊕ f0 ⊘ c110)) c0·45 c9;
      strike = clamp_of k.piano_strike c0·01 c0·5;
      bright = c0·45 ⊕ c0·55 ⊗ gain;
      hammer = max_of k.piano_hammer c0·001;
    }

unfoldable pub ratio_of : Float → ℕ → Float
ratio_of stretch k = let kf = f32 k in kf ⊗ sqrt_of (c1 ⊕ stretch ⊗ kf ⊗ kf)

unfoldable pub partial_of : Blow → Float → ℕ → Float → Partial
partial_of b srf k ratio =
    let kf = f32 k in
    let notch = abs_of (sin_of (PI ⊗ kf ⊗ b.strike)) in
    let decay = max_of (b.decay ⊘ (c1 ⊕ c0·55 ⊗ (kf ⊖ c1))) c0·05 in
    record {
      step = ratio;
      amp = notch ⊘ kf ⊗ powf_of b.bright ((kf ⊖ c1) ⊗ c0·18 ⊘ b.hammer);
      env = c1;
      dmul = one_pole decay srf;
      phase0 = fract_of binary32 (kf ⊗ c0·618034);
      phase1 = fract_of binary32 (kf ⊗ c0·381966);
    }

-- "Piano stops at 18 partials or when ratio × f0 > 0.45 × rate": the partials from k on, at most m of them
unfoldable pub partials_from : Blow → Float → ℕ → ℕ → List Partial
partials_from b srf zero k = []
partials_from b srf (suc m) k =
    let ratio = ratio_of b.stretch k in
    cond (lt (c0·45 ⊗ srf) (ratio ⊗ b.f0)) [] (partial_of b srf k ratio ∷ partials_from b srf m (suc k))

abbrev pub partials_of : Blow → Float → List Partial
partials_of b srf = partials_from b srf 18 1
