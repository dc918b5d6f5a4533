-- How long a line is: 72 columns and the line feed, where each text fits its column. Assumes nothing.
use Prim.Native.Nat.{ℕ, suc, ◌+◌, ◌-◌, ◌^◌, ◌≤◌, ◌<◌}
use mathlib.Core.Path.{◌≡◌, refl, ◌∙◌}
use mathlib.Core.List.{List, ◌++◌}
use native.Mathlib.Omega.{arith}
use lib.ListN.{length, length-append, length-replicate}
use Rattle.dsl.specs.declared.wave.SeqWave.{SeqWave}
use Rattle.dsl.specs.declared.wave.SeqWave.TheVariants.{Square, Triangle, Sawtooth, Sine, Noise, Fm, Pluck, Piano, Epiano, Organ, Strings, Brass, Flute, Mallet, Bell, Bass, Kit, Cowbell}
use Rattle.text_listing.specs.Digits.{decimal_text}
use Rattle.text_listing.specs.Lines.{line_end}
use Rattle.text_listing.proofs.Numbers.{decimal_length}
use Rattle.cue_line.specs.Columns.{spaces, right, left, cell_text}
use Rattle.cue_line.specs.Names.{wave_name}
use Rattle.cue_line.specs.Line.{time_text, sound_text, line_text}
use Rattle.cue_line.specs.declared.line.Cue.{Cue}

right_width : (width : ℕ) (text : List ℕ) → length text ≤ width → length (right width text) ≡ width
right_width width text h =
    let a = length-append (spaces (width - length text)) text in
    let r : length (spaces (width - length text)) ≡ width - length text = length-replicate {A = ℕ} (width - length text) 32 in
    omega arith

-- a number below 10^(suc k) in k + 1 columns or more
number_width : (width k v : ℕ) → v < 10 ^ suc k → suc k ≤ width → length (right width (decimal_text v)) ≡ width
number_width width k v h l = let d = decimal_length k v h in right_width width (decimal_text v) (omega arith)

-- every name fits
name_width : (wave : SeqWave) → length (left 10 (wave_name wave)) ≡ 10
name_width Square = refl
name_width Triangle = refl
name_width Sawtooth = refl
name_width Sine = refl
name_width Noise = refl
name_width Fm = refl
name_width Pluck = refl
name_width Piano = refl
name_width Epiano = refl
name_width Organ = refl
name_width Strings = refl
name_width Brass = refl
name_width Flute = refl
name_width Mallet = refl
name_width Bell = refl
name_width Bass = refl
name_width Kit = refl
name_width Cowbell = refl

pub record Fitting (c : Cue) : Type 0 where
  pub place : c.place < 10 ^ 4
  pub step : c.step < 10 ^ 8
  pub start : length (cell_text c.start) ≤ 9
  pub sounded : c.sounded < 10 ^ 9
  pub first : length (cell_text c.first) ≤ 21
  pub draws : c.draws < 10 ^ 11

module _ (c : Cue) (f : Fitting c) where
  time_width : length (time_text c) ≡ 30
  time_width =
      let a = number_width 4 3 c.place f.place (omega arith) in
      let b = number_width 8 7 c.step f.step (omega arith) in
      let d = right_width 9 (cell_text c.start) f.start in
      let e = number_width 9 8 c.sounded f.sounded (omega arith) in
      let x = length-append (right 4 (decimal_text c.place)) (right 8 (decimal_text c.step) ++ (right 9 (cell_text c.start) ++ right 9 (decimal_text c.sounded))) in
      let y = length-append (right 8 (decimal_text c.step)) (right 9 (cell_text c.start) ++ right 9 (decimal_text c.sounded)) in
      let z = length-append (right 9 (cell_text c.start)) (right 9 (decimal_text c.sounded)) in
      omega arith

  sound_width : length (sound_text c) ≡ 43
  sound_width =
      let a = name_width c.wave in
      let b = right_width 21 (cell_text c.first) f.first in
      let d = number_width 11 10 c.draws f.draws (omega arith) in
      let x = length-append (left 10 (wave_name c.wave)) (right 21 (cell_text c.first) ++ (right 11 (decimal_text c.draws) ++ line_end)) in
      let y = length-append (right 21 (cell_text c.first)) (right 11 (decimal_text c.draws) ++ line_end) in
      let z = length-append (right 11 (decimal_text c.draws)) line_end in
      omega arith

  -- "72 columns .. a line feed is added"
  pub line_width : length (line_text c) ≡ 73
  unfolding line_text
  line_width = length-append (time_text c) (sound_text c) ∙ omega (arith, time_width, sound_width)
