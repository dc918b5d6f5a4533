-- Use at the returns of the line V. `knob_waves` names the waves that have knobs, drawbars or a style. Assumes nothing.
use Prim.Native.Nat.{ℕ, zero, suc, ◌≤◌}
use mathlib.Core.Path.{◌≡◌, refl, sym, ap, ◌∙◌}
use mathlib.Core.List.{List, ◌∷◌}
use mathlib.Core.Bool.{Bool, true, false, cond}
use native.Mathlib.Omega.{arith}
use lib.ListN.{length, take, replicate, length-replicate}
use lib.Seq.{length-take-le}
use lib.Dec.{eqb}
use lib.Ieee.{binary32, of_bits}
use Rattle.dsl.specs.Wave.{wave_at}
use Rattle.dsl.specs.declared.kit.KitStyle.{KitStyle}
use Rattle.dsl.specs.declared.wave.SeqWave.{SeqWave}
use Rattle.dsl.specs.declared.wave.SeqWave.TheVariants.{Fm, Pluck, Piano, Organ, Bass, Kit}
use Rattle.std.specs.Prelude.{Option, Some, None, is_some}
use Rattle.text_digits.specs.Read.{Read, got, broken}
use Rattle.text_digits.specs.Answers.{place_in}
use Rattle.text_lines.specs.Line.{float, field, ending}
use Rattle.text_voice_line.specs.Voice.{was_read, fm_place, pluck_place, piano_place, bass_place, organ_place, kit_place, ends, bar_count, knob_count, style_field, voice_of, sound_of}

pub knob_waves :
    (wave_at fm_place ≡ Some Fm) × (wave_at pluck_place ≡ Some Pluck) × (wave_at piano_place ≡ Some Piano) × (wave_at bass_place ≡ Some Bass) × (wave_at organ_place ≡ Some Organ)
    × (wave_at kit_place ≡ Some Kit)
unfolding wave_at
knob_waves = (refl, refl, refl, refl, refl, refl)

-- what was placed was read
pub placed_read : (s : List ℕ) (b : ℕ) (r : Option ℕ) {x : Read ℕ} → place_in s b r ≡ x → is_some r ≡ was_read x
placed_read s b (Some next) e = rw (← e)
placed_read s b None e = rw (← e)

both_most : (t : Bool) {x y m : ℕ} → x ≤ m → y ≤ m → cond t x y ≤ m
both_most true h l = h
both_most false h l = l

pub knobs_few : (place : ℕ) (ended : Bool) {k : ℕ} → k ≡ knob_count place ended → k ≤ 10
unfolding knob_count bar_count
knobs_few place ended e =
    rw e
    (both_most (eqb place fm_place) (omega arith)
    (both_most (eqb place pluck_place) (omega arith)
    (both_most (eqb place piano_place) (omega arith)
    (both_most (eqb place bass_place) (omega arith) (both_most (eqb place organ_place) (both_most ended (omega arith) (omega arith)) (omega arith))))))

take_replicate : (k n a : ℕ) → k ≤ n → take k (replicate n a) ≡ replicate k a
take_replicate zero n a h = refl
take_replicate (suc k) zero a h = absurd (omega arith)
take_replicate (suc k) (suc n) a h = ap (λ (l : List ℕ). a ∷ l) (take_replicate k n a (omega arith))

module _ (place : ℕ) (ended : Bool) {k : ℕ} (e : k ≡ knob_count place ended) where
  kinds_are : take k (replicate 10 float) ≡ replicate (knob_count place ended) float
  kinds_are = take_replicate k 10 float (knobs_few place ended e) ∙ ap (λ (n : ℕ). replicate n float) e

  pub kinds_length : k ≡ length (take k (replicate 10 float))
  kinds_length = sym (ap length (take_replicate k 10 float (knobs_few place ended e)) ∙ length-replicate k float)

  pub bits_few : (bits : List ℕ) → length bits ≡ 10 → k ≤ length bits
  bits_few bits h = let l = knobs_few place ended e in omega arith

  pub bits_length : (bits : List ℕ) → length bits ≡ 10 → k ≡ length (take k bits)
  bits_length bits h = sym (length-take-le k bits (bits_few bits h))

  module _ (w : SeqWave) (x : List ℕ) {duty : ℕ} {x₁ y : List ℕ} {style : KitStyle} (d : got duty x₁ ≡ field float x) (t : got style y ≡ style_field place x₁) (o : ended ≡ ends y) where
    kinds_written : take k (replicate 10 float) ≡ replicate (knob_count place (ends y)) float
    kinds_written = kinds_are ∙ ap (λ (b : Bool). replicate (knob_count place b) float) o

    pub sound_none : broken ≡ ending (take k (replicate 10 float)) y → broken ≡ sound_of place (Some w) x
    unfolding sound_of
    sound_none h = rw (← d, ← t, ← (rw kinds_written at h))

    pub sound_read : (bits : List ℕ) {z : List ℕ} → got (take (length (take k (replicate 10 float))) bits) z ≡ ending (take k (replicate 10 float)) y
        → got (record { voice = voice_of place w style (take k bits); duty = of_bits binary32 duty }) z ≡ sound_of place (Some w) x
    unfolding sound_of
    sound_read bits h = rw (← d, ← t, ← (rw (← kinds_length, kinds_written) at h))
