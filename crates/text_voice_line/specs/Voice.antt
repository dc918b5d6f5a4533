-- The line V: "V wave duty knobs (wave is the place in `SeqWave` from 0, knobs in node.rs order, none for waves that have none; knobs of the sets not written are 0;
-- .. above 17 break the form)"; the organ's drawbars, "after duty on the V line, ratio before level .. A V line without the ten uses the five pairs of `BARS`" (02, Card 14); and the drum
-- kit's style: "A V line of wave 16 carries the style, 0 to 3 in the order of `KitStyle`, after duty; otherwise its form is broken" (02, Card 8).
use Rattle.std.specs.Prelude.{ℕ, List, [], Bool, true, false, cond, length, replicate, eqb, None, Option, Some}
use Rattle.std.specs.Float.{binary32}
use Rattle.std.specs.Float.Ieee.{of_bits}
use Rattle.dsl.specs.Sets.{fm_by, pluck_by, piano_by, bass_by, drawbars_by}
use Rattle.dsl.specs.Drawbars.{BARS}
use Rattle.dsl.specs.Wave.{wave_at}
use Rattle.dsl.specs.Kit.{style_at}
use Rattle.dsl.specs.declared.kit.KitStyle.{KitStyle}
use Rattle.dsl.specs.declared.kit.KitStyle.TheVariants.{Classic}
use Rattle.dsl.specs.declared.wave.SeqWave.{SeqWave}
use Rattle.dsl.specs.declared.knobs.Drawbars.{Drawbars}
use Rattle.dsl.specs.declared.knobs.SeqVoice.{SeqVoice}
use Rattle.text_digits.specs.Read.{Read, got, broken, after, newline, byte}
use Rattle.text_lines.specs.Line.{float, word, field, ending, float_at}
use Rattle.text_voice_line.specs.declared.Sound.{Sound}

-- The places of the waves that have knobs, drawbars or a style (the law `knob_waves` names the waves).
abbrev pub fm_place : ℕ
fm_place = 5

abbrev pub pluck_place : ℕ
pluck_place = 6

abbrev pub piano_place : ℕ
piano_place = 7

abbrev pub bass_place : ℕ
bass_place = 15

abbrev pub organ_place : ℕ
organ_place = 9

abbrev pub kit_place : ℕ
kit_place = 16

abbrev pub was_read : {A : Type 0} → Read A → Bool
was_read (got v s) = true
was_read broken = false

-- whether the line ends here
unfoldable pub ends : List ℕ → Bool
ends s = was_read (byte newline s)

-- how many numbers of drawbars are written: none where the line ends after the duty, else ten
unfoldable pub bar_count : Bool → ℕ
bar_count ended = cond ended 0 10

-- how many knobs or numbers of drawbars are written, where the line ends after the duty or not
unfoldable pub knob_count : ℕ → Bool → ℕ
knob_count place ended =
    cond (eqb place fm_place) 3
    (cond (eqb place pluck_place) 4 (cond (eqb place piano_place) 5 (cond (eqb place bass_place) 10 (cond (eqb place organ_place) (bar_count ended) 0))))

-- the drawbars of some bits, `BARS` where none are written
unfoldable pub bars_of : List ℕ → Drawbars
bars_of bits = cond (eqb (length bits) 0) BARS (drawbars_by (float_at bits))

abbrev pub styled : Option KitStyle → List ℕ → Read KitStyle
styled (Some style) s = got style s
styled None s = broken

-- the style that is written, of the kit alone; the voice of another wave holds the first
unfoldable pub style_field : ℕ → List ℕ → Read KitStyle
style_field place s = cond (eqb place kit_place) (after (field word s) (λ k rest. styled (style_at k) rest)) (got Classic s)

-- the voice of a style, of the bits of each set and of the drawbars; a knob that is not written has the bits 0
abbrev pub voice_with : SeqWave → KitStyle → List ℕ → List ℕ → List ℕ → List ℕ → List ℕ → SeqVoice
voice_with wave style fm pluck piano bass bars =
    record {
      wave = wave;
      fm = fm_by (float_at fm);
      pluck = pluck_by (float_at pluck);
      piano = piano_by (float_at piano);
      bass = bass_by (float_at bass);
      bars = bars_of bars;
      kit = style;
    }

-- the voice of a wave, a style and the wave's own knobs or drawbars
unfoldable pub voice_of : ℕ → SeqWave → KitStyle → List ℕ → SeqVoice
voice_of place wave style bits =
    cond (eqb place fm_place) (voice_with wave style bits [] [] [] [])
    (cond (eqb place pluck_place) (voice_with wave style [] bits [] [] [])
    (cond (eqb place piano_place) (voice_with wave style [] [] bits [] [])
    (cond (eqb place bass_place) (voice_with wave style [] [] [] bits []) (cond (eqb place organ_place) (voice_with wave style [] [] [] [] bits) (voice_with wave style [] [] [] [] [])))))

-- the duty, the style and the knobs or drawbars of the wave at a place
unfoldable pub sound_of : ℕ → Option SeqWave → List ℕ → Read Sound
sound_of place None s = broken
sound_of place (Some w) s =
    after (field float s) (λ duty s₁.
    after (style_field place s₁) (λ style s₂.
    after (ending (replicate (knob_count place (ends s₂)) float) s₂) (λ bits next. got (record { voice = voice_of place w style bits; duty = of_bits binary32 duty }) next)))

unfoldable pub line_v : List ℕ → Read Sound
line_v s = after (byte 86 s) (λ _ s₁. after (field word s₁) (λ place s₂. sound_of place (wave_at place) s₂))
