-- 01's own text score, read; a voice with knobs; and texts that break the form, each in one place. Assumes nothing.
use Prim.Native.Nat.{ℕ}
use Prim.Native.Char.{code}
use Prim.Native.String.{String}
use Prim.Native.String as string
use mathlib.Core.Path.{◌≡◌, refl}
use mathlib.Core.List.{List, [], ◌∷◌, ◌++◌}
use lib.Ieee.{binary32, of_bits}
use Rattle.dsl.specs.Drawbars.{BARS}
use Rattle.dsl.specs.Kit.{style_at}
use Rattle.dsl.specs.Wave.{wave_at}
use Rattle.dsl.specs.declared.kit.KitStyle.TheVariants.{Classic, Eight08}
use Rattle.dsl.specs.declared.wave.SeqWave.TheVariants.{Sawtooth, Fm, Organ, Kit}
use Rattle.dsl.specs.declared.knobs.SeqVoice.{SeqVoice}
use Rattle.text_digits.specs.Read.{got, broken, digit_of, byte, hex_from, digits_from, fitting, decimal}
use Rattle.text_lines.specs.Line.{value, field, fields, before, ending, line, line_s, seed_field, draw_field, line_g, line_e}
use Rattle.text_voice_line.specs.Voice.{ends, bar_count, knob_count, bars_of, style_field, voice_of, voice_with, sound_of, line_v}
use Rattle.text_read.specs.Notes.{either_form, line_n, notes_up_to, notes_of}
use Rattle.text_read.specs.Text.{Text, text_of}

abbrev bytes : String → List ℕ
bytes string.[] = []
bytes (string.◌∷◌ c s) = code c ∷ bytes s

abbrev lines : List String → List ℕ
lines [] = []
lines (l ∷ ls) = bytes l ++ lines ls

-- the lines of the example that `play` reads
abbrev score : String
score = "S\t8000\t4\t42f00000\t4\t00000000\t00000000\n"

abbrev opening : String
opening = "G\t0000000000000000\t0\n"

abbrev envelope : String
envelope = "E\t00000000\t00000000\t3f800000\t00000000\t00000000\n"

abbrev voicing : String
voicing = "V\t2\t3f000000\n"

-- what they say, of some voice and notes
abbrev says : SeqVoice → List ℕ → Text
says voice notes =
    record {
      numbers = record { rate = 8000; n = 4; tempo = of_bits binary32 0x42f00000; steps_per_beat = 4; swing = of_bits binary32 0; humanize = of_bits binary32 0 };
      env = record { a = of_bits binary32 0; d = of_bits binary32 0; s = of_bits binary32 0x3f800000; r = of_bits binary32 0; punch = of_bits binary32 0 };
      sound = record { voice = voice; duty = of_bits binary32 0x3f000000 };
      seed = 0;
      draw = 0;
      notes = notes;
    }

abbrev Reads : List String → SeqVoice → List ℕ → Type 0
Reads ls voice notes = text_of (lines ls) ≡ got (says voice notes) []

abbrev saw : SeqVoice
saw = voice_with Sawtooth Classic [] [] [] [] []

-- drawbars, and the first nine numbers of them as they are written
abbrev registration : List ℕ
registration = 0x40000000 ∷ 0x3f800000 ∷ 0x40800000 ∷ 0xbf000000 ∷ 0 ∷ 0x80000000 ∷ 0x40c00001 ∷ 0x3f800000 ∷ 0x3fc00000 ∷ 0x3e800000 ∷ []

abbrev nine : String
nine = "\t40000000\t3f800000\t40800000\tbf000000\t00000000\t80000000\t40c00001\t3f800000\t3fc00000"

pub reads :
    Reads (score ∷ opening ∷ envelope ∷ voicing ∷ "N\t0\t1\t00000000\t3f800000\n" ∷ []) saw (0 ∷ 1 ∷ 0 ∷ 0 ∷ 0x3f800000 ∷ [])
    -- no notes
    × Reads (score ∷ opening ∷ envelope ∷ voicing ∷ []) saw []
    -- a note that stops after pitch and so has the gain 0.5, and the largest number of 32 bits
    × Reads (score ∷ opening ∷ envelope ∷ voicing ∷ "N\t0\t1\t00000000\tbf800000\n" ∷ "N\t4294967295\t12\t7fc00001\n" ∷ []) saw
    (0 ∷ 1 ∷ 0 ∷ 0 ∷ 0xbf800000 ∷ 4294967295 ∷ 12 ∷ 0 ∷ 0x7fc00001 ∷ 0x3f000000 ∷ [])
    -- knobs, of which those of the other sets are 0
    × Reads (score ∷ opening ∷ envelope ∷ "V\t5\t3f000000\t40000000\t3f800000\t3dcccccd\n" ∷ []) (voice_with Fm Classic (0x40000000 ∷ 0x3f800000 ∷ 0x3dcccccd ∷ []) [] [] [] []) []
    -- an organ with drawbars, and one without, which has `BARS`
    × Reads (score ∷ opening ∷ envelope ∷ "V\t9\t3f000000" ∷ nine ∷ "\t3e800000\n" ∷ []) (voice_with Organ Classic [] [] [] [] registration) []
    × Reads (score ∷ opening ∷ envelope ∷ "V\t9\t3f000000\n" ∷ []) (voice_with Organ Classic [] [] [] [] []) []
    × (bars_of [] ≡ BARS)
    -- a kit with its style
    × Reads (score ∷ opening ∷ envelope ∷ "V\t16\t3f000000\t3\n" ∷ []) (voice_with Kit Eight08 [] [] [] [] []) []
unfolding digit_of byte hex_from digits_from fitting decimal value field fields before ending line line_s seed_field draw_field line_g line_e
    ends bar_count knob_count bars_of style_field voice_of sound_of line_v either_form line_n notes_up_to notes_of text_of wave_at style_at
reads = (refl, refl, refl, refl, refl, refl, refl, refl)

abbrev Breaks : List String → Type 0
Breaks ls = text_of (lines ls) ≡ broken

pub breaks :
    -- nothing; a line missing; one too many; an empty one; one that is not of the form
    Breaks []
    × Breaks (score ∷ opening ∷ voicing ∷ [])
    × Breaks (score ∷ opening ∷ envelope ∷ voicing ∷ voicing ∷ [])
    × Breaks (score ∷ opening ∷ envelope ∷ voicing ∷ "\n" ∷ [])
    × Breaks (score ∷ opening ∷ envelope ∷ voicing ∷ "M\t0\t1\t00000000\t3f800000\n" ∷ [])
    -- the last line without its newline; a carriage return; a trailing tab
    × Breaks (score ∷ opening ∷ envelope ∷ voicing ∷ "N\t0\t1\t00000000\t3f800000" ∷ [])
    × Breaks (score ∷ opening ∷ envelope ∷ voicing ∷ "N\t0\t1\t00000000\t3f800000\r\n" ∷ [])
    × Breaks (score ∷ opening ∷ envelope ∷ voicing ∷ "N\t0\t1\t00000000\t\n" ∷ [])
    -- a leading zero; a sign; an uppercase digit; a digit missing; 2^32
    × Breaks (score ∷ opening ∷ envelope ∷ voicing ∷ "N\t00\t1\t00000000\t3f800000\n" ∷ [])
    × Breaks (score ∷ opening ∷ envelope ∷ voicing ∷ "N\t+1\t1\t00000000\t3f800000\n" ∷ [])
    × Breaks (score ∷ opening ∷ envelope ∷ voicing ∷ "N\t0\t1\t00000000\t3F800000\n" ∷ [])
    × Breaks (score ∷ opening ∷ envelope ∷ voicing ∷ "N\t0\t1\t0000000\t3f800000\n" ∷ [])
    × Breaks (score ∷ opening ∷ envelope ∷ voicing ∷ "N\t4294967296\t1\t00000000\t3f800000\n" ∷ [])
    -- a draw of 2^64
    × Breaks (score ∷ "G\t0000000000000000\t18446744073709551616\n" ∷ envelope ∷ voicing ∷ [])
    -- no such wave; a knob missing; one too many
    × Breaks (score ∷ opening ∷ envelope ∷ "V\t18\t3f000000\n" ∷ [])
    × Breaks (score ∷ opening ∷ envelope ∷ "V\t5\t3f000000\t40000000\t3f800000\n" ∷ [])
    × Breaks (score ∷ opening ∷ envelope ∷ "V\t2\t3f000000\t00000000\n" ∷ [])
    -- a kit without a style; of no such style; of two; another wave with one
    × Breaks (score ∷ opening ∷ envelope ∷ "V\t16\t3f000000\n" ∷ [])
    × Breaks (score ∷ opening ∷ envelope ∷ "V\t16\t3f000000\t4\n" ∷ [])
    × Breaks (score ∷ opening ∷ envelope ∷ "V\t16\t3f000000\t0\t0\n" ∷ [])
    × Breaks (score ∷ opening ∷ envelope ∷ "V\t17\t3f000000\t0\n" ∷ [])
    -- an organ of one, nine and eleven numbers
    × Breaks (score ∷ opening ∷ envelope ∷ "V\t9\t3f000000\t40000000\n" ∷ [])
    × Breaks (score ∷ opening ∷ envelope ∷ "V\t9\t3f000000" ∷ nine ∷ "\n" ∷ [])
    × Breaks (score ∷ opening ∷ envelope ∷ "V\t9\t3f000000" ∷ nine ∷ "\t3e800000\t40000000\n" ∷ [])
unfolding digit_of byte hex_from digits_from fitting decimal value field fields before ending line line_s seed_field draw_field line_g line_e
    ends bar_count knob_count bars_of style_field voice_of sound_of line_v either_form line_n notes_up_to notes_of text_of wave_at style_at
breaks = (refl, refl, refl, refl, refl, refl, refl, refl, refl, refl, refl, refl, refl, refl, refl, refl, refl, refl, refl, refl, refl, refl, refl, refl)
