-- Lines as they are printed: of a note that sounds, of one that is skipped, and of longer numbers. Assumes nothing.
use mathlib.Core.Path.{◌≡◌, refl}
use Rattle.dsl.specs.declared.wave.SeqWave.TheVariants.{Noise, Triangle, Sawtooth}
use Rattle.text_listing.specs.Digits.{digit_for, decimal_up_to, decimal_text}
use Rattle.cue_line.specs.Names.{bytes}
use Rattle.cue_line.specs.Line.{line_text}
use Rattle.std.specs.Prelude.{None, Some}

pub shows :
    (line_text (record { place = 0; step = 0; start = Some 0; sounded = 4; wave = Sawtooth; first = Some 0; draws = 0 })
    ≡ bytes "   0       0        0        4sawtooth                      0          0\n")
    × (line_text (record { place = 12; step = 96; start = None; sounded = 0; wave = Triangle; first = None; draws = 0 })
    ≡ bytes "  12      96        -        0triangle                      -          0\n")
    × (line_text (record { place = 255; step = 4095; start = Some 2047; sounded = 2048; wave = Noise; first = Some 9600; draws = 2048 })
    ≡ bytes " 255    4095     2047     2048noise                      9600       2048\n")
unfolding line_text decimal_text decimal_up_to digit_for
shows = (refl, refl, refl)
