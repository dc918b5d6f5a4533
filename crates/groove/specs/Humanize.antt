-- "With humanize above 0 a generator of its own gives first timing, then gain; its seed is step × 2^32 xor len × 2^8 xor 6A09E667 xor the pitch identity rotated left by 17 (constants hexadecimal)."
use Rattle.std.specs.Prelude.{ℕ, ◌*◌, ◌^◌, bit_xor, to_bits}
use Rattle.std.specs.Float.{binary32}
use Rattle.word.specs.Rotate.{rotated}
use Rattle.rng.specs.SplitMix64.{advance}
use Rattle.rng.specs.Draw.{bi_from}
use Rattle.dsl.specs.declared.pitch.Pitch.{Pitch}
use Rattle.dsl.specs.declared.pitch.Pitch.TheVariants.{Const, Curve}
use Rattle.dsl.specs.declared.note.SeqNote.{SeqNote}
use Rattle.groove.specs.declared.humanize.HumanDraws.{HumanDraws}

-- "A constant's identity is its f32 bits, a curve's 4D4F4455."
unfoldable pub identity_of : Pitch → ℕ
identity_of (Const x) = to_bits binary32 x
identity_of (Curve offset) = 0x4D4F4455

unfoldable pub seed_of : SeqNote → ℕ
seed_of note = bit_xor (bit_xor (bit_xor (note.step * 2 ^ 32) (note.len * 2 ^ 8)) 0x6A09E667) (rotated (identity_of note.pitch) 17)

-- "first timing, then gain"
unfoldable pub humanize_draws : SeqNote → HumanDraws
humanize_draws note =
    let s = seed_of note in
    record { timing = bi_from s; gain = bi_from (advance s) }
