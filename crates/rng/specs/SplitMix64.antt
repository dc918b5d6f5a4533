-- SplitMix64, as published (Steele, Lea and Flood 2014; Vigna's splitmix64.c), on numbers below 2 ^ 64. A shift right by k is a division by 2 ^ k.
use Rattle.std.specs.Prelude.{ℕ, ◌+◌, ◌*◌, ◌/◌, ◌%◌, ◌^◌, bit_xor}

-- G of 01
abbrev pub gamma : ℕ
gamma = 0x9E37_79B9_7F4A_7C15

-- z ^ (z >> k)
abbrev pub xor_shift : ℕ → ℕ → ℕ
xor_shift k z = bit_xor z (z / 2 ^ k)

unfoldable pub mix : ℕ → ℕ
mix z =
    let a = xor_shift 30 z * 0xBF58_476D_1CE4_E5B9 % 2 ^ 64 in
    let b = xor_shift 27 a * 0x94D0_49BB_1331_11EB % 2 ^ 64 in
    xor_shift 31 b

-- "the state gains G": the state after a draw from the state s
abbrev pub advance : ℕ → ℕ
advance s = (s + gamma) % 2 ^ 64

-- "then `splitmix_mix`": what a draw from the state s gives
abbrev pub next : ℕ → ℕ
next s = mix (advance s)

-- "Setting it at draw c, state s + c × G modulo 2^64"
abbrev pub state_after : ℕ → ℕ → ℕ
state_after s c = (s + c * gamma) % 2 ^ 64
