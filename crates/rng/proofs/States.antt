-- How the state moves: by G a draw, whatever is drawn. Assumes nothing.
use Rattle.std.proofs.Common.{◌≡◌, ℕ, zero, suc, ◌+◌, ◌*◌, ◌/◌, ◌%◌, ◌^◌, ◌<◌, sym, ap, ◌∙◌, lt_of_le_of_lt, add-zero, add_assoc, mod-lt, mod-eq_of_lt, add-mul, add-one, pow_pos, shr_lt}
use native.Mathlib.Nat.{mod-add-mod}
use lib.Bits.{xor_lt}
use lib.Pow.{shr_le}
use Rattle.laws.specs.Run.{iterate}
use Rattle.rng.specs.SplitMix64.{gamma, xor_shift, mix, advance, next, state_after}

-- d draws and then x more are d + x draws
pub state_add : (s d x : ℕ) → state_after (state_after s d) x ≡ state_after s (d + x)
state_add s d x =
    mod-add-mod (s + d * gamma) (2 ^ 64) (x * gamma)
    ∙ ap (λ (k : ℕ). k % 2 ^ 64) (add_assoc s (d * gamma) (x * gamma) ∙ ap (λ (k : ℕ). s + k) (sym (add-mul d x gamma)))

-- a draw takes the state after c draws to the state after c + 1
pub state_next : (s c : ℕ) → advance (state_after s c) ≡ state_after s (c + 1)
state_next s c = state_add s c 1

-- before the first draw
pub state_none : (s : ℕ) → s < 2 ^ 64 → state_after s 0 ≡ s
state_none s h = ap (λ (k : ℕ). k % 2 ^ 64) (add-zero s) ∙ mod-eq_of_lt h

-- k draws leave s + k × G: the state after k turns of a loop that draws once a turn
pub draws_leave : (s k : ℕ) → s < 2 ^ 64 → iterate (λ i. advance) s k ≡ state_after s k
unfolding iterate
draws_leave s zero h = sym (state_none s h)
draws_leave s (suc k) h = ap advance (draws_leave s k h) ∙ state_next s k ∙ ap (state_after s) (add-one k)

-- a draw has 64 bits, of which `unit` and `bi` take the top 24
next_lt : (s : ℕ) → next s < 2 ^ 64
unfolding mix
next_lt s =
    let b = xor_shift 27 (xor_shift 30 (advance s) * 0xBF58_476D_1CE4_E5B9 % 2 ^ 64) * 0x94D0_49BB_1331_11EB % 2 ^ 64 in
    let h : b < 2 ^ 64 = mod-lt (xor_shift 27 (xor_shift 30 (advance s) * 0xBF58_476D_1CE4_E5B9 % 2 ^ 64) * 0x94D0_49BB_1331_11EB) (pow_pos 64) in
    xor_lt 64 b (b / 2 ^ 31) h (lt_of_le_of_lt (shr_le b 31) h)

pub top_lt : (s : ℕ) → next s / 2 ^ 40 < 2 ^ 24
top_lt s = shr_lt 24 40 (next_lt s)
